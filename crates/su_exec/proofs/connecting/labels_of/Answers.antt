-- Rows with one label are connected by what was looked at so far. In the end each row has the label of the first row of each of its variables, and what a comparison compares has one label, so that connected rows have one label.
use Rattle.std.proofs.Common.{◌≡◌, ◌<◌, ◌≤◌, List, ℕ, length, get_or, sym, ap, subst, ◌∙◌, ⊎_elim, arith}
use Rattle.std.specs.List.{range_with_len}
use Rattle.std.proofs.lemmas.Bool.{cases_lt}
use Rattle.std.proofs.lemmas.List.{with_items_is}
use Rattle.su_base.proofs.Items.{get_or-is}
use Rattle.su_exec.specs.declared.tasks.Compared.{Compared}
use Rattle.su_exec.specs.inside.Labels.{AreLabels, KeepsLabels, label_of}
use Rattle.su_exec.specs.Tasks.{StandsIn}
use Rattle.su_exec.proofs.Firsts.{first_exists}
use Rattle.su_exec.proofs.Labels.{labelling_is, own_are_labels}
use Rattle.su_exec.proofs.connecting.labels_of.Goals as goal

pub loop-i-init : goal.loop-i-init
loop-i-init c = record {
  labels = own_are_labels c.args.task.now c.in_ok-labels.labels.items (c.in_ok-labels.ensures ∙ ap (range_with_len 0) c.len.ensures);
  shared = λ i k first l s is. absurd (omega arith);
}

pub join_row-requires-clause-labels : goal.join_row-requires-clause-labels
join_row-requires-clause-labels c = subst (λ (xs : List ℕ). AreLabels c.args.task.now xs) (sym c.deref_mut.ensures.value) c.loop-i.invariant.labels

pub join_row-requires-clause-row : goal.join_row-requires-clause-row
join_row-requires-clause-row c =
    let e : length c.deref_mut.result.now ≡ length c.loop-i.labels.items = ap length c.deref_mut.ensures.value in
    let n = c.loop-i.invariant.labels.count in
    let test = c.loop-i-test.true in
    let end = c.len-i-end.ensures in
    omega arith

pub loop-i-preserved : goal.loop-i-preserved
loop-i-preserved c =
    let task = c.args.task.now in
    let olds = c.loop-i.labels.items in
    let news = c.join_row.new.labels in
    let i = c.loop-i.i in
    let whole = with_items_is c.loop-i.labels news (c.join_row.auto.labels ∙ c.deref_mut.ensures.len) in
    let kept : KeepsLabels olds news = subst (λ (xs : List ℕ). KeepsLabels xs news) c.deref_mut.ensures.value c.join_row.ensures.kept in
    let n = c.loop-i.invariant.labels.count in
    rw whole (record {
      labels = c.join_row.ensures.labels;
      shared = λ j k first l s is.
          let a = s.below in
          let b = is.stands.below in
          ⊎_elim
          (λ (m : j < i). kept j first (omega arith) (omega arith) (c.loop-i.invariant.shared j k first m s is))
          (λ (m : i ≤ j).
          let same : j ≡ i = omega arith in
          subst (λ j. label_of news j ≡ label_of news first) (sym same) (c.join_row.ensures.joined k first (subst (λ j. StandsIn task k j) same s) is))
          (cases_lt j i);
    })

pub loop-compared-init : goal.loop-compared-init
loop-compared-init c =
    let test = c.loop-i-test.false in
    let end = c.len-i-end.ensures in
    record {
      labels = c.loop-i.invariant.labels;
      shared = λ i k first s is. c.loop-i.invariant.shared i k first (let a = s.below in omega arith) s is;
      compared = λ n k m i j d l e f a b. absurd (omega arith);
    }

pub join_compared-requires-clause-labels : goal.join_compared-requires-clause-labels
join_compared-requires-clause-labels c = subst (λ (xs : List ℕ). AreLabels c.args.task.now xs) (sym c.deref_mut-in-loop-compared.ensures.value) c.loop-compared.invariant.labels

pub join_compared-requires-clause-compared : goal.join_compared-requires-clause-compared
join_compared-requires-clause-compared c =
    let list : List Compared = c.args.task.now.comparisons in
    let items = c.as_slice-compared-items.ensures in
    let i = c.loop-compared.compared-index in
    let item : Compared = c.compared-item.result in
    (i, subst (λ (xs : List Compared). i < length xs) items c.loop-compared-test.true, sym (c.compared-item.is ∙ ap (λ (xs : List Compared). get_or xs i item) items))

pub loop-compared-preserved : goal.loop-compared-preserved
loop-compared-preserved c =
    let task = c.args.task.now in
    let list : List Compared = task.comparisons in
    let item : Compared = c.compared-item.result in
    let items = c.as_slice-compared-items.ensures in
    let within : c.loop-compared.compared-index < length list = subst (λ (xs : List Compared). c.loop-compared.compared-index < length xs) items c.loop-compared-test.true in
    let read : item ≡ get_or list c.loop-compared.compared-index item = c.compared-item.is ∙ ap (λ (xs : List Compared). get_or xs c.loop-compared.compared-index item) items in
    let olds = c.loop-compared.labels.items in
    let news = c.join_compared.new.labels in
    let n = c.loop-compared.compared-index in
    let whole = with_items_is c.loop-compared.labels news (c.join_compared.auto.labels ∙ c.deref_mut-in-loop-compared.ensures.len) in
    let kept : KeepsLabels olds news = subst (λ (xs : List ℕ). KeepsLabels xs news) c.deref_mut-in-loop-compared.ensures.value c.join_compared.ensures.kept in
    let count = c.loop-compared.invariant.labels.count in
    rw whole (record {
      labels = c.join_compared.ensures.labels;
      shared = λ j k first s is.
          let a = s.below in
          let b = is.stands.below in
          kept j first (omega arith) (omega arith) (c.loop-compared.invariant.shared j k first s is);
      compared = λ m k o i j d l e f a b.
          let x = a.stands.below in
          let y = b.stands.below in
          ⊎_elim
          (λ (p : m < n). kept i j (omega arith) (omega arith) (c.loop-compared.invariant.compared m k o i j d p e f a b))
          (λ (p : n ≤ m).
          let same : m ≡ n = omega arith in
          let is : get_or list m d ≡ item = ap (λ m. get_or list m d) same ∙ get_or-is list n item d within read in
          c.join_compared.ensures.joined k o i j (ap (λ (x : Compared). x.left) (sym is) ∙ e) (ap (λ (x : Compared). x.right) (sym is) ∙ f) a b)
          (cases_lt m n);
    })

pub returns-clause-joined : goal.returns-clause-joined
returns-clause-joined c =
    let task = c.args.task.now in
    let list : List Compared = task.comparisons in
    let ls = c.loop-compared.labels.items in
    let end : length list ≤ c.loop-compared.compared-index = subst (λ (xs : List Compared). length xs ≤ c.loop-compared.compared-index) c.as_slice-compared-items.ensures (let test = c.loop-compared-test.false in omega arith) in
    labelling_is task ls (λ k i s. first_exists task k i s) c.loop-compared.invariant.shared
    (λ k l i j x a b.
    let m = x.of_task in
    let ml = m.1 in
    c.loop-compared.invariant.compared m.0 k l i j x.comparison (omega arith) (ap (λ (y : Compared). y.left) m.2 ∙ x.left) (ap (λ (y : Compared). y.right) m.2 ∙ x.right) a b)
