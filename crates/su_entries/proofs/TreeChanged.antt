-- A tree that is changed row by row.
use Rattle.std.proofs.Common.{◌≡◌, ◌+◌, ◌<◌, ◌≤◌, inl, inr, eq-eqb, ne_eqb, ℕ, List, [], ◌∷◌, ◌++◌, length, take, get_or, map, All, refl, sym, ap, subst, ◌∙◌, arith}
use Rattle.std.proofs.lemmas.Bool.{cases_eq}
use Rattle.std.proofs.lemmas.List.{get_or-map, length-map, take_more, take_all}
use Rattle.std.proofs.lemmas.List.Elements.{All-get_or}
use Rattle.sqlite_disk.specs.Disk.{MoreFaults}
use Rattle.sqlite_value.specs.declared.keys.Order.{Order}
use Rattle.sqlite_value.specs.Keys.{plain}
use Rattle.sqlite_value.specs.Order.{Row as Entry}
use Rattle.sqlite_trees.specs.Tree.{Trees, order_of, with_tree, insert_entry, remove_entry}
use Rattle.sqlite_trees.specs.View.{View, HasCause, IsFailure, KeepsCommitted, IsStorable, SetsTree}
use Rattle.sqlite_trees.specs.declared.error.StoreError.{StoreError}
use Rattle.sqlite_trees.specs.declared.error.StoreError.TheVariants.{OutOfMemory, Io, Corrupt, Full, Broken, Unstorable}
use Rattle.su_base.specs.declared.values.Value.{Value as AValue}
use Rattle.su_entries.specs.Entries.{entry_of}
use Rattle.su_entries.specs.Changes.{AreStorable, ChangesTree, PutsFront, PutsIn, TakesFront, TakesOut, with_rows, without_rows}
use Rattle.su_entries.specs.TreeRows.{AreEntries, PutsRows, TakesRows}
use Rattle.su_entries.proofs.FaultStands.{kept_then}
use Rattle.su_entries.proofs.TreeOfRows.{put_in-rows, take_out-rows}

tree_at : (old new : View) (tree : ℕ) (change : List Entry → List Entry) → ChangesTree old new tree change → new.trees tree ≡ change (old.trees tree)
tree_at old new tree change done = ap (λ (v : View). v.trees tree) done ∙ rw (eq-eqb tree tree refl) refl

own_at : (trees : Trees) (tree t : ℕ) → with_tree trees tree (trees tree) t ≡ trees t
own_at trees tree t = elim (cases_eq t tree) [ inl is ↦ rw (eq-eqb t tree is) (ap trees (sym is)) | inr apart ↦ rw (ne_eqb t tree apart) refl ]

twice_at : (trees : Trees) (tree : ℕ) (a b : List Entry) (t : ℕ) → with_tree (with_tree trees tree a) tree b t ≡ with_tree trees tree b t
twice_at trees tree a b t = elim (cases_eq t tree) [ inl is ↦ rw (eq-eqb t tree is) refl | inr apart ↦ rw (ne_eqb t tree apart) refl ]

with_tree-own : (trees : Trees) (tree : ℕ) → with_tree trees tree (trees tree) ≡ trees
with_tree-own trees tree = λ i t. own_at trees tree t i

with_tree-here : (trees : Trees) (tree : ℕ) (entries : List Entry) → with_tree trees tree entries tree ≡ entries
with_tree-here trees tree entries = rw (eq-eqb tree tree refl) refl

with_tree-twice : (trees : Trees) (tree : ℕ) (a b : List Entry) → with_tree (with_tree trees tree a) tree b ≡ with_tree trees tree b
with_tree-twice trees tree a b = λ i t. twice_at trees tree a b t i

-- rows are put in one after another
with_rows-push : (order : Order) (rows : List (List AValue)) (row : List AValue) (entries : List Entry) → with_rows order (rows ++ row ∷ []) entries ≡ insert_entry order (entry_of row) (with_rows order rows entries)
with_rows-push order [] row entries = refl
with_rows-push order (first ∷ rows) row entries = with_rows-push order rows row (insert_entry order (entry_of first) entries)

pub put_none : (start : View) (tree : ℕ) (rows : List (List AValue)) → PutsIn start start tree (take 0 rows)
put_none start tree rows = ap {A = Trees} (λ trees. record start { trees = trees; cursors = start.cursors }) (sym (with_tree-own start.trees tree))

pub put_more : (start now new : View) (tree i : ℕ) (rows : List (List AValue)) (row : List AValue) (entry : Entry) → PutsIn start now tree (take i rows)
    → SetsTree now new tree (insert_entry (order_of (now.shape tree)) entry) → i < length rows → row ≡ get_or rows i row → entry ≡ entry_of row → PutsIn start new tree (take (i + 1) rows)
put_more start now new tree i rows row entry front set within is filled =
    let order = order_of (start.shape tree) in
    let front_entries = with_rows order (take i rows) (start.trees tree) in
    let one_more : take (i + 1) rows ≡ take i rows ++ row ∷ [] = take_more rows i row within ∙ ap {A = List AValue} (λ r. take i rows ++ r ∷ []) (sym is) in
    let pushed : insert_entry order (entry_of row) front_entries ≡ with_rows order (take (i + 1) rows) (start.trees tree) =
    sym (ap {A = List (List AValue)} (λ rs. with_rows order rs (start.trees tree)) one_more ∙ with_rows-push order (take i rows) row (start.trees tree)) in
    let edited = ap (insert_entry order entry) (with_tree-here start.trees tree front_entries) ∙ ap {A = Entry} (λ e. insert_entry order e front_entries) filled ∙ pushed in
    set.is ∙ ap {A = View} (λ v. record v { trees = with_tree v.trees tree (insert_entry (order_of (v.shape tree)) entry (v.trees tree)); cursors = new.cursors }) front
    ∙ ap {A = Trees} (λ trees. record start { trees = trees; cursors = new.cursors })
    (with_tree-twice start.trees tree front_entries _ ∙ ap (with_tree start.trees tree) edited)

pub put_all : (start now : View) (tree n : ℕ) (rows : List (List AValue)) → PutsIn start now tree (take n rows) → length rows ≤ n → PutsIn start now tree rows
put_all start now tree n rows front past = subst (PutsIn start now tree) (take_all n rows past) front

pub put_front : (start now : View) (tree n : ℕ) (rows : List (List AValue)) → PutsIn start now tree (take n rows) → PutsFront start now tree rows
put_front start now tree n rows front sound = (n, front)

pub put_failed : (start now new : View) (tree n : ℕ) (rows : List (List AValue)) (error : StoreError) → PutsIn start now tree (take n rows) → IsFailure now new error → PutsFront start new tree rows
put_failed start now new tree n rows error front failed sound = (n, failed.unchanged sound ∙ ap {A = View} (λ v. record v { cursors = new.cursors }) front)

-- rows are taken out one after another
without_rows-push : (order : Order) (rows : List (List AValue)) (row : List AValue) (entries : List Entry) → without_rows order (rows ++ row ∷ []) entries ≡ remove_entry order (entry_of row) (without_rows order rows entries)
without_rows-push order [] row entries = refl
without_rows-push order (first ∷ rows) row entries = without_rows-push order rows row (remove_entry order (entry_of first) entries)

pub taken_none : (start : View) (tree : ℕ) (rows : List (List AValue)) → TakesOut start start tree (take 0 rows)
taken_none start tree rows = ap {A = Trees} (λ trees. record start { trees = trees; cursors = start.cursors }) (sym (with_tree-own start.trees tree))

pub taken_more : (start now new : View) (tree i : ℕ) (rows : List (List AValue)) (row : List AValue) (entry : Entry) → TakesOut start now tree (take i rows)
    → SetsTree now new tree (remove_entry (order_of (now.shape tree)) entry) → i < length rows → row ≡ get_or rows i row → entry ≡ entry_of row → TakesOut start new tree (take (i + 1) rows)
taken_more start now new tree i rows row entry front set within is filled =
    let order = order_of (start.shape tree) in
    let front_entries = without_rows order (take i rows) (start.trees tree) in
    let one_more : take (i + 1) rows ≡ take i rows ++ row ∷ [] = take_more rows i row within ∙ ap {A = List AValue} (λ r. take i rows ++ r ∷ []) (sym is) in
    let pushed : remove_entry order (entry_of row) front_entries ≡ without_rows order (take (i + 1) rows) (start.trees tree) =
    sym (ap {A = List (List AValue)} (λ rs. without_rows order rs (start.trees tree)) one_more ∙ without_rows-push order (take i rows) row (start.trees tree)) in
    let edited = ap (remove_entry order entry) (with_tree-here start.trees tree front_entries) ∙ ap {A = Entry} (λ e. remove_entry order e front_entries) filled ∙ pushed in
    set.is ∙ ap {A = View} (λ v. record v { trees = with_tree v.trees tree (remove_entry (order_of (v.shape tree)) entry (v.trees tree)); cursors = new.cursors }) front
    ∙ ap {A = Trees} (λ trees. record start { trees = trees; cursors = new.cursors })
    (with_tree-twice start.trees tree front_entries _ ∙ ap (with_tree start.trees tree) edited)

pub taken_all : (start now : View) (tree n : ℕ) (rows : List (List AValue)) → TakesOut start now tree (take n rows) → length rows ≤ n → TakesOut start now tree rows
taken_all start now tree n rows front past = subst (TakesOut start now tree) (take_all n rows past) front

pub taken_front : (start now : View) (tree n : ℕ) (rows : List (List AValue)) → TakesOut start now tree (take n rows) → TakesFront start now tree rows
taken_front start now tree n rows front sound = (n, front)

pub taken_failed : (start now new : View) (tree n : ℕ) (rows : List (List AValue)) (error : StoreError) → TakesOut start now tree (take n rows) → IsFailure now new error → TakesFront start new tree rows
taken_failed start now new tree n rows error front failed sound = (n, failed.unchanged sound ∙ ap {A = View} (λ v. record v { cursors = new.cursors }) front)

pub puts_rows : (old new : View) (tree : ℕ) (rows : List (List AValue)) → PutsIn old new tree rows → PutsRows old new tree rows
puts_rows old new tree rows done own before after held adds =
    let order : order_of (old.shape tree) ≡ plain = ap order_of own in
    let now = tree_at old new tree (with_rows (order_of (old.shape tree)) rows) done ∙ ap (λ (o : Order). with_rows o rows (old.trees tree)) order in
    subst (λ (entries : List Entry). AreEntries entries after) (sym now) (put_in-rows (old.trees tree) rows before after held adds)

pub takes_rows : (old new : View) (tree : ℕ) (rows : List (List AValue)) → TakesOut old new tree rows → TakesRows old new tree rows
takes_rows old new tree rows done own before after held leaves =
    let order : order_of (old.shape tree) ≡ plain = ap order_of own in
    let now = tree_at old new tree (without_rows (order_of (old.shape tree)) rows) done ∙ ap (λ (o : Order). without_rows o rows (old.trees tree)) order in
    subst (λ (entries : List Entry). AreEntries entries after) (sym now) (take_out-rows (old.trees tree) rows before after held leaves)

-- what has been written so far is not committed
pub kept_so_far : (old now : View) (tree : ℕ) (entries : List Entry) → ChangesTree old now tree (λ _. entries) → KeepsCommitted old now
kept_so_far old now tree entries only = record {
  shape = ap (λ (v : View). v.shape) only;
  reals = ap (λ (v : View). v.reals) only;
  committed_shape = ap (λ (v : View). v.committed_shape) only;
  committed_reals = ap (λ (v : View). v.committed_reals) only;
  numbered = ap (λ (v : View). v.is_numbered) only;
  was_open = λ is. sym (ap (λ (v : View). v.is_open) only) ∙ is;
  committed = λ is. ap (λ (v : View). v.committed) only;
  marks = λ is. ap (λ (v : View). v.marks) only;
}

pub kept_after : (old now new : View) (tree : ℕ) (entries : List Entry) → ChangesTree old now tree (λ _. entries) → KeepsCommitted now new → KeepsCommitted old new
kept_after old now new tree entries only kept = kept_then old now new (kept_so_far old now tree entries only) kept

-- the cause of an error at one row is one at all of them
pub cause_of_all : (old now : View) (tree : ℕ) (entries : List Entry) (a b c : ℕ) (One All : Type 0) (error : StoreError) → ChangesTree old now tree (λ _. entries) → a ≤ b → (One → All)
    → HasCause now (MoreFaults b c) One error → HasCause old (MoreFaults a c) All error
cause_of_all old now tree entries a b c One All OutOfMemory only le more cause = cause
cause_of_all old now tree entries a b c One All Io only le more cause = omega (arith, le, cause)
cause_of_all old now tree entries a b c One All Corrupt only le more cause = omega (arith, le, cause)
cause_of_all old now tree entries a b c One All Full only le more cause = omega (arith, le, cause)
cause_of_all old now tree entries a b c One All Broken only le more cause = sym (ap (λ (v : View). v.is_broken) only) ∙ cause
cause_of_all old now tree entries a b c One All Unstorable only le more cause = more cause

-- where one row's entry can't be stored, not all can
pub not_all : (old now : View) (tree i : ℕ) (entries : List Entry) (rows : List (List AValue)) (row : List AValue) (entry : Entry) → ChangesTree old now tree (λ _. entries) → i < length rows
    → row ≡ get_or rows i row → entry ≡ entry_of row → (IsStorable (now.reals tree) entry → ⊥) → AreStorable (old.reals tree) rows → ⊥
not_all old now tree i entries rows row entry only within is filled bad all =
    let same : get_or (map entry_of rows) i entry ≡ entry = get_or-map entry_of rows i row entry within ∙ ap entry_of (sym is) ∙ sym filled in
    let long = length-map rows entry_of in
    let one : IsStorable (old.reals tree) entry = subst (IsStorable (old.reals tree)) same (All-get_or (IsStorable (old.reals tree)) (map entry_of rows) i entry (omega (arith, long, within)) all) in
    bad (subst (λ (v : View). IsStorable (v.reals tree) entry) (sym only) one)
