-- Over databases that are alike the kept terms of a query have the same counts.
use Rattle.std.proofs.Common.{◌≡◌, ℕ, Bool, true, false, List, [], ◌∷◌, map, Contains, Option, Some, None, refl, ap, sym, ◌∙◌, subst, arith}
use Rattle.std.proofs.lemmas.Option.{same_Some}
use Rattle.std.specs.List.{AllZip, AllByRecursion}
use Rattle.std.proofs.lemmas.List.Elements.{recursion_from_All, All-from_recursion}
use Rattle.std.specs.Ordering.{nat_cmp}
use Rattle.std.specs.FinSet.{FinSet}
use Rattle.std.specs.Cmp.Derive.{one_truth}
use Rattle.su_base.specs.declared.values.Value.{Value}
use Rattle.su_tableau.specs.declared.symbols.Sym.{Sym}
use Rattle.su_tableau.specs.Tableaux.{Tab}
use Rattle.su_tableau.specs.Valuations.{values_of}
use Rattle.su_schema.specs.SchemaValue.{SchemaValue}
use Rattle.su_schema.specs.Entries.{column_of}
use Rattle.su_reduce.specs.Ears.{AreAcyclic}
use Rattle.su_reduce.specs.declared.support.Counted.{Counted}
use Rattle.su_reduce.specs.declared.support.Support.{Support}
use Rattle.su_exec.specs.declared.tasks.Source.{Source}
use Rattle.su_exec.specs.declared.tasks.TaskRow.{TaskRow}
use Rattle.su_exec.specs.declared.tasks.Task.{Task}
use Rattle.su_state.specs.DatabaseValue.{DatabaseValue}
use Rattle.su_min.specs.Kept.{Minimised}
use Rattle.su_min.specs.Reduction.{term_at}
use Rattle.su_map.specs.Lists.{row_numbers}
use Rattle.su_tableau.specs.Parts.{cell_at, row_of}
use Rattle.su_schema.specs.SetMembers.{numbers_in}
use Rattle.su_answer.specs.Joined.{IsSourceOf, IsTaskRowOf, IsTaskOf}
use Rattle.su_answer.specs.Support.{IsCandidate, IsLeftOver, IsCountOf, IsLeftCount, IsSupport}
use Rattle.su_once.specs.States.{AreAlike}
use Rattle.su_once.specs.Answers.{OneSupport}
use Rattle.su_once.proofs.Answered.{back}
use Rattle.su_once.proofs.Closed.{one_set}
use Rattle.su_once.proofs.Counted.{no_longer}
use Rattle.su_once.proofs.Lists.{ascends_from}
use Rattle.su_answer.proofs.Few.{same_columns}

-- as many lists have a property as have one that is the same
module _ (P Q : List Value → Type 0) (f : (h : List Value) → P h → Q h) (g : (h : List Value) → Q h → P h) (m n : ℕ) (x : IsCountOf P m) (y : IsCountOf Q n) where
  same_count : m ≡ n
  same_count =
      let up = no_longer x.lists y.lists (ascends_from (λ a b. ¬ (a ≡ b)) x.lists [] (λ i j less inside. x.differ i j [] less inside)) (λ h there. (y.members h).1 (f h ((x.members h).0 there))) in
      let down = no_longer y.lists x.lists (ascends_from (λ a b. ¬ (a ≡ b)) y.lists [] (λ i j less inside. y.differ i j [] less inside)) (λ h there. (x.members h).1 (g h ((y.members h).0 there))) in
      let one = x.count in
      let other = y.count in
      omega (arith, up, down, one, other)

-- ---- two tasks of one term: the same cells, and the same sources in whichever order

record IsTwin (r q : TaskRow) : Type 0 where
  cells : r.cells ≡ q.cells
  there : (s : Source) → Contains r.sources s → Contains q.sources s
  back : (s : Source) → Contains q.sources s → Contains r.sources s

turned : (r q : TaskRow) → IsTwin r q → IsTwin q r
turned r q h = record { cells = sym h.cells; there = h.back; back = h.there }

all_turned : (rs qs : List TaskRow) → AllZip IsTwin rs qs → AllZip IsTwin qs rs
all_turned [] [] h = tt
all_turned [] (q ∷ qs) h = absurd h
all_turned (r ∷ rs) [] h = absurd h
all_turned (r ∷ rs) (q ∷ qs) h = (turned r q h.0, all_turned rs qs h.1)

same_source : (schema : SchemaValue) (attributes : List ℕ) (o : ℕ) (s u : Source) → IsSourceOf schema attributes o s → IsSourceOf schema attributes o u → u ≡ s
same_source schema attributes o s u h k =
    let object = same_Some k.object h.object (sym k.is ∙ h.is) in
    let relation : u.relation ≡ s.relation = k.relation ∙ ap (λ x. x.relation) object ∙ sym h.relation in
    let columns : u.columns ≡ s.columns = same_columns u.columns s.columns (sym k.columns ∙ ap (λ x. map (column_of x) attributes) object ∙ h.columns) in
    λ i. record { relation = relation i; columns = columns i }

module _ (schema : SchemaValue) (t : Tab) (m : ℕ) where
  same_attributes : (i : ℕ) (r q : TaskRow) (h : IsTaskRowOf schema t m i r) (k : IsTaskRowOf schema t m i q) → h.attributes ≡ k.attributes
  same_attributes i r q h k =
      one_set h.attributes k.attributes (λ c inside. (k.essential c).1 ((h.essential c).0 inside)) (λ c inside. (h.essential c).1 ((k.essential c).0 inside))

  sources_move : (i : ℕ) (r q : TaskRow) → IsTaskRowOf schema t m i r → IsTaskRowOf schema t m i q → (s : Source) → Contains r.sources s → Contains q.sources s
  sources_move i r q h k s inside =
      let (o, is, of_it) = h.from s inside in
      let (u, there, too) = k.all o is in
      let also = subst (λ (set : FinSet nat_cmp). IsSourceOf schema (numbers_in set t.width) o s) (same_attributes i r q h k) of_it in
      subst (λ (x : Source). Contains q.sources x) (same_source schema (numbers_in k.attributes t.width) o s u also too) there

  twin_row : (i : ℕ) (r q : TaskRow) → IsTaskRowOf schema t m i r → IsTaskRowOf schema t m i q → IsTwin r q
  twin_row i r q h k = record {
    cells = h.cells ∙ ap (λ set. map (cell_at (row_of t i)) (numbers_in set t.width)) (same_attributes i r q h k) ∙ sym k.cells;
    there = sources_move i r q h k;
    back = sources_move i q r k h;
  }

  twin_rows : (is : List ℕ) (rs qs : List TaskRow) → AllZip (IsTaskRowOf schema t m) is rs → AllZip (IsTaskRowOf schema t m) is qs → AllZip IsTwin rs qs
  twin_rows [] [] [] h k = tt
  twin_rows [] [] (q ∷ qs) h k = absurd k
  twin_rows [] (r ∷ rs) qs h k = absurd h
  twin_rows (i ∷ is) [] qs h k = absurd h
  twin_rows (i ∷ is) (r ∷ rs) [] h k = absurd k
  twin_rows (i ∷ is) (r ∷ rs) (q ∷ qs) h k = (twin_row i r q h.0 k.0, twin_rows is rs qs h.1 k.1)

same_cells : (rs qs : List TaskRow) → AllZip IsTwin rs qs → map (λ r. r.cells) rs ≡ map (λ r. r.cells) qs
same_cells [] [] h = refl
same_cells [] (q ∷ qs) h = absurd h
same_cells (r ∷ rs) [] h = absurd h
same_cells (r ∷ rs) (q ∷ qs) h = let first = h.0.cells in let rest = same_cells rs qs h.1 in λ i. first i ∷ rest i

-- ---- their candidates, over the same rows

module _ (a b : DatabaseValue) (alike : AreAlike a b) where
  candidate_moves : (r q : TaskRow) → IsTwin r q → (h : List Value) → IsCandidate a.tables r h → IsCandidate b.tables q h
  candidate_moves r q twin h x = record {
    valuation = x.valuation;
    agrees = record {
      source = x.agrees.source;
      of_row = twin.there x.agrees.source x.agrees.of_row;
      stored = x.agrees.stored;
      in_table = (alike.rows x.agrees.source.relation x.agrees.stored).0 x.agrees.in_table;
      same = x.agrees.same ∙ ap (values_of x.valuation) twin.cells;
    };
    gives = ap (values_of x.valuation) (sym twin.cells) ∙ x.gives;
  }

  choice_moves : (v : ℕ → Value) (r q : TaskRow) → IsTwin r q → IsCandidate a.tables r (values_of v r.cells) → IsCandidate b.tables q (values_of v q.cells)
  choice_moves v r q twin x = subst (λ (cells : List Sym). IsCandidate b.tables q (values_of v cells)) twin.cells (candidate_moves r q twin (values_of v r.cells) x)

  choices_move : (v : ℕ → Value) (rs qs : List TaskRow) → AllZip IsTwin rs qs → AllByRecursion (λ r. IsCandidate a.tables r (values_of v r.cells)) rs → AllByRecursion (λ r. IsCandidate b.tables r (values_of v r.cells)) qs
  choices_move v [] [] twins x = tt
  choices_move v [] (q ∷ qs) twins x = absurd twins
  choices_move v (r ∷ rs) [] twins x = absurd twins
  choices_move v (r ∷ rs) (q ∷ qs) twins x = (choice_moves v r q twins.0 x.0, choices_move v rs qs twins.1 x.1)

  left_moves : (p q : Task) → AllZip IsTwin p.rows q.rows → (r u : TaskRow) → IsTwin r u → (h : List Value) → IsLeftOver a.tables p r h → IsLeftOver b.tables q u h
  left_moves p q twins r u twin h x =
      let v = x.valuation in
      let given = recursion_from_All (λ r. IsCandidate a.tables r (values_of v r.cells)) p.rows x.chooses in
      record {
        valuation = v;
        chooses = All-from_recursion (λ r. IsCandidate b.tables r (values_of v r.cells)) q.rows (choices_move v p.rows q.rows twins given);
        gives = ap (values_of v) (sym twin.cells) ∙ x.gives;
      }

-- ---- their counts

module _ (a b : DatabaseValue) (alike : AreAlike a b) (p q : Task) (twins : AllZip IsTwin p.rows q.rows) where
  one_left : (v : Bool) (r u : TaskRow) → IsTwin r u → (m n : Option ℕ) → IsLeftCount a.tables p v r m → IsLeftCount b.tables q v u n → m ≡ n
  one_left true r u twin (Some m) (Some n) h k =
      let forth = left_moves a b alike p q twins r u twin in
      let return = left_moves b a (back a b alike) q p (all_turned p.rows q.rows twins) u r (turned r u twin) in
      ap Some (same_count (IsLeftOver a.tables p r) (IsLeftOver b.tables q u) forth return m n h k)
  one_left true r u twin (Some m) None h k = absurd k
  one_left true r u twin None n h k = absurd h
  one_left false r u twin (Some m) n h k = absurd h
  one_left false r u twin None (Some n) h k = absurd k
  one_left false r u twin None None h k = refl

  one_candidates : (r u : TaskRow) → IsTwin r u → (m n : ℕ) → IsCountOf (IsCandidate a.tables r) m → IsCountOf (IsCandidate b.tables u) n → m ≡ n
  one_candidates r u twin m n h k = same_count (IsCandidate a.tables r) (IsCandidate b.tables u) (candidate_moves a b alike r u twin) (candidate_moves b a (back a b alike) u r (turned r u twin)) m n h k

  one_counted : (v : Bool) (rs us : List TaskRow) → AllZip IsTwin rs us → (xs ys : List Counted) → map (λ c. c.row) xs ≡ map (λ c. c.row) ys
      → AllZip (λ r c. IsCountOf (IsCandidate a.tables r) c.candidates) rs xs → AllZip (λ r c. IsCountOf (IsCandidate b.tables r) c.candidates) us ys
      → AllZip (λ r c. IsLeftCount a.tables p v r c.left) rs xs → AllZip (λ r c. IsLeftCount b.tables q v r c.left) us ys → xs ≡ ys
  one_counted v [] [] all [] [] e h k h' k' = refl
  one_counted v [] [] all [] (y ∷ ys) e h k h' k' = absurd k
  one_counted v [] [] all (x ∷ xs) ys e h k h' k' = absurd h
  one_counted v [] (u ∷ us) all xs ys e h k h' k' = absurd all
  one_counted v (r ∷ rs) [] all xs ys e h k h' k' = absurd all
  one_counted v (r ∷ rs) (u ∷ us) all [] ys e h k h' k' = absurd h
  one_counted v (r ∷ rs) (u ∷ us) all (x ∷ xs) [] e h k h' k' = absurd k
  one_counted v (r ∷ rs) (u ∷ us) all (x ∷ xs) (y ∷ ys) e h k h' k' =
      let row : x.row ≡ y.row = cc in
      let numbers : map (λ c. c.row) xs ≡ map (λ c. c.row) ys = cc in
      let candidates = one_candidates r u all.0 x.candidates y.candidates h.0 k.0 in
      let left = one_left v r u all.0 x.left y.left h'.0 k'.0 in
      let rest = one_counted v rs us all.1 xs ys numbers h.1 k.1 h'.1 k'.1 in
      λ i. record { row = row i; candidates = candidates i; left = left i } ∷ rest i

module _ (a b : DatabaseValue) (alike : AreAlike a b) where
  one_support : (m : Minimised) (s t : Support) → IsSupport a m s → IsSupport b m t → s.term ≡ t.term → s ≡ t
  one_support m s t h k term =
      let is_task : IsTaskOf a.schema m.tableau m.mask k.task = subst (λ (schema : SchemaValue). IsTaskOf schema m.tableau m.mask k.task) (sym alike.schema) k.is_task in
      let twins = twin_rows a.schema m.tableau m.mask (row_numbers m.tableau m.mask) h.task.rows k.task.rows h.is_task.rows is_task.rows in
      let edges = same_cells h.task.rows k.task.rows twins in
      let acyclic = one_truth s.acyclic t.acyclic (λ yes. k.acyclic.1 (subst AreAcyclic edges (h.acyclic.0 yes))) (λ yes. h.acyclic.1 (subst AreAcyclic (sym edges) (k.acyclic.0 yes))) in
      let left = subst (λ (v : Bool). AllZip (λ r c. IsLeftCount b.tables k.task v r c.left) k.task.rows t.rows) (sym acyclic) k.left in
      let rows = one_counted a b alike h.task k.task twins s.acyclic h.task.rows k.task.rows twins s.rows t.rows (h.numbers ∙ sym k.numbers) h.candidates k.candidates h.left left in
      λ i. record { term = term i; acyclic = acyclic i; rows = rows i }

  one_list : (ms : List Minimised) (kept : List ℕ) (ss ts : List Support) → AllZip (λ k s. (s.term ≡ k) × IsSupport a (term_at ms k) s) kept ss → AllZip (λ k s. (s.term ≡ k) × IsSupport b (term_at ms k) s) kept ts → ss ≡ ts
  one_list ms [] [] [] h k = refl
  one_list ms [] [] (t ∷ ts) h k = absurd k
  one_list ms [] (s ∷ ss) ts h k = absurd h
  one_list ms (i ∷ is) [] ts h k = absurd h
  one_list ms (i ∷ is) (s ∷ ss) [] h k = absurd k
  one_list ms (i ∷ is) (s ∷ ss) (t ∷ ts) h k =
      let first = one_support (term_at ms i) s t h.0.1 k.0.1 (h.0.0 ∙ sym k.0.0) in
      let rest = one_list ms is ss ts h.1 k.1 in
      λ j. first j ∷ rest j

pub one_supports : OneSupport
one_supports a b p supports others alike h k = one_list a b alike p.minimals p.reduced.kept supports others h k
