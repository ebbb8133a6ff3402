-- What is prepared is told as the reader takes it.
-- The idea: each term comes from a case within the limits, and a mapping goes to kept rows, row by row.
use Rattle.std.proofs.Common.{◌≡◌, ◌<◌, ◌≤◌, ◌*◌, ℕ, zero, suc, Bool, true, false, cond, List, [], ◌∷◌, ◌++◌, map, find, length, take, get_or, slice_get, Option, Some, None, ⊎_elim, refl, sym, ap, ◌∙◌, subst, arith}
use Rattle.std.specs.Prelude.{◌==◌, Contains}
use Rattle.std.specs.List.{AllByRecursion, AllZip}
use Rattle.std.specs.Ordering.{nat_cmp}
use Rattle.std.specs.FinSet.{FinSet}
use Rattle.std.proofs.lemmas.Bool.Decides.{nat_tests}
use Rattle.std.proofs.lemmas.List.{get_or_default}
use Rattle.std.proofs.lemmas.List.Elements.{All-contains, recursion_from_All, Contains-get_or}
use Rattle.std.proofs.lemmas.Nat.Bits.{bit_at-lt}
use Rattle.std.proofs.lemmas.Option.{slice_get_within, slice_get-get_or}
use Rattle.std.specs.Int.{bit_at}
use Rattle.su_base.proofs.Items.{Contains-nil, Contains-cases, Contains-map_source, AllByRecursion-members, AllByRecursion-weaker}
use Rattle.su_map.specs.Lists.{IsMapping, row_numbers}
use Rattle.su_tableau.specs.Parts.{numbers_of}
use Rattle.su_map.proofs.Members.{full_member}
use Rattle.su_map.proofs.Ranks.{numbers_step}
use Rattle.su_map.proofs.RowLists.{in_rows, of_rows, row_by_row}
use Rattle.su_min.specs.declared.reduced.Cover.{Cover}
use Rattle.su_min.specs.declared.reduced.Reduced.{Reduced}
use Rattle.su_min.specs.Kept.{Minimised, all_rows, IsMinimised}
use Rattle.su_min.specs.Reduction.{term_at, IsDropped, IsCover, IsReduced}
use Rattle.su_min.proofs.Parts.{all_is}
use Rattle.su_where.specs.Disjunct.{disjuncts_of}
use Rattle.su_query.specs.declared.resolving.Resolved.{Resolved}
use Rattle.su_query.specs.Ranges.{IsResolved}
use Rattle.su_steps.specs.Cases.{Case, Gives, IsOutOf}
use Rattle.su_steps.specs.Choices.{choices, origins_of}
use Rattle.su_steps.specs.Objects.{width}
use Rattle.su_steps.specs.Refusals.{IsAccepted}
use Rattle.su_steps.specs.Terms.{cases, AreTerms}
use Rattle.su_steps.proofs.Cases.{shown_rows}
use Rattle.su_steps.proofs.Chosen.{of_choice}
use Rattle.su_steps.proofs.Outs.{AreInTurn, terms_of}
use Rattle.su_steps.proofs.ResolvedQueries.{within, literals_fit, no_place, place_in}
use Rattle.su_steps.proofs.Tabled.{outputs_stand}
use Rattle.su_steps.proofs.Union.{IsCase, of_cases}
use Rattle.su_steps.proofs.Valid.{length-rows}
use Rattle.su_steps.specs.declared.results.Origin.{Origin}
use Rattle.su_schema.specs.SchemaValue.{SchemaValue}
use Rattle.su_schema.specs.Valid.{IsValid}
use Rattle.su_schema.proofs.LinkOrder.{found}
use Rattle.su_steps.specs.declared.results.Term.{Term}
use Rattle.su_tableau.specs.Tableaux.{Tab}
use Rattle.su_answer.specs.declared.preparing.Prepared.{Prepared}
use Rattle.su_answer.specs.Prepared.{IsMinimisedOf, IsPrepared}
use Rattle.su_answer.proofs.Minimals.{few_terms}
use Rattle.su_show.specs.MinimalLines.{cover_of}
use Rattle.su_readback.specs.ExplanationsRead.{IsTold, IsCovered, AreTold}
use Rattle.su_readback.specs.PreparedRead.{PreparedAreRead}
use Rattle.su_readback.proofs.ExplanationsRead.{explanations_read}

-- ---- rows of a set

some_member : {X : Type 0} (xs : List X) (x : X) → Contains xs x → 0 < length xs
some_member [] x c = absurd (Contains-nil x c)
some_member (y ∷ ys) x c = omega arith

few_numbers : (m n : ℕ) → length (numbers_of m n) ≤ n
few_numbers m zero = omega arith
few_numbers m (suc n) = omega (arith, numbers_step m n, few_numbers m n, bit_at-lt m n)

all_numbers : (m n : ℕ) → ((j : ℕ) → j < n → bit_at m j ≡ 1) → length (numbers_of m n) ≡ n
all_numbers m zero h = refl
all_numbers m (suc n) h = omega (arith, numbers_step m n, all_numbers m n (λ j l. h j (omega (arith, l))), h n (omega arith))

all_row_numbers : (t : Tab) → length (row_numbers t (all_rows t)) ≡ length t.rows
all_row_numbers t = all_numbers (all_rows t) (length t.rows) (λ j l. (full_member (all_rows t) (length t.rows) j (all_is t)).1 l)

-- a mapping's targets are rows
targets_below : (s t : Tab) (m k : ℕ) (list : List ℕ) → IsMapping s m t k list → AllByRecursion (λ r. r < length t.rows) list
targets_below s t m k list maps =
    let r = row_by_row s m t k list maps in
    AllByRecursion-members (λ x. x < length t.rows) list (λ x c. subst (λ n. n < length t.rows) (get_or_default list c.0 0 x c.1 ∙ c.2) (r.targets c.0 c.1).0)

record AreSomeRows (m : Minimised) : Type 0 where
  some : 0 < length (row_numbers m.tableau m.mask)
  few : length (row_numbers m.tableau m.mask) ≤ length m.tableau.rows
  below : AllByRecursion (λ r. r < length m.tableau.rows) (row_numbers m.tableau m.mask)
  fold_length : length m.fold ≡ length m.tableau.rows
  fold : AllByRecursion (λ r. r < length m.tableau.rows) m.fold

minimised_rows : (m : Minimised) → IsMinimised m → 0 < length m.tableau.rows → AreSomeRows m
minimised_rows m is some =
    let t = m.tableau in
    let maps = is.fold.maps in
    let r = row_by_row t (all_rows t) t m.mask m.fold maps in
    let count : length m.fold ≡ length t.rows = r.one_each ∙ all_row_numbers t in
    let first = r.targets 0 (omega (arith, count, some)) in
    record {
      some = some_member (row_numbers t m.mask) (get_or m.fold 0 0) (in_rows t m.mask (get_or m.fold 0 0) first.0 first.1);
      few = few_numbers m.mask (length t.rows);
      below = AllByRecursion-members (λ x. x < length t.rows) (row_numbers t m.mask) (λ x c. (of_rows t m.mask x c).0);
      fold_length = count;
      fold = targets_below t t (all_rows t) m.mask m.fold maps;
    }

-- ---- terms

some_taken : {X Y : Type 0} (f : X → Y) (xs : List X) (ys : List Y) → 0 < length xs → 0 < length (take (length xs) (map f xs ++ ys))
some_taken f [] ys h = absurd (omega (arith, h))
some_taken f (x ∷ xs) ys h = omega arith

-- a term within the limits
record IsFewTerm (term : Term) : Type 0 where
  disjunct : term.disjunct < 1000
  choice : AllByRecursion (λ n. n < 1000) term.choice
  some : 0 < length term.origins
  few : length term.origins ≤ 64
  outputs : 0 < length (take term.tableau.outputs term.tableau.head)
  rows : length term.tableau.rows ≡ length term.origins

module _ (schema : SchemaValue) (maximal : List (FinSet nat_cmp)) (q : Resolved) (valid : IsValid schema) (resolved : IsResolved schema q) (few : length maximal ≤ 128) (accepted : IsAccepted schema maximal q)
    (output : 0 < length q.outputs) where
  abbrev Cased : Case → Type 0
  Cased case = IsCase schema maximal q resolved (within schema valid) case

  case_few : (case : Case) (t : Term) → Cased case → Gives schema maximal q case t → IsFewTerm t
  case_few case t is g =
      let os = origins_of schema maximal case.choice in
      let choice_is = is.is_choice in
      let disjuncts = accepted.few_disjuncts in
      let low = is.disjunct_in in
      let ls = get_or (disjuncts_of q.cond) case.disjunct [] in
      let stands = outputs_stand schema q resolved ls (literals_fit schema q resolved case.disjunct is.disjunct_in) os (shown_rows schema maximal q resolved case.choice choice_is)
      (get_or q.outputs 0 0) (Contains-get_or q.outputs 0 0 output) in
      let row_limit = All-contains (λ (ms : List ℕ). length (origins_of schema maximal ms) ≤ 64) (choices schema maximal q) case.choice accepted.few_rows (of_choice schema maximal q case.choice choice_is) in
      let below : AllByRecursion (λ n. n < 1000) case.choice =
      AllByRecursion-weaker (λ m. m < length maximal) (λ n. n < 1000) case.choice (λ m l. omega (arith, l, few)) (recursion_from_All (λ m. m < length maximal) case.choice choice_is.in_range) in
      record {
        disjunct = omega (arith, g.disjunct, low, disjuncts);
        choice = subst (AllByRecursion (λ n. n < 1000)) (sym g.choice) below;
        some = subst (λ (xs : List Origin). 0 < length xs) (sym g.origins) (some_member os stands.origin stands.member);
        few = subst (λ (xs : List Origin). length xs ≤ 64) (sym g.origins) row_limit;
        outputs = subst (λ (u : Tab). 0 < length (take u.outputs u.head)) (sym g.tableau.is) (some_taken _ q.outputs _ output);
        rows = ap (λ (u : Tab). length u.rows) g.tableau.is ∙ length-rows schema g.tableau.name (length q.variables * width schema) os ∙ ap (λ (xs : List Origin). length xs) (sym g.origins);
      }

  cases_few : (cs : List Case) (ts : List Term) → AllByRecursion Cased cs → AreInTurn schema maximal q cs ts → AllByRecursion IsFewTerm ts
  cases_few [] ts are terms = subst (AllByRecursion IsFewTerm) (sym terms) tt
  cases_few (x ∷ xs) ts are terms =
      ⊎_elim
      (λ (none : IsOutOf schema maximal q x None × AreInTurn schema maximal q xs ts). cases_few xs ts are.1 none.1)
      (λ (some : (t : Term) × (rest : List Term) × (ts ≡ t ∷ rest) × Gives schema maximal q x t × AreInTurn schema maximal q xs rest).
      subst (AllByRecursion IsFewTerm) (sym some.2) (case_few x some.0 are.0 some.3, cases_few xs some.1 are.1 some.4))
      terms

  terms_few : (ts : List Term) → AreTerms schema maximal q ts → AllByRecursion IsFewTerm ts
  terms_few ts terms = cases_few (cases schema maximal q) ts (AllByRecursion-members Cased (cases schema maximal q) (of_cases schema maximal q resolved (within schema valid))) (terms_of schema maximal q ts terms)

at_place : {X : Type 0} (P : X → Type 0) (xs : List X) (i : ℕ) (x : X) → AllByRecursion P xs → slice_get xs i ≡ Some x → P x
at_place P [] i x h e = absurd (cc)
at_place P (y ∷ ys) zero x h e = let same : y ≡ x = cc in subst P same h.0
at_place P (y ∷ ys) (suc i) x h e = at_place P ys i x h.1 e

zip_place : {X Y : Type 0} (R : X → Y → Type 0) (xs : List X) (ys : List Y) (i : ℕ) (x : X) (y : Y) → AllZip R xs ys → slice_get xs i ≡ Some x → slice_get ys i ≡ Some y → R x y
zip_place R [] ys i x y h e f = absurd (cc)
zip_place R (a ∷ xs) [] i x y h e f = absurd (cc)
zip_place R (a ∷ xs) (b ∷ ys) zero x y h e f = let left : a ≡ x = cc in let right : b ≡ y = cc in subst (λ z. R z y) left (subst (R a) right h.0)
zip_place R (a ∷ xs) (b ∷ ys) (suc i) x y h e f = zip_place R xs ys i x y h.1 e f

zip_length : {X Y : Type 0} (R : X → Y → Type 0) (xs : List X) (ys : List Y) → AllZip R xs ys → length xs ≡ length ys
zip_length R [] [] h = refl
zip_length R [] (y ∷ ys) h = absurd h
zip_length R (x ∷ xs) [] h = absurd h
zip_length R (x ∷ xs) (y ∷ ys) h = omega (arith, zip_length R xs ys h.1)

told_is : (term : Term) (m : Minimised) → IsFewTerm term → IsMinimisedOf term.tableau m → IsTold term m
told_is term m f is =
    let same : length m.tableau.rows ≡ length term.origins = ap (λ (u : Tab). length u.rows) is.tableau ∙ f.rows in
    let some = f.some in
    let most = f.few in
    let rows = minimised_rows m is.minimised (omega (arith, same, some)) in
    let few = rows.few in
    record {
      disjunct = f.disjunct;
      choice = f.choice;
      some_rows = f.some;
      few_rows = omega (arith, most);
      outputs = f.outputs;
      some_kept = rows.some;
      few_kept = omega (arith, few, same, most);
      kept = subst (λ (n : ℕ). AllByRecursion (λ r. r < n) (row_numbers m.tableau m.mask)) same rows.below;
      fold_length = rows.fold_length ∙ same;
      fold = subst (λ (n : ℕ). AllByRecursion (λ r. r < n) m.fold) same rows.fold;
    }

-- ---- covers

not_found : {X : Type 0} (p : X → Bool) (y : X) (ys : List X) (x : X) (t : Bool) → p y ≡ t → cond t (Some y) (find p ys) ≡ None → (find p ys ≡ None → Contains ys x → ⊥) → Contains (y ∷ ys) x → p x ≡ true → ⊥
not_found p y ys x true k e f c h = absurd (cc)
not_found p y ys x false k e f c h = ⊎_elim (λ same. let t : true ≡ false = sym h ∙ ap p (sym same) ∙ k in absurd (cc)) (λ later. f e later) (Contains-cases y ys x c)

found_none : {X : Type 0} (p : X → Bool) (xs : List X) (x : X) → find p xs ≡ None → Contains xs x → p x ≡ true → ⊥
found_none p [] x e c h = Contains-nil x c
found_none p (y ∷ ys) x e c h = not_found p y ys x (p y) refl e (λ k later. found_none p ys x k later h) c h

module _ (ms : List Minimised) (r : Reduced) (is : IsReduced ms r) (few : length ms ≤ 256) (i : ℕ) (below : i < length ms) (dropped : ¬ Contains r.kept i) where
  abbrev of_term : Cover → Bool
  of_term c = c.dropped == i

  -- one that has no cover would be kept
  no_cover : find of_term r.covers ≡ None → ⊥
  no_cover e =
      let stays : IsDropped ms i → ⊥ = λ d.
      let w = Contains-map_source (λ (c : Cover). c.dropped) r.covers i ((is.dropped.members i).1 (below, d)) in
      let at = w.2 in
      found_none of_term r.covers w.0 e w.1 (grind (arith, nat_tests, at)) in
      dropped ((is.kept.members i).1 (below, record { below = below; stays = stays }))

  cover_there : (term : Term) (x : Option Cover) → find of_term r.covers ≡ x → length (term_at ms i).tableau.rows ≡ length term.origins → IsCovered term x
  cover_there term None e same = absurd (no_cover e)
  cover_there term (Some c) e same =
      let f = found of_term r.covers c e in
      let cover = All-contains (IsCover ms) r.covers c is.covers f.0 in
      let tested = f.1 in
      let at : c.dropped ≡ i = grind (arith, nat_tests, tested) in
      let by = cover.least.kept.below in
      let one = term_at ms c.by in
      let other = term_at ms c.dropped in
      let targets = targets_below one.tableau other.tableau one.mask other.mask c.mapping.list cover.mapping.1.maps in
      (omega (arith, by, few), subst (λ (n : ℕ). AllByRecursion (λ k. k < n) c.mapping.list) (ap (λ (k : ℕ). length (term_at ms k).tableau.rows) at ∙ same) targets)

prepared_told : (schema : SchemaValue) (maximal : List (FinSet nat_cmp)) (q : Resolved) (p : Prepared) → IsValid schema → IsResolved schema q → length maximal ≤ 128 → IsAccepted schema maximal q
    → 0 < length q.outputs → IsPrepared schema maximal q p → AreTold p.terms p.minimals p.reduced
prepared_told schema maximal q p valid resolved few accepted output is =
    let fews = terms_few schema maximal q valid resolved few accepted output p.terms is.terms in
    let count = few_terms schema maximal q p.terms is.terms accepted in
    let both = zip_length (λ (term : Term) m. IsMinimisedOf term.tableau m) p.terms p.minimals is.minimals in
    let kept = p.reduced.kept in
    let asc = is.reduced.kept.ascends in
    record {
      few = omega (arith, count);
      told = λ i term m e f. told_is term m (at_place IsFewTerm p.terms i term fews e) (zip_place (λ (term : Term) m. IsMinimisedOf term.tableau m) p.terms p.minimals i term m is.minimals e f);
      ascending = λ a b d l m.
          let x = get_or_default kept a d 0 (omega (arith, l, m)) in
          let y = get_or_default kept b d 0 m in
          let z = asc a b l m in
          omega (arith, x, y, z);
      within = λ k d l. let w = ((is.reduced.kept.members (get_or kept k d)).0 (Contains-get_or kept k d l)).0 in omega (arith, w, both);
      covered = λ i term e dropped.
          let low : i < length p.minimals = omega (arith, slice_get_within p.terms i term e, both) in
          let none : Minimised = record { tableau = record { width = 0; rows = []; head = []; outputs = 0; operators = [] }; mask = 0; fold = [] } in
          let m = zip_place (λ (term : Term) m. IsMinimisedOf term.tableau m) p.terms p.minimals i term (term_at p.minimals i) is.minimals e (slice_get-get_or p.minimals i none low) in
          cover_there p.minimals p.reduced is.reduced (omega (arith, count, both)) i low dropped term (cover_of p.reduced i) refl
          (ap (λ (u : Tab). length u.rows) m.tableau ∙ (at_place IsFewTerm p.terms i term fews e).rows);
    }

some_variables : (schema : SchemaValue) (q : Resolved) → IsResolved schema q → 0 < length q.outputs → 0 < length q.variables
some_variables schema q resolved output =
    let o = get_or q.outputs 0 0 in
    let low = All-contains (λ o. o < length q.places) q.outputs o resolved.outputs (Contains-get_or q.outputs 0 0 output) in
    let at = (place_in schema q resolved (get_or q.places o no_place) (Contains-get_or q.places o no_place low)).0 in
    omega (arith, at)

pub prepared_read : PreparedAreRead
prepared_read schema maximal query q p text s is =
    explanations_read schema query q p.terms p.minimals p.reduced text s.valid s.symbols (some_variables schema q s.resolved s.some) s.named
    (prepared_told schema maximal q p s.valid s.resolved s.few s.accepted s.some s.prepared) is
