-- What semijoins along an ear order leave, one ear after another.
use Rattle.std.proofs.Common.{◌≡◌, ◌≢◌, ◌<◌, ◌≤◌, ℕ, zero, suc, Bool, true, false, cond, List, [], ◌∷◌, ◌++◌, take, drop, length, get_or, Contains, Option, None, Some, refl, sym, ap, subst, ◌∙◌, ◌+◌, append-nil, arith}
use Rattle.std.proofs.lemmas.List.{length-map}
use Rattle.std.proofs.lemmas.List.Elements.{Contains-get_or}
use Rattle.su_base.proofs.Items.{Contains-head, Contains-later, Contains-nil, Contains-one}
use Rattle.su_base.specs.declared.values.Value.{Value}
use Rattle.su_tableau.specs.declared.symbols.Sym.{Sym}
use Rattle.su_reduce.specs.declared.edges.Edge.{Edge}
use Rattle.su_reduce.specs.declared.edges.Ear.{Ear}
use Rattle.su_reduce.specs.Ears.{cells_of, HasVar, Share, IsParent, numbers, AreEars, IsEarOrder}
use Rattle.su_reduce.specs.Left.{cells_at, candidates_at, marked, AreLeft}
use Rattle.su_reduce.specs.Shapes.{Fits}
use Rattle.su_reduce.specs.inside.Marks.{IsMarked, marks_at, candidate_at, HasPartner, AreMarks, IsSemijoin}
use Rattle.su_reduce.specs.inside.Reduced.{GivesMarked, AreReduced, or_first, next_of}
use Rattle.su_reduce.proofs.Exact.{join_chosen, join_fewer, exact_step}

-- what an ear's edge shares with those behind it is had by the one that it is joined with
pub record IsJoinedWith (edges : List (List Sym)) (e : ℕ) (later : List Ear) (par : ℕ) : Type 0 where
  pub behind : Contains (numbers later) par
  pub shares : (j k : ℕ) → Contains (numbers later) j → Share edges e j k → HasVar edges par k

pub joined_with : (edges : List (List Sym)) (e : ℕ) (parent : Option ℕ) (next : Ear) (later : List Ear) → IsParent edges e (Contains (numbers (next ∷ later))) parent → IsJoinedWith edges e (next ∷ later) (or_first parent (next ∷ later))
joined_with edges e None next later is = record {
  behind = Contains-head next.edge (numbers later);
  shares = λ j k there s. absurd (is j k there s);
}
joined_with edges e (Some p) next later is = record {
  behind = is.0;
  shares = is.1;
}

-- with one ear, or with none, nothing has to be taken away
pub alone : (edges : List Edge) (order : List Ear) (marks : List (List Bool)) → length order < 2 → AreMarks edges marks → ((i : ℕ) → Contains (numbers order) i → i < length edges) → AreReduced edges (numbers order) marks marks
alone edges order marks few are within = record {
  marks = are;
  fewer = λ i p l m. m;
  others = λ i h. refl;
  chosen = λ c. c;
  exact = λ i p c l m.
      let fit = are.fit i p (within i c) l m in
      record {
        valuation = fit.0;
        all = λ j cj. subst (λ (n : ℕ). GivesMarked edges marks fit.0 n) (one order few i j c cj) (record {
          place = p;
          below = l;
          is_marked = m;
          gives = fit.1;
        });
        gives = fit.1;
      };
}
  where
    one : (order : List Ear) → length order < 2 → (i j : ℕ) → Contains (numbers order) i → Contains (numbers order) j → i ≡ j
    one [] few i j ci cj = absurd (Contains-nil i ci)
    one (ear ∷ []) few i j ci cj = sym (Contains-one ear.edge i ci) ∙ Contains-one ear.edge j cj
    one (ear ∷ next ∷ later) few i j ci cj = absurd (omega (arith, few))

-- an ear is joined with one behind it, those behind it are reduced, and it is joined again
module _ (edges : List Edge) (e par : ℕ) (later : List Ear) (m0 m1 m2 m3 : List (List Bool)) (e_low : e < length edges) (par_low : par < length edges) (apart : ¬ Contains (numbers later) e) (with : IsJoinedWith (cells_of edges) e later par) (up : IsSemijoin edges par e m0 m1) (rest : AreReduced edges (numbers later) m1 m2) (down : IsSemijoin edges e par m2 m3) where
  other : e ≢ par
  other is = apart (subst (Contains (numbers later)) (sym is) with.behind)

  -- the ear's own marks stay until the way back
  kept : marks_at m2 e ≡ marks_at m0 e
  kept = rest.others e apart ∙ up.others e other

  partners : (q : ℕ) → q < length (candidates_at edges par) → IsMarked m2 par q → HasPartner (cells_at edges par) (cells_at edges e) (candidates_at edges e) (marks_at m2 e) (candidate_at edges par q)
  partners q l m = subst (λ (ms : List Bool). HasPartner (cells_at edges par) (cells_at edges e) (candidates_at edges e) ms (candidate_at edges par q)) (sym kept) ((up.exact q l).0 (rest.fewer par q l m)).1

  pub along : AreReduced edges (e ∷ numbers later) m0 m3
  along = record {
    marks = down.marks;
    fewer = λ i p l m. join_fewer edges par e m0 m1 up i p l (rest.fewer i p l (join_fewer edges e par m2 m3 down i p l m));
    others = λ i out.
        let not_e : i ≢ e = λ is. out (subst (λ (n : ℕ). Contains (e ∷ numbers later) n) (sym is) (Contains-head e (numbers later))) in
        let not_later : ¬ Contains (numbers later) i = λ there. out (Contains-later e (numbers later) i there) in
        let not_par : i ≢ par = λ is. not_later (subst (Contains (numbers later)) (sym is) with.behind) in
        down.others i not_e ∙ rest.others i not_later ∙ up.others i not_par;
    chosen = λ c. join_chosen edges e par m2 m3 par_low down (rest.chosen (join_chosen edges par e m0 m1 e_low up c));
    exact = exact_step edges e par (numbers later) m2 m3 down rest.exact with.behind apart with.shares partners;
  }

abbrev pub first_of : List Ear → Ear
first_of order = get_or order 0 (record { edge = 0; parent = None })

module _ (edges : List Edge) where
  abbrev pub AreWithin : List Ear → Type 0
  AreWithin order = (i : ℕ) → Contains (numbers order) i → i < length edges

  pub first_low : (order : List Ear) → 2 ≤ length order → AreWithin order → (first_of order).edge < length edges
  first_low [] long within = absurd (omega (arith, long))
  first_low (x ∷ later) long within = within x.edge (Contains-head x.edge (numbers later))

  pub next_low : (order : List Ear) → 2 ≤ length order → AreEars (cells_of edges) order → AreWithin order → next_of order < length edges
  next_low [] long ears within = absurd (omega (arith, long))
  next_low (x ∷ []) long ears within = absurd (omega (arith, long))
  next_low (x ∷ next ∷ later) long ears within =
      let with = joined_with (cells_of edges) x.edge x.parent next later ears.1 in
      within (or_first x.parent (next ∷ later)) (Contains-later x.edge (numbers (next ∷ later)) (or_first x.parent (next ∷ later)) with.behind)

  pub later_ears : (order tail : List Ear) → 2 ≤ length order → tail ≡ drop 1 order → AreEars (cells_of edges) order → AreEars (cells_of edges) tail
  later_ears [] tail long is ears = absurd (omega (arith, long))
  later_ears (x ∷ later) tail long is ears = subst (AreEars (cells_of edges)) (sym is) ears.2

  pub later_within : (order tail : List Ear) → 2 ≤ length order → tail ≡ drop 1 order → AreWithin order → AreWithin tail
  later_within [] tail long is within = absurd (omega (arith, long))
  later_within (x ∷ later) tail long is within = subst AreWithin (sym is) (λ i c. within i (Contains-later x.edge (numbers later) i c))

  pub reduced : (order tail : List Ear) (par : ℕ) (m0 m1 m2 m3 : List (List Bool)) → 2 ≤ length order → tail ≡ drop 1 order → par ≡ next_of order → AreEars (cells_of edges) order → AreWithin order
      → IsSemijoin edges par (first_of order).edge m0 m1 → AreReduced edges (numbers tail) m1 m2 → IsSemijoin edges (first_of order).edge par m2 m3 → AreReduced edges (numbers order) m0 m3
  reduced [] tail par m0 m1 m2 m3 long tail_is par_is ears within up rest down = absurd (omega (arith, long))
  reduced (x ∷ []) tail par m0 m1 m2 m3 long tail_is par_is ears within up rest down = absurd (omega (arith, long))
  reduced (x ∷ next ∷ later) tail par m0 m1 m2 m3 long tail_is par_is ears within up rest down =
      let p = or_first x.parent (next ∷ later) in
      along edges x.edge p (next ∷ later) m0 m1 m2 m3
      (within x.edge (Contains-head x.edge (numbers (next ∷ later)))) (next_low (x ∷ next ∷ later) long ears within)
      ears.0 (joined_with (cells_of edges) x.edge x.parent next later ears.1)
      (subst (λ (n : ℕ). IsSemijoin edges n x.edge m0 m1) par_is up)
      (subst (λ (order : List Ear). AreReduced edges (numbers order) m1 m2) tail_is rest)
      (subst (λ (n : ℕ). IsSemijoin edges x.edge n m2 m3) par_is down)

-- ---- what is left

-- one more item and its mark
pub marked_more : {A : Type 0} (ms : List Bool) (xs : List A) (n : ℕ) (d : A) → n < length ms → n < length xs → marked (take (suc n) ms) (take (suc n) xs) ≡ marked (take n ms) (take n xs) ++ cond (get_or ms n false) (get_or xs n d ∷ []) []
marked_more [] xs n d l h = absurd (omega (arith, l))
marked_more (m ∷ ms) [] n d l h = absurd (omega (arith, h))
marked_more (true ∷ ms) (x ∷ xs) zero d l h = refl
marked_more (false ∷ ms) (x ∷ xs) zero d l h = refl
marked_more {A} (true ∷ ms) (x ∷ xs) (suc n) d l h = ap (λ (ys : List A). x ∷ ys) (marked_more ms xs n d (omega (arith, l)) (omega (arith, h)))
marked_more (false ∷ ms) (x ∷ xs) (suc n) d l h = marked_more ms xs n d (omega (arith, l)) (omega (arith, h))

module _ {A : Type 0} (ms : List Bool) (xs : List A) (n : ℕ) (copies : List A) (low : n < length xs) (long : length ms ≡ length xs) (so_far : copies ≡ marked (take n ms) (take n xs)) (x : A) (is : x ≡ get_or xs n x) where
  next : (b : Bool) → get_or ms n false ≡ b → copies ++ cond b (x ∷ []) [] ≡ marked (take (n + 1) ms) (take (n + 1) xs)
  next b mark_is =
      let one : n + 1 ≡ suc n = omega arith in
      ap (λ (ys : List A). ys ++ cond b (x ∷ []) []) so_far
      ∙ ap (λ (c : Bool). marked (take n ms) (take n xs) ++ cond c (x ∷ []) []) (sym mark_is)
      ∙ ap (λ (y : A). marked (take n ms) (take n xs) ++ cond (get_or ms n false) (y ∷ []) []) is
      ∙ sym (marked_more ms xs n x (omega (arith, low, long)) low)
      ∙ ap (λ (k : ℕ). marked (take k ms) (take k xs)) (sym one)

  pub marked_in : get_or ms n false ≡ true → copies ++ x ∷ [] ≡ marked (take (n + 1) ms) (take (n + 1) xs)
  marked_in = next true

  pub marked_out : get_or ms n false ≡ false → copies ≡ marked (take (n + 1) ms) (take (n + 1) xs)
  marked_out fails = sym (append-nil copies) ∙ next false fails

-- the marked candidates are those that are left
pub are_left : (edges : List Edge) (order : List Ear) (first last : List (List Bool)) → IsEarOrder (cells_of edges) order → ((i p : ℕ) → i < length edges → p < length (candidates_at edges i) → Fits (cells_at edges i) (candidate_at edges i p) → IsMarked first i p) → AreReduced edges (numbers order) first last → (i : ℕ) → i < length edges → (rows : List (List Value)) → rows ≡ marked (marks_at last i) (candidates_at edges i) → AreLeft edges i rows
are_left edges order first last is fitting reduced i li rows rows_are = record {
  marks = marks_at last i;
  each = reduced.marks.each i li;
  exact = λ p l.
      let long = reduced.marks.each i li in
      let lp : p < length (candidates_at edges i) = omega (arith, l, long) in (
        λ m.
            let part = reduced.exact i p (among i li) lp m in
            record {
              valuation = part.valuation;
              chooses = λ j lj.
                  let given = part.all j (among j lj) in
                  subst (λ (row : List Value). Contains (candidates_at edges j) row) (sym given.gives) (Contains-get_or (candidates_at edges j) given.place [] given.below);
              gives = part.gives;
            },
        λ left. reduced.chosen (λ v c j q lj lq g. fitting j q lj lq (v, g)) left.valuation left.chooses i p li lp left.gives,
      );
  rows_are = rows_are;
}
  where
    among : (j : ℕ) → j < length edges → Contains (numbers order) j
    among j l = let long = length-map edges (λ (e : Edge). e.cells) in (is.all j).0 (omega (arith, l, long))

pub within_edges : (edges : List Edge) (order : List Ear) → IsEarOrder (cells_of edges) order → (i : ℕ) → Contains (numbers order) i → i < length edges
within_edges edges order is i c = let l = (is.all i).1 c in let long = length-map edges (λ (e : Edge). e.cells) in omega (arith, l, long)
