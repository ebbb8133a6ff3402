-- The disjuncts of a condition from those of its parts, how many there are, and which one stands where.
use Rattle.std.proofs.Common.{◌≡◌, ℕ, ◌+◌, ◌*◌, ◌/◌, ◌%◌, ◌<◌, ◌≤◌, min, suc, Bool, true, false, not, if◌then◌else◌, List, [], ◌∷◌, ◌++◌, map, length, get_or, take, drop, refl, sym, ap, subst, add-one, drop-cons, append_assoc, ◌∙◌, arith}
use Rattle.std.proofs.Math.Seq.{take-suc}
use Rattle.std.specs.List.{flat_map}
use Rattle.std.proofs.lemmas.List.{length-append, map-append}
use Rattle.std.proofs.Math.Nat.{mul_assoc}
use Rattle.su_base.proofs.Combinations.{length-pairs, get_or-pairs, min-mul_both, split as place_of}
use Rattle.su_where.specs.declared.literals.Literal.{Literal}
use Rattle.su_where.specs.declared.conditions.Condition.TheOpen as open'
use Rattle.su_where.specs.declared.conditions.Condition.TheVariants.{Compare, Not, All, Any, rolls-Compare, rolls-Not, rolls-All, rolls-Any}
use Rattle.su_where.specs.declared.conditions.Condition.TheFolds.{fold-roll-Condition}
use Rattle.su_where.specs.Truth.{Cond}
use Rattle.su_where.specs.Disjunct.{opposite_of, combinations, combined, form_of, form_step}
use Rattle.su_where.specs.inside.Joined.{joined}

-- the disjuncts of each of several conditions
abbrev pub forms : Bool → List Cond → List (List (List Literal))
forms b cs = map (λ c. form_of c b) cs

forms-map : (b : Bool) (cs : List Cond) → map (λ p. p b) (map form_of cs) ≡ forms b cs
forms-map b [] = refl
forms-map b (c ∷ cs) = ap (λ fs. form_of c b ∷ fs) (forms-map b cs)

pub form_of-Compare : (l : Literal) (b : Bool) → form_of (Compare l) b ≡ ((if b then opposite_of l else l) ∷ []) ∷ []
form_of-Compare l b = ap (λ d. form_of d b) (sym (rolls-Compare l)) ∙ ap (λ f. f b) (fold-roll-Condition Literal (Bool → List (List Literal)) form_step (open'.Compare l))

pub form_of-Not : (part : Cond) (b : Bool) → form_of (Not part) b ≡ form_of part (not b)
form_of-Not part b = ap (λ d. form_of d b) (sym (rolls-Not part)) ∙ ap (λ f. f b) (fold-roll-Condition Literal (Bool → List (List Literal)) form_step (open'.Not part))

-- the disjuncts of all parts, one part after the other, are the joined ones
each-joined : (b : Bool) (cs : List Cond) → flat_map (λ p. p b) (map form_of cs) ≡ joined (forms b cs)
each-joined b [] = refl
each-joined b (c ∷ cs) = ap (λ ds. form_of c b ++ ds) (each-joined b cs)

-- each of the first disjuncts joined with each of the second, the first slowest
abbrev pub pairs_of : List (List Literal) → List (List Literal) → List (List Literal)
pairs_of firsts seconds = flat_map (λ d. map (λ e. d ++ e) seconds) firsts

-- a combination with a member in front
fronted : (d : List Literal) (cs : List (List (List Literal))) → map (flat_map (λ d. d)) (map (λ ys. d ∷ ys) cs) ≡ map (λ e. d ++ e) (map (flat_map (λ d. d)) cs)
fronted d [] = refl
fronted d (c ∷ cs) = ap (λ es. (d ++ flat_map (λ d. d) c) ∷ es) (fronted d cs)

all-fronted : (ds : List (List Literal)) (cs : List (List (List Literal))) → map (flat_map (λ d. d)) (flat_map (λ x. map (λ ys. x ∷ ys) cs) ds) ≡ pairs_of ds (map (flat_map (λ d. d)) cs)
all-fronted [] cs = refl
all-fronted (d ∷ ds) cs =
    map-append (flat_map (λ d. d)) (map (λ ys. d ∷ ys) cs) (flat_map (λ x. map (λ ys. x ∷ ys) cs) ds)
    ∙ ap (λ es. es ++ map (flat_map (λ d. d)) (flat_map (λ x. map (λ ys. x ∷ ys) cs) ds)) (fronted d cs)
    ∙ ap (λ es. map (λ e. d ++ e) (map (flat_map (λ d. d)) cs) ++ es) (all-fronted ds cs)

-- the combinations of a first part and of the others, the first slowest
pub combined-cons : (f : List (List Literal)) (fs : List (List (List Literal))) → combined (f ∷ fs) ≡ pairs_of f (combined fs)
combined-cons f fs = all-fronted f (combinations fs)

pub form_of-All : (parts : List Cond) (b : Bool) → form_of (All parts) b ≡ (if b then joined (forms b parts) else combined (forms b parts))
form_of-All parts true =
    ap (λ d. form_of d true) (sym (rolls-All parts)) ∙ ap (λ f. f true) (fold-roll-Condition Literal (Bool → List (List Literal)) form_step (open'.All parts)) ∙ each-joined true parts
form_of-All parts false =
    ap (λ d. form_of d false) (sym (rolls-All parts)) ∙ ap (λ f. f false) (fold-roll-Condition Literal (Bool → List (List Literal)) form_step (open'.All parts))
    ∙ ap combined (forms-map false parts)

pub form_of-Any : (parts : List Cond) (b : Bool) → form_of (Any parts) b ≡ (if b then combined (forms b parts) else joined (forms b parts))
form_of-Any parts true =
    ap (λ d. form_of d true) (sym (rolls-Any parts)) ∙ ap (λ f. f true) (fold-roll-Condition Literal (Bool → List (List Literal)) form_step (open'.Any parts))
    ∙ ap combined (forms-map true parts)
form_of-Any parts false =
    ap (λ d. form_of d false) (sym (rolls-Any parts)) ∙ ap (λ f. f false) (fold-roll-Condition Literal (Bool → List (List Literal)) form_step (open'.Any parts)) ∙ each-joined false parts

-- a disjunct with another behind it
abbrev both : List Literal → List Literal → List Literal
both d e = d ++ e

length-combined_cons : (f : List (List Literal)) (fs : List (List (List Literal))) → length (combined (f ∷ fs)) ≡ length f * length (combined fs)
length-combined_cons f fs = ap length (combined-cons f fs) ∙ length-pairs both f (combined fs)

pub length-combined_push : (fs : List (List (List Literal))) (f : List (List Literal)) → length (combined (fs ++ f ∷ [])) ≡ length (combined fs) * length f
length-combined_push [] f = length-combined_cons f [] ∙ grind arith
length-combined_push (g ∷ gs) f =
    length-combined_cons g (gs ++ f ∷ []) ∙ ap (λ n. length g * n) (length-combined_push gs f)
    ∙ sym (mul_assoc (length g) (length (combined gs)) (length f)) ∙ ap (λ n. n * length f) (sym (length-combined_cons g gs))

pub length-joined_push : (fs : List (List (List Literal))) (f : List (List Literal)) → length (joined (fs ++ f ∷ [])) ≡ length (joined fs) + length f
length-joined_push [] f = grind (arith, length-append)
length-joined_push (g ∷ gs) f = grind (arith, length-append, length-joined_push gs f)

-- counts that stop at 65 add and multiply as the counts do
pub min-add : (a b m n : ℕ) → a ≡ min m 65 → b ≡ min n 65 → min 65 (a + b) ≡ min (m + n) 65
min-add a b m n e f = omega arith

-- the quotient and the rest that lead to a disjunct of combined parts
pub record Split (n m count total left : ℕ) : Type 0 where
  pub exact : count ≡ n
  pub some : 0 < n
  pub others : 0 < m
  pub behind : total / count ≡ m
  pub fewer : m ≤ total
  pub own : n ≤ total
  pub place : left / m < n
  pub rest : left % m < m
  pub whole : left / m * m + left % m ≡ left

pub split : (n m count total left : ℕ) → count ≡ min n 65 → total ≡ n * m → left < total → total ≤ 64 → Split n m count total left
split n m count total left c t below few =
    let s = place_of n m total left t below in
    let own : n ≤ total = s.own in
    let exact : count ≡ n = omega arith in
    record {
      exact = exact;
      some = s.some;
      others = s.others;
      behind = ap (λ x. total / x) exact ∙ s.behind;
      fewer = s.fewer;
      own = own;
      place = s.place;
      rest = s.below;
      whole = s.whole;
    }

pub combined-at : (f : List (List Literal)) (fs : List (List (List Literal))) (count total left : ℕ) → Split (length f) (length (combined fs)) count total left
    → get_or (combined (f ∷ fs)) left [] ≡ get_or f (left / length (combined fs)) [] ++ get_or (combined fs) (left % length (combined fs)) []
combined-at f fs count total left s =
    let m = length (combined fs) in
    ap (λ i. get_or (combined (f ∷ fs)) i []) (sym s.whole)
    ∙ ap (λ ds. get_or ds (left / m * m + left % m) []) (combined-cons f fs)
    ∙ get_or-pairs both f (combined fs) (left / m) (left % m) [] [] [] s.place s.rest

forms_push : (b : Bool) (cs : List Cond) (c : Cond) → forms b (cs ++ c ∷ []) ≡ forms b cs ++ form_of c b ∷ []
forms_push b [] c = refl
forms_push b (d ∷ ds) c = ap (λ fs. form_of d b ∷ fs) (forms_push b ds c)

pub forms_take : (b : Bool) (cs : List Cond) (i : ℕ) (c : Cond) → i < length cs → c ≡ get_or cs i c → forms b (take i cs) ++ form_of c b ∷ [] ≡ forms b (take (i + 1) cs)
forms_take b cs i c h e =
    sym (forms_push b (take i cs) c) ∙ ap (λ x. forms b (take i cs ++ x ∷ [])) e ∙ ap (forms b) (sym (take-suc cs i c h) ∙ ap (λ n. take n cs) (sym (add-one i)))

-- one turn of going through combined parts, at the part number i
pub forms_drop : (b : Bool) (cs : List Cond) (i : ℕ) (c : Cond) → i < length cs → c ≡ get_or cs i c → forms b (drop i cs) ≡ form_of c b ∷ forms b (drop (i + 1) cs)
forms_drop b cs i c h e =
    ap (forms b) (drop-cons cs i c h) ∙ ap (λ x. form_of x b ∷ forms b (drop (suc i) cs)) (sym e) ∙ ap (λ n. form_of c b ∷ forms b (drop n cs)) (sym (add-one i))

pub combined_split : (b : Bool) (cs : List Cond) (i : ℕ) (c : Cond) (count total left : ℕ) → i < length cs → c ≡ get_or cs i c → count ≡ min (length (form_of c b)) 65
    → total ≡ length (combined (forms b (drop i cs))) → left < total → total ≤ 64
    → Split (length (form_of c b)) (length (combined (forms b (drop (i + 1) cs)))) count total left
combined_split b cs i c count total left h e k t below few =
    split _ _ count total left k
    (t ∙ ap (λ fs. length (combined fs)) (forms_drop b cs i c h e) ∙ length-combined_cons (form_of c b) (forms b (drop (i + 1) cs))) below few

pub combined_whole : (b : Bool) (cs : List Cond) (i : ℕ) (c : Cond) (count total left : ℕ) (out next whole : List Literal) → i < length cs → c ≡ get_or cs i c
    → Split (length (form_of c b)) (length (combined (forms b (drop (i + 1) cs)))) count total left
    → out ++ get_or (combined (forms b (drop i cs))) left [] ≡ whole → next ≡ out ++ get_or (form_of c b) (left / (total / count)) []
    → next ++ get_or (combined (forms b (drop (i + 1) cs))) (left % (total / count)) [] ≡ whole
combined_whole b cs i c count total left out next whole h e s w n =
    let f = form_of c b in
    let fs = forms b (drop (i + 1) cs) in
    let m = length (combined fs) in
    ap (λ x. x ++ get_or (combined fs) (left % (total / count)) []) n
    ∙ ap (λ q. (out ++ get_or f (left / q) []) ++ get_or (combined fs) (left % q) []) s.behind
    ∙ append_assoc out (get_or f (left / m) []) (get_or (combined fs) (left % m) [])
    ∙ ap (λ x. out ++ x) (sym (combined-at f fs count total left s))
    ∙ ap (λ x. out ++ get_or (combined x) left []) (sym (forms_drop b cs i c h e)) ∙ w

pub counted_more : (b : Bool) (cs : List Cond) (i : ℕ) (c : Cond) (total count : ℕ) → i < length cs → c ≡ get_or cs i c → count ≡ min (length (form_of c b)) 65
    → total ≡ min (length (combined (forms b (take i cs)))) 65 → min 65 (total * count) ≡ min (length (combined (forms b (take (i + 1) cs)))) 65
counted_more b cs i c total count h e k t =
    min-mul_both 65 total count (length (combined (forms b (take i cs)))) (length (form_of c b)) t k
    ∙ ap (λ n. min n 65) (sym (length-combined_push (forms b (take i cs)) (form_of c b)))
    ∙ ap (λ fs. min (length (combined fs)) 65) (forms_take b cs i c h e)

-- which list of disjuncts a condition of parts has
pub all_plain : (c : Cond) (parts ps : List Cond) (b : Bool) → c ≡ All parts → ps ≡ parts → b ≡ false → form_of c b ≡ combined (forms b ps)
all_plain c parts ps b e p n = ap (λ d. form_of d b) (e ∙ ap All (sym p)) ∙ form_of-All ps b ∙ ap (λ v. if v then joined (forms b ps) else combined (forms b ps)) n

pub all_negated : (c : Cond) (parts ps : List Cond) (b : Bool) → c ≡ All parts → ps ≡ parts → b ≡ true → form_of c b ≡ joined (forms b ps)
all_negated c parts ps b e p n = ap (λ d. form_of d b) (e ∙ ap All (sym p)) ∙ form_of-All ps b ∙ ap (λ v. if v then joined (forms b ps) else combined (forms b ps)) n

pub any_plain : (c : Cond) (parts ps : List Cond) (b : Bool) → c ≡ Any parts → ps ≡ parts → b ≡ false → form_of c b ≡ joined (forms b ps)
any_plain c parts ps b e p n = ap (λ d. form_of d b) (e ∙ ap Any (sym p)) ∙ form_of-Any ps b ∙ ap (λ v. if v then combined (forms b ps) else joined (forms b ps)) n

pub any_negated : (c : Cond) (parts ps : List Cond) (b : Bool) → c ≡ Any parts → ps ≡ parts → b ≡ true → form_of c b ≡ combined (forms b ps)
any_negated c parts ps b e p n = ap (λ d. form_of d b) (e ∙ ap Any (sym p)) ∙ form_of-Any ps b ∙ ap (λ v. if v then combined (forms b ps) else joined (forms b ps)) n

pub carried : (x y : List (List Literal)) (k : ℕ) → x ≡ y → k < length x → length x ≤ 64 → (k < length y) × (length y ≤ 64)
carried x y k e place few = (subst (λ (z : List (List Literal)). k < length z) e place, subst (λ (z : List (List Literal)). length z ≤ 64) e few)

-- for `grind`: the disjuncts of a condition from those of its parts
pub ruleset layers = (form_of-Compare, form_of-Not, form_of-All, form_of-Any)
