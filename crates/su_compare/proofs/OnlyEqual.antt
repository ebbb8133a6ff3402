-- The disjuncts of a condition that asks for equalities alone have only equalities.
use Rattle.std.proofs.Common.{◌≡◌, Bool, true, false, not, ◌&&◌, List, [], ◌∷◌, ◌++◌, map, refl, sym, ap, ◌∙◌}
use Rattle.std.specs.List.{list_all}
use Rattle.std.specs.Cmp.{first_so, second_so}
use Rattle.std.proofs.lemmas.List.Folds.{list_all-append}
use Rattle.std.proofs.lemmas.Bool.{and_from}
use Rattle.su_where.specs.declared.operators.Op.{Op}
use Rattle.su_where.specs.declared.operators.Op.TheVariants.{Equal, NotEqual, Less, LessEqual, Greater, GreaterEqual}
use Rattle.su_where.specs.declared.literals.Literal.{Literal}
use Rattle.su_where.specs.declared.conditions.Condition.TheOpen as open'
use Rattle.su_where.specs.declared.conditions.Condition.TheVariants.{Compare, Not, All, Any, rolls-Compare, rolls-Not, rolls-All, rolls-Any}
use Rattle.su_where.specs.declared.conditions.Condition.TheFolds.{fold-roll-Condition}
use Rattle.su_where.specs.Operator.{complement_of}
use Rattle.su_where.specs.Truth.{Cond}
use Rattle.su_where.specs.Disjunct.{opposite_of, combined, form_of}
use Rattle.su_where.specs.inside.Joined.{joined}
use Rattle.su_where.proofs.Layers.{parts_of, by_layers}
use Rattle.su_where.proofs.Disjunctive.{pairs_of, combined-cons, forms, form_of-Compare, form_of-Not, form_of-All, form_of-Any}
use Rattle.su_compare.specs.Equalities.{asks_equality, equalities_step, asks_equalities}

each-map : (b : Bool) (cs : List Cond) → list_all (λ p. p b) (map asks_equalities cs) ≡ list_all (λ c. asks_equalities c b) cs
each-map b [] = refl
each-map b (c ∷ cs) = ap (λ v. asks_equalities c b && v) (each-map b cs)

pub asks-Compare : (l : Literal) (b : Bool) → asks_equalities (Compare l) b ≡ asks_equality l.op b
asks-Compare l b = ap (λ d. asks_equalities d b) (sym (rolls-Compare l)) ∙ ap (λ f. f b) (fold-roll-Condition Literal (Bool → Bool) equalities_step (open'.Compare l))

pub asks-Not : (part : Cond) (b : Bool) → asks_equalities (Not part) b ≡ asks_equalities part (not b)
asks-Not part b = ap (λ d. asks_equalities d b) (sym (rolls-Not part)) ∙ ap (λ f. f b) (fold-roll-Condition Literal (Bool → Bool) equalities_step (open'.Not part))

pub asks-All : (parts : List Cond) (b : Bool) → asks_equalities (All parts) b ≡ list_all (λ c. asks_equalities c b) parts
asks-All parts b =
    ap (λ d. asks_equalities d b) (sym (rolls-All parts)) ∙ ap (λ f. f b) (fold-roll-Condition Literal (Bool → Bool) equalities_step (open'.All parts)) ∙ each-map b parts

pub asks-Any : (parts : List Cond) (b : Bool) → asks_equalities (Any parts) b ≡ list_all (λ c. asks_equalities c b) parts
asks-Any parts b =
    ap (λ d. asks_equalities d b) (sym (rolls-Any parts)) ∙ ap (λ f. f b) (fold-roll-Condition Literal (Bool → Bool) equalities_step (open'.Any parts)) ∙ each-map b parts

-- for `grind`: what a condition asks for, from what its parts ask for
pub ruleset layers = (asks-Compare, asks-Not, asks-All, asks-Any)

-- ---- disjuncts of equalities alone

-- whether each comparison is an equality
abbrev pub are_equalities : List Literal → Bool
are_equalities d = list_all (λ l. asks_equality l.op false) d

abbrev pub all_equalities : List (List Literal) → Bool
all_equalities ds = list_all are_equalities ds

all-append : (xs ys : List (List Literal)) → all_equalities xs ≡ true → all_equalities ys ≡ true → all_equalities (xs ++ ys) ≡ true
all-append xs ys e f = list_all-append are_equalities xs ys ∙ and_from (all_equalities xs) (all_equalities ys) e f

all-joined : (fs : List (List (List Literal))) → list_all all_equalities fs ≡ true → all_equalities (joined fs) ≡ true
all-joined [] e = refl
all-joined (f ∷ fs) e =
    all-append f (joined fs) (first_so (all_equalities f) (list_all all_equalities fs) e) (all-joined fs (second_so (all_equalities f) (list_all all_equalities fs) e))

all-each : (d : List Literal) (es : List (List Literal)) → are_equalities d ≡ true → all_equalities es ≡ true → all_equalities (map (λ e. d ++ e) es) ≡ true
all-each d [] h k = refl
all-each d (e ∷ es) h k =
    and_from (are_equalities (d ++ e)) (all_equalities (map (λ e. d ++ e) es))
    (list_all-append (λ l. asks_equality l.op false) d e ∙ and_from (are_equalities d) (are_equalities e) h (first_so (are_equalities e) (all_equalities es) k))
    (all-each d es h (second_so (are_equalities e) (all_equalities es) k))

all-pairs : (ds es : List (List Literal)) → all_equalities ds ≡ true → all_equalities es ≡ true → all_equalities (pairs_of ds es) ≡ true
all-pairs [] es h k = refl
all-pairs (d ∷ ds) es h k =
    all-append (map (λ e. d ++ e) es) (pairs_of ds es) (all-each d es (first_so (are_equalities d) (all_equalities ds) h) k)
    (all-pairs ds es (second_so (are_equalities d) (all_equalities ds) h) k)

all-combined : (fs : List (List (List Literal))) → list_all all_equalities fs ≡ true → all_equalities (combined fs) ≡ true
all-combined [] e = refl
all-combined (f ∷ fs) e =
    ap all_equalities (combined-cons f fs)
    ∙ all-pairs f (combined fs) (first_so (all_equalities f) (list_all all_equalities fs) e) (all-combined fs (second_so (all_equalities f) (list_all all_equalities fs) e))

-- ---- layer by layer

-- the disjuncts of a condition, or of its negation, have only equalities where it asks for these alone
abbrev IsOnlyEqual : Cond → Type 0
IsOnlyEqual c = (b : Bool) → asks_equalities c b ≡ true → all_equalities (form_of c b) ≡ true

only_parts : (b : Bool) (es : List ((c : Cond) × IsOnlyEqual c)) → list_all (λ c. asks_equalities c b) (parts_of es) ≡ true → list_all all_equalities (forms b (parts_of es)) ≡ true
only_parts b [] h = refl
only_parts b (e ∷ es) h =
    and_from (all_equalities (form_of e.0 b)) (list_all all_equalities (forms b (parts_of es)))
    (e.1 b (first_so (asks_equalities e.0 b) (list_all (λ c. asks_equalities c b) (parts_of es)) h))
    (only_parts b es (second_so (asks_equalities e.0 b) (list_all (λ c. asks_equalities c b) (parts_of es)) h))

asked : (op : Op) → asks_equality op true ≡ true → asks_equality (complement_of op) false ≡ true
asked Equal h = absurd (cc)
asked NotEqual h = refl
asked Less h = absurd (cc)
asked LessEqual h = absurd (cc)
asked Greater h = absurd (cc)
asked GreaterEqual h = absurd (cc)

one : (l : Literal) → asks_equality l.op false ≡ true → all_equalities ((l ∷ []) ∷ []) ≡ true
one l h = and_from (asks_equality l.op false && true) true (and_from (asks_equality l.op false) true h refl) refl

only_compare : (l : Literal) → IsOnlyEqual (Compare l)
only_compare l true h = ap all_equalities (form_of-Compare l true) ∙ one (opposite_of l) (asked l.op (sym (asks-Compare l true) ∙ h))
only_compare l false h = ap all_equalities (form_of-Compare l false) ∙ one l (sym (asks-Compare l false) ∙ h)

only_not : (c : Cond) → IsOnlyEqual c → IsOnlyEqual (Not c)
only_not c only b h = ap all_equalities (form_of-Not c b) ∙ only (not b) (sym (asks-Not c b) ∙ h)

only_All : (es : List ((c : Cond) × IsOnlyEqual c)) → IsOnlyEqual (All (parts_of es))
only_All es true h = ap all_equalities (form_of-All (parts_of es) true) ∙ all-joined (forms true (parts_of es)) (only_parts true es (sym (asks-All (parts_of es) true) ∙ h))
only_All es false h = ap all_equalities (form_of-All (parts_of es) false) ∙ all-combined (forms false (parts_of es)) (only_parts false es (sym (asks-All (parts_of es) false) ∙ h))

only_Any : (es : List ((c : Cond) × IsOnlyEqual c)) → IsOnlyEqual (Any (parts_of es))
only_Any es true h = ap all_equalities (form_of-Any (parts_of es) true) ∙ all-combined (forms true (parts_of es)) (only_parts true es (sym (asks-Any (parts_of es) true) ∙ h))
only_Any es false h = ap all_equalities (form_of-Any (parts_of es) false) ∙ all-joined (forms false (parts_of es)) (only_parts false es (sym (asks-Any (parts_of es) false) ∙ h))

pub only_equalities : (c : Cond) → asks_equalities c false ≡ true → all_equalities (form_of c false) ≡ true
only_equalities c h = by_layers IsOnlyEqual only_compare only_not only_All only_Any c false h
