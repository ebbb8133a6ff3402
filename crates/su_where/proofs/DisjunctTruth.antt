-- A condition is true exactly where all comparisons of some of its disjuncts hold.
use Rattle.std.proofs.Common.{◌≡◌, Bool, true, false, not, ◌&&◌, ◌||◌, List, [], ◌∷◌, ◌++◌, map, refl, sym, ap, ◌∙◌}
use Rattle.std.specs.List.{list_all, list_any}
use Rattle.std.proofs.Math.Bool.{and-false, and-or_distrib_left, and-or_distrib_right, and-true, not-not, or-false}
use Rattle.std.proofs.lemmas.List.Folds.{list_all-append, list_any-append}
use Rattle.std.specs.declared.cmp.Ordering.{Ordering}
use Rattle.std.specs.declared.cmp.Ordering.TheVariants.{Less as Before, Equal as Same, Greater as After}
use Rattle.su_base.specs.declared.values.Value.{Value}
use Rattle.su_base.specs.Value.{compare_values}
use Rattle.su_where.specs.declared.operators.Op.{Op}
use Rattle.su_where.specs.declared.operators.Op.TheVariants.{Equal, NotEqual, Less, LessEqual, Greater, GreaterEqual}
use Rattle.su_where.specs.declared.literals.Literal.{Literal}
use Rattle.su_where.specs.declared.conditions.Condition.TheVariants.{Compare, Not, All, Any}
use Rattle.su_where.specs.Operator.{holds_in, complement_of}
use Rattle.su_where.specs.Truth.{Cond, value_of_operand, holds, truth_of}
use Rattle.su_where.specs.Disjunct.{opposite_of, combined, form_of, all_hold, some_holds, KeepsTruth}
use Rattle.su_where.specs.inside.Joined.{joined}
use Rattle.su_where.proofs.Layers.{truth_of-Compare, truth_of-Not, truth_of-All, truth_of-Any, parts_of, by_layers}
use Rattle.su_where.proofs.Disjunctive.{pairs_of, combined-cons, forms, form_of-Compare, form_of-Not, form_of-All, form_of-Any}

complement-holds : (op : Op) (o : Ordering) → holds_in (complement_of op) o ≡ not (holds_in op o)
complement-holds Equal Before = refl
complement-holds Equal Same = refl
complement-holds Equal After = refl
complement-holds NotEqual Before = refl
complement-holds NotEqual Same = refl
complement-holds NotEqual After = refl
complement-holds Less Before = refl
complement-holds Less Same = refl
complement-holds Less After = refl
complement-holds LessEqual Before = refl
complement-holds LessEqual Same = refl
complement-holds LessEqual After = refl
complement-holds Greater Before = refl
complement-holds Greater Same = refl
complement-holds Greater After = refl
complement-holds GreaterEqual Before = refl
complement-holds GreaterEqual Same = refl
complement-holds GreaterEqual After = refl

-- the truth of a condition, or of its negation
abbrev under : Bool → Bool → Bool
under true v = not v
under false v = v

some-append : (vs : List Value) (xs ys : List (List Literal)) → some_holds (xs ++ ys) vs ≡ (some_holds xs vs || some_holds ys vs)
some-append vs xs ys = list_any-append (λ d. all_hold d vs) xs ys

some-joined : (vs : List Value) (fs : List (List (List Literal))) → some_holds (joined fs) vs ≡ list_any (λ f. some_holds f vs) fs
some-joined vs [] = refl
some-joined vs (f ∷ fs) = some-append vs f (joined fs) ∙ ap (λ v. some_holds f vs || v) (some-joined vs fs)

some-each : (vs : List Value) (d : List Literal) (es : List (List Literal)) → some_holds (map (λ e. d ++ e) es) vs ≡ (all_hold d vs && some_holds es vs)
some-each vs d [] = sym (and-false (all_hold d vs))
some-each vs d (e ∷ es) =
    ap (λ v. all_hold (d ++ e) vs || v) (some-each vs d es) ∙ ap (λ v. v || (all_hold d vs && some_holds es vs)) (list_all-append (λ l. holds l vs) d e)
    ∙ sym (and-or_distrib_left (all_hold d vs) (all_hold e vs) (some_holds es vs))

some-pairs : (vs : List Value) (ds es : List (List Literal)) → some_holds (pairs_of ds es) vs ≡ (some_holds ds vs && some_holds es vs)
some-pairs vs [] es = refl
some-pairs vs (d ∷ ds) es =
    some-append vs (map (λ e. d ++ e) es) (pairs_of ds es) ∙ ap (λ v. v || some_holds (pairs_of ds es) vs) (some-each vs d es)
    ∙ ap (λ v. (all_hold d vs && some_holds es vs) || v) (some-pairs vs ds es) ∙ sym (and-or_distrib_right (all_hold d vs) (some_holds ds vs) (some_holds es vs))

some-combined : (vs : List Value) (fs : List (List (List Literal))) → some_holds (combined fs) vs ≡ list_all (λ f. some_holds f vs) fs
some-combined vs [] = refl
some-combined vs (f ∷ fs) = ap (λ ds. some_holds ds vs) (combined-cons f fs) ∙ some-pairs vs f (combined fs) ∙ ap (λ v. some_holds f vs && v) (some-combined vs fs)

not-and : (a b : Bool) → (not a || not b) ≡ not (a && b)
not-and true b = refl
not-and false b = refl

not-or : (a b : Bool) → (not a && not b) ≡ not (a || b)
not-or true b = refl
not-or false b = refl

-- the disjuncts of a condition and of its negation say what these say
abbrev IsKept : Cond → Type 0
IsKept c = (b : Bool) (vs : List Value) → some_holds (form_of c b) vs ≡ under b (truth_of c vs)

kept_all : (vs : List Value) (es : List ((c : Cond) × IsKept c)) → list_all (λ f. some_holds f vs) (forms false (parts_of es)) ≡ list_all (λ c. truth_of c vs) (parts_of es)
kept_all vs [] = refl
kept_all vs (e ∷ es) = ap (λ v. v && list_all (λ f. some_holds f vs) (forms false (parts_of es))) (e.1 false vs) ∙ ap (λ v. truth_of e.0 vs && v) (kept_all vs es)

kept_any : (vs : List Value) (es : List ((c : Cond) × IsKept c)) → list_any (λ f. some_holds f vs) (forms false (parts_of es)) ≡ list_any (λ c. truth_of c vs) (parts_of es)
kept_any vs [] = refl
kept_any vs (e ∷ es) = ap (λ v. v || list_any (λ f. some_holds f vs) (forms false (parts_of es))) (e.1 false vs) ∙ ap (λ v. truth_of e.0 vs || v) (kept_any vs es)

kept_not_all : (vs : List Value) (es : List ((c : Cond) × IsKept c)) → list_any (λ f. some_holds f vs) (forms true (parts_of es)) ≡ not (list_all (λ c. truth_of c vs) (parts_of es))
kept_not_all vs [] = refl
kept_not_all vs (e ∷ es) =
    ap (λ v. v || list_any (λ f. some_holds f vs) (forms true (parts_of es))) (e.1 true vs) ∙ ap (λ v. not (truth_of e.0 vs) || v) (kept_not_all vs es)
    ∙ not-and (truth_of e.0 vs) (list_all (λ c. truth_of c vs) (parts_of es))

kept_not_any : (vs : List Value) (es : List ((c : Cond) × IsKept c)) → list_all (λ f. some_holds f vs) (forms true (parts_of es)) ≡ not (list_any (λ c. truth_of c vs) (parts_of es))
kept_not_any vs [] = refl
kept_not_any vs (e ∷ es) =
    ap (λ v. v && list_all (λ f. some_holds f vs) (forms true (parts_of es))) (e.1 true vs) ∙ ap (λ v. not (truth_of e.0 vs) && v) (kept_not_any vs es)
    ∙ not-or (truth_of e.0 vs) (list_any (λ c. truth_of c vs) (parts_of es))

one : (l : Literal) (vs : List Value) → some_holds ((l ∷ []) ∷ []) vs ≡ holds l vs
one l vs = or-false (holds l vs && true) ∙ and-true (holds l vs)

-- the same for one layer, from its parts
kept_compare : (l : Literal) → IsKept (Compare l)
kept_compare l true vs =
    ap (λ ds. some_holds ds vs) (form_of-Compare l true) ∙ one (opposite_of l) vs ∙ complement-holds l.op (compare_values (value_of_operand l.left vs) (value_of_operand l.right vs))
    ∙ ap not (sym (truth_of-Compare l vs))
kept_compare l false vs = ap (λ ds. some_holds ds vs) (form_of-Compare l false) ∙ one l vs ∙ sym (truth_of-Compare l vs)

kept_not : (c : Cond) → IsKept c → IsKept (Not c)
kept_not c kept true vs = ap (λ ds. some_holds ds vs) (form_of-Not c true) ∙ kept false vs ∙ sym (not-not (truth_of c vs)) ∙ ap not (sym (truth_of-Not c vs))
kept_not c kept false vs = ap (λ ds. some_holds ds vs) (form_of-Not c false) ∙ kept true vs ∙ sym (truth_of-Not c vs)

kept_All : (es : List ((c : Cond) × IsKept c)) → IsKept (All (parts_of es))
kept_All es true vs =
    ap (λ ds. some_holds ds vs) (form_of-All (parts_of es) true) ∙ some-joined vs (forms true (parts_of es)) ∙ kept_not_all vs es ∙ ap not (sym (truth_of-All (parts_of es) vs))
kept_All es false vs =
    ap (λ ds. some_holds ds vs) (form_of-All (parts_of es) false) ∙ some-combined vs (forms false (parts_of es)) ∙ kept_all vs es ∙ sym (truth_of-All (parts_of es) vs)

kept_Any : (es : List ((c : Cond) × IsKept c)) → IsKept (Any (parts_of es))
kept_Any es true vs =
    ap (λ ds. some_holds ds vs) (form_of-Any (parts_of es) true) ∙ some-combined vs (forms true (parts_of es)) ∙ kept_not_any vs es ∙ ap not (sym (truth_of-Any (parts_of es) vs))
kept_Any es false vs =
    ap (λ ds. some_holds ds vs) (form_of-Any (parts_of es) false) ∙ some-joined vs (forms false (parts_of es)) ∙ kept_any vs es ∙ sym (truth_of-Any (parts_of es) vs)

kept : (c : Cond) → IsKept c
kept = by_layers IsKept kept_compare kept_not kept_All kept_Any

pub keeps_truth : (c : Cond) → KeepsTruth c
keeps_truth c vs = sym (kept c false vs)
