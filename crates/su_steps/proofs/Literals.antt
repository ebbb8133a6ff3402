-- What holds of each comparison of a condition, and of its opposite, holds of each comparison of a disjunct.
use Rattle.std.proofs.Common.{Bool, true, false, not, List, [], ◌∷◌, ◌++◌, map, sym, subst}
use Rattle.std.specs.List.{AllByRecursion, flat_map}
use Rattle.su_base.proofs.Items.{AllByRecursion-append, AllByRecursion-append_left, AllByRecursion-append_right}
use Rattle.su_where.specs.declared.literals.Literal.{Literal}
use Rattle.su_where.specs.declared.conditions.Condition.TheVariants.{Compare, Not, All, Any}
use Rattle.su_where.specs.Truth.{Cond, comparisons_of}
use Rattle.su_where.specs.Disjunct.{opposite_of, combined, form_of, disjuncts_of}
use Rattle.su_where.specs.inside.Joined.{joined}
use Rattle.su_where.proofs.Layers.{comparisons_of-Compare, comparisons_of-Not, comparisons_of-All, comparisons_of-Any, parts_of, by_layers}
use Rattle.su_where.proofs.Disjunctive.{pairs_of, combined-cons, forms, form_of-Compare, form_of-Not, form_of-All, form_of-Any}

module _ (P : Literal → Type 0) (turned : (l : Literal) → P l → P (opposite_of l)) where
  -- each comparison of each disjunct
  abbrev AllIn : List (List Literal) → Type 0
  AllIn ds = AllByRecursion (AllByRecursion P) ds

  all_each : (d : List Literal) (es : List (List Literal)) → AllByRecursion P d → AllIn es → AllIn (map (λ e. d ++ e) es)
  all_each d [] h k = tt
  all_each d (e ∷ es) h k = (AllByRecursion-append P d e h k.0, all_each d es h k.1)

  all_pairs : (ds es : List (List Literal)) → AllIn ds → AllIn es → AllIn (pairs_of ds es)
  all_pairs [] es h k = tt
  all_pairs (d ∷ ds) es h k = AllByRecursion-append (AllByRecursion P) (map (λ e. d ++ e) es) (pairs_of ds es) (all_each d es h.0 k) (all_pairs ds es h.1 k)

  all_combined : (fs : List (List (List Literal))) → AllByRecursion AllIn fs → AllIn (combined fs)
  all_combined [] h = (tt, tt)
  all_combined (f ∷ fs) h = subst AllIn (sym (combined-cons f fs)) (all_pairs f (combined fs) h.0 (all_combined fs h.1))

  all_joined : (fs : List (List (List Literal))) → AllByRecursion AllIn fs → AllIn (joined fs)
  all_joined [] h = tt
  all_joined (f ∷ fs) h = AllByRecursion-append (AllByRecursion P) f (joined fs) h.0 (all_joined fs h.1)

  abbrev IsKept : Cond → Type 0
  IsKept c = (b : Bool) → AllByRecursion P (comparisons_of c) → AllIn (form_of c b)

  kept_parts : (b : Bool) (es : List ((c : Cond) × IsKept c)) → AllByRecursion P (flat_map comparisons_of (parts_of es)) → AllByRecursion AllIn (forms b (parts_of es))
  kept_parts b [] h = tt
  kept_parts b (e ∷ es) h =
      (e.1 b (AllByRecursion-append_left P (comparisons_of e.0) (flat_map comparisons_of (parts_of es)) h), kept_parts b es (AllByRecursion-append_right P (comparisons_of e.0) (flat_map comparisons_of (parts_of es)) h))

  kept_compare : (l : Literal) → IsKept (Compare l)
  kept_compare l true h = subst AllIn (sym (form_of-Compare l true)) ((turned l (subst (AllByRecursion P) (comparisons_of-Compare l) h).0, tt), tt)
  kept_compare l false h = subst AllIn (sym (form_of-Compare l false)) (((subst (AllByRecursion P) (comparisons_of-Compare l) h).0, tt), tt)

  kept_not : (c : Cond) → IsKept c → IsKept (Not c)
  kept_not c kept b h = subst AllIn (sym (form_of-Not c b)) (kept (not b) (subst (AllByRecursion P) (comparisons_of-Not c) h))

  kept_All : (es : List ((c : Cond) × IsKept c)) → IsKept (All (parts_of es))
  kept_All es true h = subst AllIn (sym (form_of-All (parts_of es) true)) (all_joined (forms true (parts_of es)) (kept_parts true es (subst (AllByRecursion P) (comparisons_of-All (parts_of es)) h)))
  kept_All es false h = subst AllIn (sym (form_of-All (parts_of es) false)) (all_combined (forms false (parts_of es)) (kept_parts false es (subst (AllByRecursion P) (comparisons_of-All (parts_of es)) h)))

  kept_Any : (es : List ((c : Cond) × IsKept c)) → IsKept (Any (parts_of es))
  kept_Any es true h = subst AllIn (sym (form_of-Any (parts_of es) true)) (all_combined (forms true (parts_of es)) (kept_parts true es (subst (AllByRecursion P) (comparisons_of-Any (parts_of es)) h)))
  kept_Any es false h = subst AllIn (sym (form_of-Any (parts_of es) false)) (all_joined (forms false (parts_of es)) (kept_parts false es (subst (AllByRecursion P) (comparisons_of-Any (parts_of es)) h)))

  pub literals_of : (c : Cond) → AllByRecursion P (comparisons_of c) → AllByRecursion (AllByRecursion P) (disjuncts_of c)
  literals_of c h = by_layers IsKept kept_compare kept_not kept_All kept_Any c false h
