-- Checks that are taken as tests, one after another.
use Rattle.std.proofs.Common.{◌≡◌, ℕ, ◌+◌, ◌<◌, Bool, true, false, List, [], ◌∷◌, ◌++◌, length, take, get_or, refl, sym, ap, ◌∙◌, append_assoc}
use Rattle.std.specs.Prelude.{◌&&◌, ◌||◌, nat_eq}
use Rattle.std.specs.List.{list_all}
use Rattle.std.proofs.Math.Bool.{and-true, and_assoc, and_comm}
use Rattle.std.proofs.lemmas.Bool.{or_left, or_right}
use Rattle.std.proofs.lemmas.List.{take_more}
use Rattle.std.proofs.lemmas.List.Folds.{list_all-append, list_any-append}
use Rattle.su_base.specs.declared.values.Value.{Value}
use Rattle.su_exec.specs.declared.checks.Check.{Check}
use Rattle.su_exec.specs.declared.checks.Test.{Test}
use Rattle.su_exec.specs.inside.Edges.{has}
use Rattle.su_exec.specs.inside.Checks.{all_hold, all_pass, check_holds, check_vars, test_passes, vars_of}

all_push : {X : Type 0} (p : X → Bool) (xs : List X) (x : X) → list_all p (xs ++ x ∷ []) ≡ (list_all p xs && p x)
all_push p xs x = list_all-append p xs (x ∷ []) ∙ ap (λ b. list_all p xs && b) (and-true (p x))

-- a check becomes a test
pub taken_now : (a h p l c t : Bool) → a ≡ (p && l) → t ≡ c → h ≡ (a && c) → h ≡ ((p && t) && l)
taken_now a h p l c t e f g =
    g ∙ ap (λ a. a && c) e ∙ and_assoc p l c ∙ ap (λ b. p && b) (and_comm l c) ∙ sym (and_assoc p c l) ∙ ap (λ t. (p && t) && l) (sym f)

-- a check is left for later
pub taken_later : (a h p l c : Bool) → a ≡ (p && l) → h ≡ (a && c) → h ≡ (p && (l && c))
taken_later a h p l c e g = g ∙ ap (λ a. a && c) e ∙ and_assoc p l c

pub hold_push : (values : List Value) (cs : List Check) (c : Check) (v : ℕ → ℕ) → all_hold values (cs ++ c ∷ []) v ≡ (all_hold values cs v && check_holds values v c)
hold_push values cs c v = all_push (check_holds values v) cs c

pub pass_push : (values : List Value) (ts : List Test) (t : Test) (row other : List ℕ) → all_pass values (ts ++ t ∷ []) row other ≡ (all_pass values ts row other && test_passes values row other t)
pass_push values ts t row other = all_push (test_passes values row other) ts t

pub vars_push : (cs : List Check) (c : Check) → check_vars (cs ++ c ∷ []) ≡ check_vars cs ++ check_vars (c ∷ [])
vars_push [] c = refl
vars_push (d ∷ cs) c =
    let i = vars_push cs c in
    ap (λ r. vars_of d.left ++ (vars_of d.right ++ r)) i
    ∙ sym (append_assoc (vars_of d.left) (vars_of d.right ++ check_vars cs) (check_vars (c ∷ [])) ∙ ap (λ r. vars_of d.left ++ r) (append_assoc (vars_of d.right) (check_vars cs) (check_vars (c ∷ []))))

pub has_push : (cs : List Check) (c : Check) (k : ℕ) → has (check_vars (cs ++ c ∷ [])) k ≡ (has (check_vars cs) k || has (check_vars (c ∷ [])) k)
has_push cs c k = ap (λ ks. has ks k) (vars_push cs c) ∙ list_any-append (λ x. nat_eq x k) (check_vars cs) (check_vars (c ∷ []))

-- one check is taken as a test
pub take_now : (p t l c : Bool) → t ≡ c → ((p && t) && l) ≡ ((p && l) && c)
take_now p t l c e = ap (λ t. (p && t) && l) e ∙ and_assoc p c l ∙ ap (λ x. p && x) (and_comm c l) ∙ sym (and_assoc p l c)

-- one check more of a list
module _ (cs : List Check) (i : ℕ) (d : Check) (l : i < length cs) where
  pub hold_more : (values : List Value) (v : ℕ → ℕ) → all_hold values (take (i + 1) cs) v ≡ (all_hold values (take i cs) v && check_holds values v (get_or cs i d))
  hold_more values v = ap (λ (xs : List Check). all_hold values xs v) (take_more cs i d l) ∙ hold_push values (take i cs) (get_or cs i d) v

  pub has_more : (k : ℕ) → has (check_vars (take (i + 1) cs)) k ≡ (has (check_vars (take i cs)) k || has (check_vars (get_or cs i d ∷ [])) k)
  has_more k = ap (λ (xs : List Check). has (check_vars xs) k) (take_more cs i d l) ∙ has_push (take i cs) (get_or cs i d) k

pub or_map : (a b c : Bool) → (a ≡ true → b ≡ true) → (a || c) ≡ true → (b || c) ≡ true
or_map true b c f h = or_left b c (f refl)
or_map false b c f h = or_right b c h

pub ruleset check_steps = (has_push, list_any-append, take_more)
