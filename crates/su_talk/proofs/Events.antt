-- One event more.
use Rattle.std.proofs.Common.{◌≡◌, ◌++◌, ◌||◌, ◌∙◌, ℕ, Bool, true, false, List, [], ◌∷◌, refl, ap, sym, append_assoc, append-nil}
use Rattle.su_state.specs.DatabaseValue.{DatabaseValue}
use Rattle.su_talk.specs.Events.{Event, bytes_of, come_of, text_in, told_of, kept_behind, kept_of, is_end, is_over, is_fault, is_at_fault}

pub or-assoc : (a b c : Bool) → (a || (b || c)) ≡ ((a || b) || c)
or-assoc true b c = refl
or-assoc false b c = refl

pub or-false : (a : Bool) → (a || false) ≡ a
or-false true = refl
or-false false = refl

pub come_of-append : (xs ys : List Event) → come_of (xs ++ ys) ≡ come_of xs ++ come_of ys
come_of-append [] ys = refl
come_of-append (x ∷ xs) ys = ap (λ (l : List ℕ). bytes_of x ++ l) (come_of-append xs ys) ∙ sym (append_assoc (bytes_of x) (come_of xs) (come_of ys))

pub told_of-append : (xs ys : List Event) → told_of (xs ++ ys) ≡ told_of xs ++ told_of ys
told_of-append [] ys = refl
told_of-append (x ∷ xs) ys = ap (λ (l : List ℕ). text_in x ++ l) (told_of-append xs ys) ∙ sym (append_assoc (text_in x) (told_of xs) (told_of ys))

pub kept_of-append : (db : DatabaseValue) (xs ys : List Event) → kept_of db (xs ++ ys) ≡ kept_of (kept_of db xs) ys
kept_of-append db [] ys = refl
kept_of-append db (x ∷ xs) ys = kept_of-append (kept_behind db x) xs ys

pub is_over-append : (xs ys : List Event) → is_over (xs ++ ys) ≡ (is_over xs || is_over ys)
is_over-append [] ys = refl
is_over-append (x ∷ xs) ys = ap (λ (b : Bool). is_end x || b) (is_over-append xs ys) ∙ or-assoc (is_end x) (is_over xs) (is_over ys)

pub is_at_fault-append : (xs ys : List Event) → is_at_fault (xs ++ ys) ≡ (is_at_fault xs || is_at_fault ys)
is_at_fault-append [] ys = refl
is_at_fault-append (x ∷ xs) ys = ap (λ (b : Bool). is_fault x || b) (is_at_fault-append xs ys) ∙ or-assoc (is_fault x) (is_at_fault xs) (is_at_fault ys)

pub come_of-push : (xs : List Event) (e : Event) → come_of (xs ++ e ∷ []) ≡ come_of xs ++ bytes_of e
come_of-push xs e = come_of-append xs (e ∷ []) ∙ ap (λ (l : List ℕ). come_of xs ++ l) (append-nil (bytes_of e))

pub told_of-push : (xs : List Event) (e : Event) → told_of (xs ++ e ∷ []) ≡ told_of xs ++ text_in e
told_of-push xs e = told_of-append xs (e ∷ []) ∙ ap (λ (l : List ℕ). told_of xs ++ l) (append-nil (text_in e))

pub kept_of-push : (db : DatabaseValue) (xs : List Event) (e : Event) → kept_of db (xs ++ e ∷ []) ≡ kept_behind (kept_of db xs) e
kept_of-push db xs e = kept_of-append db xs (e ∷ [])

pub is_over-push : (xs : List Event) (e : Event) → is_over (xs ++ e ∷ []) ≡ (is_over xs || is_end e)
is_over-push xs e = is_over-append xs (e ∷ []) ∙ ap (λ (b : Bool). is_over xs || b) (or-false (is_end e))

pub is_at_fault-push : (xs : List Event) (e : Event) → is_at_fault (xs ++ e ∷ []) ≡ (is_at_fault xs || is_fault e)
is_at_fault-push xs e = is_at_fault-append xs (e ∷ []) ∙ ap (λ (b : Bool). is_at_fault xs || b) (or-false (is_fault e))

-- the last event of a list is one
pub last_same : (xs ys : List Event) (x y : Event) → xs ++ x ∷ [] ≡ ys ++ y ∷ [] → x ≡ y
last_same [] [] x y same = cc
last_same [] (b ∷ []) x y same = absurd cc
last_same [] (b ∷ c ∷ ys) x y same = absurd cc
last_same (a ∷ []) [] x y same = absurd cc
last_same (a ∷ c ∷ xs) [] x y same = absurd cc
last_same (a ∷ xs) (b ∷ ys) x y same = let tails : xs ++ x ∷ [] ≡ ys ++ y ∷ [] = cc in last_same xs ys x y tails
