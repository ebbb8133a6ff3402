-- Loads of the same rows into databases that are alike have equal answers, and leave them alike.
use Rattle.std.proofs.Common.{◌≡◌, ◌+◌, ℕ, Bool, List, [], ◌∷◌, ◌++◌, length, Result, Ok, Err, refl, ap, sym, ◌∙◌, subst, arith}
use Rattle.su_base.specs.declared.values.Value.{Value}
use Rattle.su_state.specs.declared.faults.StateFault.{StateFault}
use Rattle.su_state.specs.declared.faults.LoadEnd.TheVariants as load
use Rattle.su_state.specs.DatabaseValue.{DatabaseValue}
use Rattle.su_state.specs.RowChanges.{Inserts}
use Rattle.su_state.specs.Loads.{added_by, InsertsAll}
use Rattle.su_once.specs.States.{AreAlike, OneLoad}
use Rattle.su_once.proofs.Answered.{back}
use Rattle.su_once.proofs.Changed.{one_insert}

abbrev Row : Type 0
Row = List Value

same_flag : (x y : Bool) → ◌≡◌ {A = Result Bool StateFault} (Ok x) (Ok y) → x ≡ y
same_flag x y e = cc

same_fault : (f g : StateFault) → ◌≡◌ {A = Result Bool StateFault} (Err f) (Err g) → f ≡ g
same_fault f g e = cc

not_both : (x : Bool) (f : StateFault) → ◌≡◌ {A = Result Bool StateFault} (Ok x) (Err f) → ⊥
not_both x f e = absurd (cc)

-- one accepted insert more
one_step : (a b c d : DatabaseValue) (r : ℕ) (row : Row) (x y : Bool) → AreAlike a b → Inserts a r row (Ok x) c → Inserts b r row (Ok y) d → (x ≡ y) × AreAlike c d
one_step a b c d r row x y alike h k = let one = one_insert a b c d r row (Ok x) (Ok y) alike h k in (same_flag x y one.0, one.1)

one_all : (a b c d : DatabaseValue) (r : ℕ) (rows : List Row) (m n : ℕ) → AreAlike a b → InsertsAll a r rows m c → InsertsAll b r rows n d → (m ≡ n) × AreAlike c d
one_all a b c d r [] m n alike h k = (h.0 ∙ sym k.0, subst (λ (v : DatabaseValue). AreAlike v d) (sym h.1) (subst (λ (v : DatabaseValue). AreAlike a v) (sym k.1) alike))
one_all a b c d r (row ∷ rows) m n alike (p, x, i, first, rest, count) (q, y, j, other, others, number) =
    let step = one_step a b p q r row x y alike first other in
    let more = one_all p q c d r rows i j step.1 rest others in
    (count ∙ (λ t. added_by (step.0 t) + more.0 t) ∙ sym number, more.1)

-- where the inserts before a refused one are not all of those before another
one_refusal : (a b c d : DatabaseValue) (r : ℕ) (before others after later : List Row) (row other : Row) (m n : ℕ) (f g : StateFault) (p q : DatabaseValue)
    → AreAlike a b → before ++ row ∷ after ≡ others ++ other ∷ later
    → InsertsAll a r before m c → Inserts c r row (Err f) p → InsertsAll b r others n d → Inserts d r other (Err g) q
    → (length before ≡ length others) × (f ≡ g)
one_refusal a b c d r [] [] after later row other m n f g p q alike same h fails k stops =
    let head : other ≡ row = cc in
    let here : Inserts a r row (Err f) p = subst (λ (v : DatabaseValue). Inserts v r row (Err f) p) h.1 fails in
    let there : Inserts b r row (Err g) q = subst (λ (v : Row). Inserts b r v (Err g) q) head (subst (λ (v : DatabaseValue). Inserts v r other (Err g) q) k.1 stops) in
    (refl, same_fault f g (one_insert a b p q r row (Err f) (Err g) alike here there).0)
one_refusal a b c d r [] (x ∷ xs) after later row other m n f g p q alike same h fails (e, y, j, first, rest, count) stops =
    let head : x ≡ row = cc in
    let here : Inserts a r row (Err f) p = subst (λ (v : DatabaseValue). Inserts v r row (Err f) p) h.1 fails in
    let there : Inserts b r row (Ok y) e = subst (λ (v : Row). Inserts b r v (Ok y) e) head first in
    absurd (not_both y f (sym (one_insert a b p e r row (Err f) (Ok y) alike here there).0))
one_refusal a b c d r (x ∷ xs) [] after later row other m n f g p q alike same (e, y, j, first, rest, count) fails k stops =
    let head : other ≡ x = cc in
    let there : Inserts b r x (Err g) q = subst (λ (v : Row). Inserts b r v (Err g) q) head (subst (λ (v : DatabaseValue). Inserts v r other (Err g) q) k.1 stops) in
    absurd (not_both y g (one_insert a b e q r x (Ok y) (Err g) alike first there).0)
one_refusal a b c d r (x ∷ xs) (z ∷ zs) after later row other m n f g p q alike same (e, y, j, first, rest, count) fails (t, u, l, one, ones, number) stops =
    let head : z ≡ x = cc in
    let behind : xs ++ row ∷ after ≡ zs ++ other ∷ later = cc in
    let step = one_step a b e t r x y u alike first (subst (λ (v : Row). Inserts b r v (Ok u) t) head one) in
    let more = one_refusal e t c d r xs zs after later row other j l f g p q step.1 behind rest fails ones stops in
    (omega (arith, more.0), more.1)

-- all inserts are accepted, or one is refused
all_or_refused : (a b c d : DatabaseValue) (r : ℕ) (rows before after : List Row) (row : Row) (m n : ℕ) (f : StateFault) (p : DatabaseValue)
    → AreAlike a b → rows ≡ before ++ row ∷ after → InsertsAll a r rows m c → InsertsAll b r before n d → Inserts d r row (Err f) p → ⊥
all_or_refused a b c d r [] before after row m n f p alike same h k fails = none before same where
  none : (xs : List Row) → [] ≡ xs ++ row ∷ after → ⊥
  none [] e = absurd (cc)
  none (x ∷ xs) e = absurd (cc)
all_or_refused a b c d r (x ∷ xs) [] after row m n f p alike same (e, y, j, first, rest, count) k fails =
    let head : row ≡ x = cc in
    let there : Inserts b r x (Err f) p = subst (λ (v : Row). Inserts b r v (Err f) p) head (subst (λ (v : DatabaseValue). Inserts v r row (Err f) p) k.1 fails) in
    not_both y f (one_insert a b e p r x (Ok y) (Err f) alike first there).0
all_or_refused a b c d r (x ∷ xs) (z ∷ zs) after row m n f p alike same (e, y, j, first, rest, count) (t, u, l, one, ones, number) fails =
    let head : z ≡ x = cc in
    let behind : xs ≡ zs ++ row ∷ after = cc in
    let step = one_step a b e t r x y u alike first (subst (λ (v : Row). Inserts b r v (Ok u) t) head one) in
    all_or_refused e t c d r xs zs after row j l f p step.1 behind rest ones fails

pub one_load : OneLoad
one_load a b c d r rows (Ok m) (Ok n) alike h k = let all = one_all a b c d r rows m n alike h k in (ap Ok all.0, all.1)
one_load a b c d r rows (Ok m) (Err (load.Refused why)) alike h (k, same) =
    absurd (all_or_refused a b c k.between r rows k.before k.after k.row m k.count why.fault k.between alike k.split h k.accepted k.refused)
one_load a b c d r rows (Err (load.Refused why)) (Ok n) alike (h, same) k =
    absurd (all_or_refused b a d h.between r rows h.before h.after h.row n h.count why.fault h.between (back a b alike) h.split k h.accepted h.refused)
one_load a b c d r rows (Err (load.Refused why)) (Err (load.Refused other)) alike (h, same) (k, is) =
    let one = one_refusal a b h.between k.between r h.before k.before h.after k.after h.row k.row h.count k.count why.fault other.fault h.between k.between alike (sym h.split ∙ k.split) h.accepted h.refused k.accepted k.refused in
    let number : why.number ≡ other.number = h.number ∙ ap (λ n. n + 1) one.0 ∙ sym k.number in
    (λ i. Err (load.Refused (record { number = number i; fault = one.1 i })), subst (λ (v : DatabaseValue). AreAlike v d) (sym same) (subst (λ (v : DatabaseValue). AreAlike a v) (sym is) alike))
one_load a b c d r rows (Err load.NoMemory) y alike h k = absurd h
one_load a b c d r rows (Ok m) (Err load.NoMemory) alike h k = absurd k
one_load a b c d r rows (Err (load.Refused why)) (Err load.NoMemory) alike h k = absurd k
