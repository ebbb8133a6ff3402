-- What semijoins along an order leave takes part.
use Rattle.std.proofs.Common.{◌≡◌, ◌≢◌, ◌<◌, ℕ, zero, suc, Bool, true, false, cond, List, [], ◌∷◌, length, get_or, Contains, ⊎_elim, refl, sym, ap, subst, ◌∙◌, nat_eq, true≢false, IsTrue, arith}
use Rattle.std.proofs.lemmas.Bool.{cases_eq, cases_Bool}
use Rattle.std.proofs.lemmas.Bool.Decides.{nat_tests}
use Rattle.std.proofs.lemmas.List.{get_or_default}
use Rattle.su_base.proofs.Items.{Contains-cases, Contains-head, Contains-later, Contains-nil}
use Rattle.su_base.specs.declared.values.Value.{Value}
use Rattle.su_tableau.specs.declared.symbols.Sym.{Sym}
use Rattle.su_tableau.specs.declared.symbols.Sym.TheVariants.{Const, Var}
use Rattle.su_tableau.specs.Valuations.{value_of, values_of}
use Rattle.su_reduce.specs.declared.edges.Edge.{Edge}
use Rattle.su_reduce.specs.Ears.{cells_of, HasVar, Share}
use Rattle.su_reduce.specs.Left.{cells_at, candidates_at}
use Rattle.su_reduce.specs.inside.Marks.{IsMarked, marks_at, mark, candidate_at, HasPartner, IsSemijoin}
use Rattle.su_reduce.specs.inside.Reduced.{GivesMarked, HasChosen, TakesPart, AreExact}
use Rattle.su_tableau.proofs.ValuationLists.{values_same}
use Rattle.su_tableau.proofs.SymbolParts.{const_var}

-- ---- valuations

-- whether a symbol of the list is the variable
abbrev pub has : List Sym → ℕ → Bool
has [] k = false
has (Const c ∷ cells) k = has cells k
has (Var j ∷ cells) k = cond (nat_eq j k) true (has cells k)

-- u on the variables of the cells, v elsewhere
abbrev pub patched : List Sym → (ℕ → Value) → (ℕ → Value) → ℕ → Value
patched cells u v k = cond (has cells k) (u k) (v k)

has_yes : (cells : List Sym) (k : ℕ) → Contains cells (Var k) → has cells k ≡ true
has_yes [] k c = absurd (Contains-nil (Var k) c)
has_yes (Const d ∷ cells) k c =
    ⊎_elim
    (λ (e : Const d ≡ Var k). absurd (const_var d k e))
    (λ (there : Contains cells (Var k)). has_yes cells k there)
    (Contains-cases (Const d) cells (Var k) c)
has_yes (Var j ∷ cells) k c =
    ⊎_elim
    (λ (e : Var j ≡ Var k). let same : j ≡ k = cc in grind (arith, nat_tests, same))
    (λ (there : Contains cells (Var k)). let rest = has_yes cells k there in grind (arith, nat_tests, rest))
    (Contains-cases (Var j) cells (Var k) c)

has_there : (cells : List Sym) (k : ℕ) → has cells k ≡ true → Contains cells (Var k)
has_there [] k h = absurd (true≢false (sym h))
has_there (Const d ∷ cells) k h = Contains-later (Const d) cells (Var k) (has_there cells k h)
has_there (Var j ∷ cells) k h =
    ⊎_elim
    (λ (e : j ≡ k). subst (λ (n : ℕ). Contains (Var j ∷ cells) (Var n)) e (Contains-head (Var j) cells))
    (λ (ne : j ≡ k → ⊥). let rest : has cells k ≡ true = grind (arith, nat_tests, h, ne) in Contains-later (Var j) cells (Var k) (has_there cells k rest))
    (cases_eq j k)

-- and the other way round
agree_at : (u v : ℕ → Value) (cells : List Sym) (k : ℕ) → values_of u cells ≡ values_of v cells → Contains cells (Var k) → u k ≡ v k
agree_at u v [] k same c = absurd (Contains-nil (Var k) c)
agree_at u v (x ∷ cells) k same c =
    ⊎_elim
    (λ (e : x ≡ Var k). let head : value_of u x ≡ value_of v x = cc in let left : value_of u x ≡ u k = ap (value_of u) e in let right : value_of v x ≡ v k = ap (value_of v) e in sym left ∙ head ∙ right)
    (λ (there : Contains cells (Var k)). let rest : values_of u cells ≡ values_of v cells = cc in agree_at u v cells k rest there)
    (Contains-cases x cells (Var k) c)

pub patched_own : (cells : List Sym) (u v : ℕ → Value) → values_of (patched cells u v) cells ≡ values_of u cells
patched_own cells u v = values_same (patched cells u v) u cells (λ k c. ap (λ b. cond b (u k) (v k)) (has_yes cells k c))

-- where u and v agree on what the two share, the others keep their values
pub patched_others : (cells others : List Sym) (u v : ℕ → Value) → ((k : ℕ) → Contains cells (Var k) → Contains others (Var k) → u k ≡ v k) → values_of (patched cells u v) others ≡ values_of v others
patched_others cells others u v agree = values_same (patched cells u v) v others (λ k c.
    ⊎_elim
    (λ (yes : has cells k ≡ true). ap (λ b. cond b (u k) (v k)) yes ∙ agree k (has_there cells k yes) c)
    (λ (no : has cells k ≡ false). ap (λ b. cond b (u k) (v k)) no)
    (cases_Bool (has cells k)))

-- ---- edges

cells_are : (edges : List Edge) (i : ℕ) → get_or (cells_of edges) i [] ≡ cells_at edges i
cells_are [] i = refl
cells_are (e ∷ edges) zero = refl
cells_are (e ∷ edges) (suc i) = cells_are edges i

has_var : (edges : List Edge) (i k : ℕ) → Contains (cells_at edges i) (Var k) → HasVar (cells_of edges) i k
has_var edges i k c = subst (λ (cells : List Sym). Contains cells (Var k)) (sym (cells_are edges i)) c

var_of : (edges : List Edge) (i k : ℕ) → HasVar (cells_of edges) i k → Contains (cells_at edges i) (Var k)
var_of edges i k c = subst (λ (cells : List Sym). Contains cells (Var k)) (cells_are edges i) c

marked_after : (old new : List (List Bool)) (i p : ℕ) → marks_at new i ≡ marks_at old i → IsMarked old i p → IsMarked new i p
marked_after old new i p same h = subst (λ (ms : List Bool). IsTrue (mark ms p)) (sym same) h

-- ---- semijoins

-- nothing that a choosing valuation gives is taken away
pub join_chosen : (edges : List Edge) (a b : ℕ) (old new : List (List Bool)) → b < length edges → IsSemijoin edges a b old new → HasChosen edges old → HasChosen edges new
join_chosen edges a b old new lb s chosen = λ v ch i p li lp g.
    let at_b = ch b lb in
    let other : values_of v (cells_at edges b) ≡ candidate_at edges b at_b.0 = sym (get_or_default (candidates_at edges b) at_b.0 [] (values_of v (cells_at edges b)) at_b.1 ∙ at_b.2) in
    let before : IsMarked old i p = chosen v ch i p li lp g in
    ⊎_elim
    (λ (e : i ≡ a).
    let la : p < length (candidates_at edges a) = subst (λ (n : ℕ). p < length (candidates_at edges n)) e lp in
    let ga : values_of v (cells_at edges a) ≡ candidate_at edges a p = subst (λ (n : ℕ). values_of v (cells_at edges n) ≡ candidate_at edges n p) e g in
    subst (λ (n : ℕ). IsMarked new n p) (sym e) ((s.exact p la).1 (
      subst (λ (n : ℕ). IsMarked old n p) e before,
      record {
        place = at_b.0;
        below = at_b.1;
        is_marked = chosen v ch b at_b.0 lb at_b.1 other;
        meets = record { valuation = v; row_is = ga; other_is = other };
      },
    )))
    (λ (ne : i ≡ a → ⊥). marked_after old new i p (s.others i ne) before)
    (cases_eq i a)

pub join_fewer : (edges : List Edge) (a b : ℕ) (old new : List (List Bool)) → IsSemijoin edges a b old new → (i p : ℕ) → p < length (candidates_at edges i) → IsMarked new i p → IsMarked old i p
join_fewer edges a b old new s i p lp m =
    ⊎_elim
    (λ (e : i ≡ a). subst (λ (n : ℕ). IsMarked old n p) (sym e) ((s.exact p (subst (λ (n : ℕ). p < length (candidates_at edges n)) e lp)).0 (subst (λ (n : ℕ). IsMarked new n p) e m)).0)
    (λ (ne : i ≡ a → ⊥). marked_after new old i p (sym (s.others i ne)) m)
    (cases_eq i a)

-- an edge behind the ear keeps its values
patched_behind : (edges : List Edge) (e par j : ℕ) (later : List ℕ) (u v : ℕ → Value) → ((j k : ℕ) → Contains later j → Share (cells_of edges) e j k → HasVar (cells_of edges) par k) → values_of u (cells_at edges par) ≡ values_of v (cells_at edges par) → Contains later j → values_of (patched (cells_at edges e) u v) (cells_at edges j) ≡ values_of v (cells_at edges j)
patched_behind edges e par j later u v shares same there = patched_others (cells_at edges e) (cells_at edges j) u v (λ k in_e in_j. agree_at u v (cells_at edges par) k same (var_of edges par k (shares j k there (has_var edges e k in_e, has_var edges j k in_j))))

-- u gives the ear a marked candidate, v the edges behind it; they agree at its parent
extended : (edges : List Edge) (e par p : ℕ) (later : List ℕ) (old new : List (List Bool)) (u v : ℕ → Value) → ((j : ℕ) → j ≢ e → marks_at new j ≡ marks_at old j) → ¬ Contains later e → ((j k : ℕ) → Contains later j → Share (cells_of edges) e j k → HasVar (cells_of edges) par k) → p < length (candidates_at edges e) → IsMarked new e p → values_of u (cells_at edges e) ≡ candidate_at edges e p → values_of u (cells_at edges par) ≡ values_of v (cells_at edges par) → ((j : ℕ) → Contains later j → GivesMarked edges old v j) → (j : ℕ) → Contains (e ∷ later) j → GivesMarked edges new (patched (cells_at edges e) u v) j
extended edges e par p later old new u v others apart shares lp marked gives same all j c =
    ⊎_elim
    (λ (here : e ≡ j). subst (λ (n : ℕ). GivesMarked edges new (patched (cells_at edges e) u v) n) here (record {
      place = p;
      below = lp;
      is_marked = marked;
      gives = patched_own (cells_at edges e) u v ∙ gives;
    }))
    (λ (there : Contains later j).
    let g = all j there in
    let jn : j ≡ e → ⊥ = λ je. apart (subst (Contains later) je there) in
    record {
      place = g.place;
      below = g.below;
      is_marked = marked_after old new j g.place (others j jn) g.is_marked;
      gives = patched_behind edges e par j later u v shares same there ∙ g.gives;
    })
    (Contains-cases e later j c)

-- ---- a step on the way back

pub exact_step : (edges : List Edge) (e par : ℕ) (later : List ℕ) (old new : List (List Bool)) → IsSemijoin edges e par old new → AreExact edges old later → Contains later par → ¬ Contains later e → ((j k : ℕ) → Contains later j → Share (cells_of edges) e j k → HasVar (cells_of edges) par k) → ((q : ℕ) → q < length (candidates_at edges par) → IsMarked old par q → HasPartner (cells_at edges par) (cells_at edges e) (candidates_at edges e) (marks_at old e) (candidate_at edges par q)) → AreExact edges new (e ∷ later)
exact_step edges e par later old new s exact in_later apart shares stay = λ i p c lp m.
    ⊎_elim
    (λ (here : e ≡ i).
    let le : p < length (candidates_at edges e) = subst (λ (n : ℕ). p < length (candidates_at edges n)) (sym here) lp in
    let me : IsMarked new e p = subst (λ (n : ℕ). IsMarked new n p) (sym here) m in
    let partner = ((s.exact p le).0 me).1 in
    let u = partner.meets.valuation in
    let t = exact par partner.place in_later partner.below partner.is_marked in
    let w = patched (cells_at edges e) u t.valuation in
    subst (λ (n : ℕ). TakesPart edges new (e ∷ later) n p) here (record {
      valuation = w;
      all = extended edges e par p later old new u t.valuation s.others apart shares le me partner.meets.row_is (partner.meets.other_is ∙ sym t.gives) t.all;
      gives = patched_own (cells_at edges e) u t.valuation ∙ partner.meets.row_is;
    }))
    (λ (there : Contains later i).
    let jn : i ≡ e → ⊥ = λ ie. apart (subst (Contains later) ie there) in
    let t = exact i p there lp (marked_after new old i p (sym (s.others i jn)) m) in
    let at_par = t.all par in_later in
    let partner = stay at_par.place at_par.below at_par.is_marked in
    let u = partner.meets.valuation in
    let stays : IsMarked new e partner.place = (s.exact partner.place partner.below).1 (
      partner.is_marked,
      record {
        place = at_par.place;
        below = at_par.below;
        is_marked = at_par.is_marked;
        meets = record { valuation = u; row_is = partner.meets.other_is; other_is = partner.meets.row_is };
      },
    ) in
    let same : values_of u (cells_at edges par) ≡ values_of t.valuation (cells_at edges par) = partner.meets.row_is ∙ sym at_par.gives in
    record {
      valuation = patched (cells_at edges e) u t.valuation;
      all = extended edges e par partner.place later old new u t.valuation s.others apart shares partner.below stays partner.meets.other_is same t.all;
      gives = patched_behind edges e par i later u t.valuation shares same there ∙ t.gives;
    })
    (Contains-cases e later i c)
