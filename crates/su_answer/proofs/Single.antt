-- The task of a row by itself gives the row's candidates.
use Rattle.std.proofs.Common.{◌≡◌, ◌↔◌, ◌<◌, ◌≤◌, ◌+◌, ℕ, zero, suc, List, [], ◌∷◌, map, take, length, get_or, refl, sym, ap, subst, ◌∙◌, arith}
use Rattle.std.specs.Prelude.{sum}
use Rattle.std.specs.Ordering.{ordering_reverse}
use Rattle.std.specs.List.Sorted.{IsStrictlySortedBy}
use Rattle.std.specs.declared.cmp.Ordering.TheVariants.{Less, Greater}
use Rattle.std.proofs.lemmas.List.Elements.{All-cons, All-nil, All-head, All-from_recursion}
use Rattle.std.proofs.lemmas.Map.Keys.{sorted_head, sorted_tail}
use Rattle.su_base.specs.declared.values.Value.{Value}
use Rattle.su_base.specs.Value.{compare_lists}
use Rattle.su_base.proofs.Items.{Contains-nil}
use Rattle.su_base.proofs.Rows.{rows_total}
use Rattle.su_base.specs.Lists.{AllDiffer}
use Rattle.su_rel.specs.Stored.{Stored}
use Rattle.su_tableau.specs.declared.symbols.Sym.{Sym}
use Rattle.su_exec.specs.declared.tasks.TaskRow.{TaskRow}
use Rattle.su_exec.specs.Outputs.{Agrees, HoldsUnder, IsOutput, AreOutputs}
use Rattle.su_exec.specs.Shares.{row_share}
use Rattle.su_exec.specs.Tasks.{HasSources, IsTask}
use Rattle.su_exec.proofs.Ways.{sum_more, sum_take}
use Rattle.su_answer.specs.Support.{IsCandidate}
use Rattle.su_answer.specs.inside.Alone.{alone, IsEdgeOf}

pub alone_fits : (tables : List Stored) (row : TaskRow) → HasSources tables row → IsTask tables (alone row)
alone_fits tables row has = record {
  few = omega arith;
  sources = All-cons (HasSources tables) row [] has (All-nil (HasSources tables));
  occur = record {
    outputs = λ k c. (0, record { row = row; below = omega arith; is = λ d. refl; cell = c });
    left = λ c k there is. absurd (Contains-nil c there);
    right = λ c k there is. absurd (Contains-nil c there);
  };
}

pub output_is : (tables : List Stored) (row : TaskRow) (h : List Value) → IsOutput tables (alone row) h ↔ IsCandidate tables row h
output_is tables row h = (
  λ o. record {
    valuation = o.valuation;
    agrees = All-head (Agrees tables o.valuation) row [] o.agrees;
    gives = o.gives;
  },
  λ c. record {
    valuation = c.valuation;
    agrees = All-cons (Agrees tables c.valuation) row [] c.agrees (All-nil (Agrees tables c.valuation));
    holds = All-nil (HoldsUnder c.valuation);
    gives = c.gives;
  },
)

not_less : (x : List Value) → compare_lists x x ≡ Less → ⊥
not_less x e = let back : Less ≡ Greater = sym e ∙ rows_total.antisymm x x ∙ ap ordering_reverse e in cc

-- rows in strict order differ
pub sorted_differ : (rows : List (List Value)) → IsStrictlySortedBy compare_lists rows → AllDiffer rows
sorted_differ [] s i j d l h e = absurd (omega (arith, h))
sorted_differ (x ∷ xs) s i zero d l h e = absurd (omega (arith, l))
sorted_differ (x ∷ xs) s zero (suc j) d l h e =
    let low : j < length xs = omega (arith, h) in
    let less : compare_lists x (get_or xs j d) ≡ Less = All-from_recursion (λ y. compare_lists x y ≡ Less) xs (sorted_head compare_lists x xs s) j d low in
    not_less x (subst (λ (y : List Value). compare_lists x y ≡ Less) (sym e) less)
sorted_differ (x ∷ xs) s (suc i) (suc j) d l h e = sorted_differ xs (sorted_tail compare_lists x xs s) i j d (omega (arith, l)) (omega (arith, h)) e

pub edge_alone : (tables : List Stored) (row : TaskRow) (cells : List Sym) (rows : List (List Value)) → cells ≡ row.cells → AreOutputs tables (alone row) rows → IsEdgeOf tables row (record { cells = cells; candidates = rows })
edge_alone tables row cells rows same are = record {
  cells = same;
  exact = λ h. (λ c. (output_is tables row h).0 ((are.exact h).0 c), λ c. (are.exact h).1 ((output_is tables row h).1 c));
  once = sorted_differ rows are.ascending;
}

-- ---- fetches, row by row

pub one_more_share : (tables : List Stored) (rows : List TaskRow) (i : ℕ) (row : TaskRow) (old before after : ℕ) → row ≡ get_or rows i row → i < length rows → before ≤ old + sum (map (row_share tables) (take i rows)) → after ≤ before + row_share tables row
    → after ≤ old + sum (map (row_share tables) (take (i + 1) rows))
one_more_share tables rows i row old before after at l b a =
    let more : sum (map (row_share tables) (take (i + 1) rows)) ≡ sum (map (row_share tables) (take i rows)) + row_share tables row = sum_more (row_share tables) rows i row l ∙ ap (λ (r : TaskRow). sum (map (row_share tables) (take i rows)) + row_share tables r) (sym at) in
    omega (arith, more, b, a)

pub all_shares : (tables : List Stored) (rows : List TaskRow) (i old after : ℕ) → after ≤ old + sum (map (row_share tables) (take i rows)) → after ≤ old + sum (map (row_share tables) rows)
all_shares tables rows i old after a = let part = sum_take (row_share tables) rows i in omega (arith, part, a)
