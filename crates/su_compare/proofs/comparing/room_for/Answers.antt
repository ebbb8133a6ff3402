-- The room is as great as the greatest of the terms so far, and a bound that holds of a tableau holds as well when it is raised; so it is enough for each of the terms.
use Rattle.std.proofs.Common.{◌≡◌, ℕ, ◌≤◌, length, sym, ap, ◌∙◌, subst, below_more, arith}
use Rattle.su_tableau.specs.Tableaux.{Tab, AreVarsBelow}
use Rattle.su_tableau.proofs.Rows.{vars_up}
use Rattle.su_compare.specs.Settled.{tab_at}
use Rattle.su_compare.proofs.Settled.{tab_here}
use Rattle.su_compare.proofs.PlainTerms.{max_left, max_right}
use Rattle.su_compare.proofs.comparing.room_for.Goals as goal
use Rattle.su_map.proofs.NotedRows.{vars_below}

pub loop-term-preserved : goal.loop-term-preserved
loop-term-preserved c =
    let terms = c.args.terms.now in
    let k = c.loop-term.term-index in
    let item = c.term-item.result in
    let low = c.loop-term-test.true in
    let at : tab_at terms k ≡ item.tableau = tab_here terms k item low ∙ ap (λ t. t.tableau) (sym c.term-item.is) in
    let r1 : c.loop-term.rows ≤ c.max-rows.result = max_left c.loop-term.rows c.row_count.result c.max-rows.result c.max-rows.ensures in
    let r2 : c.row_count.result ≤ c.max-rows.result = max_right c.loop-term.rows c.row_count.result c.max-rows.result c.max-rows.ensures in
    let s1 : c.loop-term.symbols ≤ c.max-symbols.result = max_left c.loop-term.symbols c.symbols.result c.max-symbols.result c.max-symbols.ensures in
    let s2 : c.symbols.result ≤ c.max-symbols.result = max_right c.loop-term.symbols c.symbols.result c.max-symbols.result c.max-symbols.ensures in
    let rows = c.row_count.ensures.is in
    below_more (λ i. (length (tab_at terms i).rows ≤ c.max-rows.result) × AreVarsBelow c.max-symbols.result (tab_at terms i)) k
    (λ i l. let b = c.loop-term.invariant i l in let b0 = b.0 in (omega arith, vars_below (tab_at terms i) c.loop-term.symbols c.max-symbols.result s1 b.1))
    (subst (λ (t : Tab). (length t.rows ≤ c.max-rows.result) × AreVarsBelow c.max-symbols.result t) (sym at) (omega arith, vars_up item.tableau c.symbols.result c.max-symbols.result c.symbols.ensures s2))

pub returns : goal.returns
returns c = λ i low.
    let done = c.loop-term-test.false in
    let b = c.loop-term.invariant i (omega arith) in
    let b0 = b.0 in
    let e = c.in_ok-room.ensures.0 in
    record {
      rows = omega arith;
      symbols = subst (λ (n : ℕ). AreVarsBelow n (tab_at c.args.terms.now i)) (sym c.in_ok-room.ensures.1) b.1;
    }
