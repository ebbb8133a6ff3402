-- The rows so far are those of the edge's rows so far that are in the block.
use Rattle.std.proofs.Common.{◌≡◌, ◌<◌, ◌∙◌, [], List, ℕ, length, get_or, Contains, ap, sym, subst, arith}
use Rattle.su_exec.specs.inside.Edges.{Edge}
use Rattle.su_exec.proofs.Triples.{block_all, block_only}
use Rattle.su_exec.proofs.closing.block.Goals as goal

pub loop-i-preserved : goal.loop-i-preserved
loop-i-preserved c =
    let a : Edge ℕ = c.args.a.now in
    let i = c.loop-i.i in
    let old = c.loop-i.invariant in
    let row : List ℕ = c.row.result.now in
    let row_is : row ≡ get_or a.rows i [] = c.row.ensures.is ∙ ap (λ (rs : List (List ℕ)). get_or rs i []) c.rows-rows.ensures.rows in
    let low : i < length a.rows = let t = c.loop-i-test.true in let e = c.len-i-end.ensures in let f = ap length c.rows-rows.ensures.rows in omega arith in
    record {
      width = c.in_ok-push_if.ensures.width ∙ old.width;
      only = rw c.in_ok-push_if.ensures.ok (block_only a i c.loop-i.some.rows row c.is_in_block-here.result low row_is old.only);
      all = rw c.in_ok-push_if.ensures.ok (block_all a c.args.blocks.now c.args.n i c.loop-i.some.rows row c.is_in_block-here.result row_is c.is_in_block-here.ensures.1 old.all);
    }

pub returns : goal.returns
returns c =
    let a : Edge ℕ = c.args.a.now in
    let part : Edge ℕ = c.in_ok-part.part in
    let vars : part.vars ≡ a.vars = ap (λ (e : Edge ℕ). e.vars) c.in_ok-part.ensures in
    let rows : part.rows ≡ c.loop-i.some.rows = ap (λ (e : Edge ℕ). e.rows) c.in_ok-part.ensures in
    record {
      vars = vars;
      only = λ r h. c.loop-i.invariant.only r (subst (λ (rs : List (List ℕ)). Contains rs r) rows h);
      all = λ i l at. subst (λ (rs : List (List ℕ)). Contains rs (get_or a.rows i [])) (sym rows) (c.loop-i.invariant.all i (let t = c.loop-i-test.false in let e = c.len-i-end.ensures in let f = ap length c.rows-rows.ensures.rows in omega arith) at);
    }
