-- The entries so far tell whether the term covers their terms; covers compose, so an entry known from the first term needs no search.
use Rattle.std.proofs.Common.{◌≡◌, ◌<◌, ◌↔◌, ◌∙◌, true, [], ◌∷◌, length, true≢false, ap, sym, subst, arith}
use Rattle.std.proofs.lemmas.List.{length-append}
use Rattle.su_min.specs.Kept.{IsMinimised}
use Rattle.su_min.specs.Cover.{Covers}
use Rattle.su_min.specs.Reduction.{term_at}
use Rattle.su_min.proofs.MatrixRows.{row_more, item_at}
use Rattle.su_min.proofs.CoverMatrix.{known_covers}
use Rattle.su_min.proofs.matrix.row_counted.Goals as goal

pub loop-i-preserved : goal.loop-i-preserved
loop-i-preserved g c =
    let inv = c.loop-i.invariant in
    let terms = c.args.terms.now in let i = c.loop-i.i in let j = c.args.j in
    let one = c.index-terms-j.result in
    let low = c.requires.row in
    let is = c.in_ok-push.ensures.ok in
    let len = ap length is ∙ length-append c.loop-i.row (c.in_ok-covers.covers ∷ []) in
    let columns = inv.columns in
    let some : 0 < length terms = omega arith in
    record {
      room = c.in_ok-covers.ensures.room;
      columns = omega arith;
      tells = λ known. row_more (term_at terms j) terms c.loop-i.row c.push.new.self i c.in_ok-covers.covers c.index-terms-i.result c.loop-i-test.true columns is c.index-terms-i.is
          (subst (λ m. (c.in_ok-covers.covers ≡ true) ↔ Covers m c.index-terms-i.result) (item_at terms j one low c.index-terms-j.is)
          (c.in_ok-covers.ensures.tells (λ yes.
          known_covers terms i j one c.index-terms-i.result c.index-terms-0.result c.args.marks.now c.in_ok-first.first c.loop-i-test.true low c.index-terms-j.is c.index-terms-i.is c.index-terms-0.is known
          (c.in_ok-first.ensures.tells (λ itself.
          known_covers terms 0 j one c.index-terms-0.result c.index-terms-0.result c.args.marks.now _ some low c.index-terms-j.is c.index-terms-0.is c.index-terms-0.is known
          (λ no. absurd (true≢false (sym no))) (c.is_known-itself.ensures itself))).0
          (c.is_known-known.ensures yes))))
          (inv.tells known);
    }

pub returns-clause-row : goal.returns-clause-row
returns-clause-row g c = λ known.
    let inv = c.loop-i.invariant in
    let columns = inv.columns in
    record {
      minimised = subst IsMinimised (item_at c.args.terms.now c.args.j c.index-terms-j.result c.requires.row c.index-terms-j.is) c.keeps_its_rules.ensures;
      columns = omega arith;
      tells = λ i h. inv.tells known i (omega arith);
    }
