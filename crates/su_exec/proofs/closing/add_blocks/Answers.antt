-- The rows of the first edge are cut into blocks. What is put in is given by the three, and what they give through a row of a block so far is in; each row has a block.
use Rattle.std.proofs.Common.{◌≡◌, ◌<◌, ◌≤◌, ◌∙◌, List, ℕ, get_or, Contains, subst, refl, inl, inr, ⊎_elim, arith}
use Rattle.std.specs.Prelude.{map}
use Rattle.std.proofs.lemmas.Bool.{cases_lt}
use Rattle.su_exec.specs.inside.Edges.{Edge}
use Rattle.su_exec.specs.inside.Threes.{IsBlock}
use Rattle.su_exec.proofs.Triples.{block_among, block_given, given_block, stands_at}
use Rattle.su_exec.proofs.closing.add_blocks.Goals as goal

pub loop-n-init : goal.loop-n-init
loop-n-init c = record { width = refl; only = λ r h. inl h; all = λ v i f l at less. absurd (omega arith) }

pub add_block-requires-clause-within : goal.add_block-requires-clause-within
add_block-requires-clause-within c = λ k h. block_among c.args.three.now.first.now c.args.three.now.second.now c.args.three.now.third.now c.in_ok-part.part c.args.blocks.now c.loop-n.n c.args.vars.now c.in_ok-part.ensures k (c.requires.within k h)

pub loop-n-preserved : goal.loop-n-preserved
loop-n-preserved c =
    let a : Edge ℕ = c.args.three.now.first.now in
    let b : Edge ℕ = c.args.three.now.second.now in
    let d : Edge ℕ = c.args.three.now.third.now in
    let vars : List ℕ = c.args.vars.now in
    let blocks : List ℕ = c.args.blocks.now in
    let n = c.loop-n.n in
    let part : Edge ℕ = c.in_ok-part.part in
    let old = c.loop-n.invariant in
    let is : IsBlock a blocks n part = c.in_ok-part.ensures in
    let given = c.in_ok-add_block.ensures in
    record {
      width = given.width ∙ old.width;
      only = λ r h. ⊎_elim (λ o. old.only r o) (λ x. inr (block_given a b d part blocks n vars is r x)) (given.only r h);
      all = λ v i f l at less.
          ⊎_elim
          (λ (x : get_or blocks i 0 < n). given.kept (map v vars) (old.all v i f l at x))
          (λ (x : n ≤ get_or blocks i 0). let here : get_or blocks i 0 ≡ n = omega arith in given.all (map v vars) (given_block a b d part blocks n vars is v i f l at here))
          (cases_lt (get_or blocks i 0) n);
    }

pub returns-clause-all : goal.returns-clause-all
returns-clause-all c = λ r x.
    let a : Edge ℕ = c.args.three.now.first.now in
    let v = x.valuation in
    let s = stands_at a c.args.three.now.second.now c.args.three.now.third.now v x.fits in
    let l = s.low in
    let len = c.requires.blocks in
    let n = c.loop-n.n in
    let ended : 64 ≤ n = let t = c.loop-n-test.false in omega arith in
    let low : get_or c.args.blocks.now s.row 0 < 64 = c.requires.below s.row 0 (omega arith) in
    subst (λ (y : List ℕ). Contains c.loop-n.out.rows y) x.gives (c.loop-n.invariant.all v s.row x.fits s.low s.is (omega arith))
