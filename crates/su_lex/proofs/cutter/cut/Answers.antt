-- The pieces so far are a front of every list of pieces that the file has, and what is left has the others.
use Rattle.std.proofs.Common.{◌++◌, [], sym, ap, ◌∙◌, arith, length, append-nil, List, ℕ, subst}
use Rattle.std.proofs.lemmas.Bool.Decides.{nat_tests}
use Rattle.std.proofs.lemmas.List.{nil_from_length, length-drop}
use Rattle.su_lex.specs.Pieces.{PiecesAt, added}
use Rattle.su_lex.proofs.Cuts.{no_pieces, same_pieces, piece_before, piece_behind, added_append, pieces_within}
use Rattle.su_lex.proofs.cutter.cut.Goals as goal

pub loop-rest-preserved : goal.loop-rest-preserved
loop-rest-preserved c =
    let total = length c.args.bytes.now in
    let s = c.loop-rest.rest.now in
    let r = c.after_piece-behind.result.now in
    let here = c.statement.result in
    let piece = c.after_piece-behind.ensures in
    record {
      within = omega (arith, piece.within, c.loop-rest.invariant.within, ap length c.after_cut-rest.ensures, length-drop 1 r);
      before = λ more ps.
          let behind = subst (λ (v : List ℕ). PiecesAt total v more) c.after_cut-rest.ensures ps in
          rw (c.in_ok-push_statement.ensures, added_append)
          (c.loop-rest.invariant.before (added here more) (piece_before total s r here more piece.behind piece.ends c.statement.ensures behind));
      only = λ all a.
          let m = c.loop-rest.invariant.only all a in
          let p = piece_behind total s r here m.0 piece.behind piece.ends c.statement.ensures m.2 in (
            p.more,
            m.1 ∙ ap (λ v. c.loop-rest.spans ++ v) p.all_is ∙ sym (added_append c.loop-rest.spans p.more here) ∙ ap (λ v. v ++ p.more) (sym c.in_ok-push_statement.ensures),
            subst (λ (v : List ℕ). PiecesAt total v p.more) (sym c.after_cut-rest.ensures) p.behind,
          );
    }

pub returns-clause-pieces : goal.returns-clause-pieces
returns-clause-pieces c =
    let nil = nil_from_length c.loop-rest.rest.now (grind (arith, nat_tests, c.loop-rest-test.ensures)) in
    rw append-nil at (c.loop-rest.invariant.before [] (subst (λ (v : List ℕ). PiecesAt (length c.args.bytes.now) v []) (sym nil) (no_pieces (length c.args.bytes.now))))

pub returns-clause-only : goal.returns-clause-only
returns-clause-only c = λ others a.
    let nil = nil_from_length c.loop-rest.rest.now (grind (arith, nat_tests, c.loop-rest-test.ensures)) in
    let m = c.loop-rest.invariant.only others a in
    let none = same_pieces (length c.args.bytes.now) [] m.0 [] (subst (λ (v : List ℕ). PiecesAt (length c.args.bytes.now) v m.0) nil m.2) (no_pieces (length c.args.bytes.now)) in
    m.1 ∙ ap (λ v. c.loop-rest.spans ++ v) none ∙ append-nil c.loop-rest.spans

pub returns-clause-within : goal.returns-clause-within
returns-clause-within c =
    let nil = nil_from_length c.loop-rest.rest.now (grind (arith, nat_tests, c.loop-rest-test.ensures)) in
    pieces_within c.args.bytes.now c.loop-rest.spans
    (rw append-nil at (c.loop-rest.invariant.before [] (subst (λ (v : List ℕ). PiecesAt (length c.args.bytes.now) v []) (sym nil) (no_pieces (length c.args.bytes.now)))))
