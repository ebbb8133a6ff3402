-- The tokens so far are a front of every list of tokens that the text has, and what is left begins with a token or is empty; so an end without a token refutes every list.
use Rattle.std.proofs.Common.{◌≡◌, ◌+◌, ◌-◌, ◌<◌, ◌∷◌, ◌++◌, [], sym, refl, ap, ◌∙◌, arith, length, append_assoc, append-nil, drop, Err}
use Rattle.su_lex.specs.Blanks as b
use Rattle.su_lex.specs.declared.ends.LexEnd.TheVariants.{Syntax}
use Rattle.std.proofs.lemmas.Bool.Decides.{nat_tests}
use Rattle.std.proofs.lemmas.List.{take_rest, nil_from_length}
use Rattle.std.proofs.lemmas.Result.{err_from_is_err_and}
use Rattle.su_lex.specs.declared.kinds.Token.{Token}
use Rattle.su_lex.proofs.Gaps.{IsSolid}
use Rattle.su_lex.proofs.Lists.{ended, one_more, peel, refused, first_len, gap_before, gap_behind, tokens_within}
use Rattle.su_lex.proofs.lexer.tokens.Goals as goal

pub loop-rest-init : goal.loop-rest-init
loop-rest-init c =
    let text = c.args.text.now in
    let rest = c.after_blanks-rest.result.now in
    let blanks = c.after_blanks-rest.ensures in
    let stays : IsSolid rest = record { no_space = blanks.no_space; no_comment = blanks.no_comment } in
    record {
      within = blanks.within;
      solid = stays;
      before = λ more ts. rw c.new-tokens.ensures (gap_before (length text) text rest more blanks.behind ts);
      only = λ all a. (all, rw c.new-tokens.ensures refl, gap_behind (length text) text rest all blanks.behind stays a);
    }

pub returns-in_err-kind-clause-syntax : goal.returns-in_err-kind-clause-syntax
returns-in_err-kind-clause-syntax c =
    let some : 0 < length c.loop-rest.rest.now = grind (arith, nat_tests, c.loop-rest-test.ensures) in
    let p = err_from_is_err_and c.from_residual.result c.from_residual.ensures.1 in
    rw (p.1, p.2)
    (λ s ts all.
    let m = c.loop-rest.invariant.only ts all in
    let h : c.in_err-kind.field-0.0 ≡ Syntax = cc in
    refused _ _ m.0 (c.in_err-kind.ensures.none (ap Err h)) c.loop-rest.invariant.solid some m.2)

pub loop-rest-preserved : goal.loop-rest-preserved
loop-rest-preserved c =
    let total = length c.args.text.now in
    let rest = c.loop-rest.rest.now in
    let t : Token = record { kind = c.in_ok-kind.kind; span = record { start = total - length rest; end = total - length rest + c.in_ok-kind.n } } in
    let f = c.in_ok-kind.ensures.found in
    let l = first_len rest t.kind c.in_ok-kind.n f in
    let start : t.span.start + length rest ≡ total = omega (arith, c.loop-rest.invariant.within) in
    let blanks = c.after_blanks-rest-in-loop-rest.ensures in
    let next = c.after_blanks-rest-in-loop-rest.result.now in
    let behind = rw take_rest at blanks.behind in
    let stays : IsSolid next = record { no_space = blanks.no_space; no_comment = blanks.no_comment } in
    record {
      within = omega arith;
      solid = stays;
      before = λ more ts.
          rw (c.in_ok-push.ensures.ok, append_assoc)
          (c.loop-rest.invariant.before (t ∷ more) (one_more total rest t c.in_ok-kind.n more f start refl (gap_before total (drop c.in_ok-kind.n rest) next more behind ts)));
      only = λ all a.
          let m = c.loop-rest.invariant.only all a in
          let p = peel total rest t c.in_ok-kind.n m.0 f start refl m.2 in (
            p.more,
            m.1 ∙ ap (λ x. c.loop-rest.tokens ++ x) p.all_is ∙ sym (append_assoc c.loop-rest.tokens (t ∷ []) p.more) ∙ ap (λ x. x ++ p.more) (sym c.in_ok-push.ensures.ok),
            gap_behind total (drop c.in_ok-kind.n rest) next p.more behind stays p.behind,
          );
    }

pub returns-clause-tokens : goal.returns-clause-tokens
returns-clause-tokens c =
    let e : length c.loop-rest.rest.now ≡ 0 = grind (arith, nat_tests, c.loop-rest-test.ensures) in
    rw append-nil at (c.loop-rest.invariant.before [] (b.none _ _ (nil_from_length _ e)))

pub returns-clause-only : goal.returns-clause-only
returns-clause-only c = λ others a.
    let e : length c.loop-rest.rest.now ≡ 0 = grind (arith, nat_tests, c.loop-rest-test.ensures) in
    let m = c.loop-rest.invariant.only others a in
    ended (length c.args.text.now) c.loop-rest.rest.now m.0 others c.loop-rest.tokens e m.1 m.2

pub returns-clause-within : goal.returns-clause-within
returns-clause-within c =
    let e : length c.loop-rest.rest.now ≡ 0 = grind (arith, nat_tests, c.loop-rest-test.ensures) in
    tokens_within c.args.text.now c.loop-rest.tokens (rw append-nil at (c.loop-rest.invariant.before [] (b.none _ _ (nil_from_length _ e))))
