-- The line, and below it the dependency as a comment where it may be dropped.
use Rattle.std.proofs.Common.{◌≡◌, ◌++◌, ◌∙◌, List, ℕ, Bool, codes, sym, ap, subst, append-nil}
use Rattle.std.proofs.lemmas.Result.{on_ok_weaker}
use Rattle.su_ddl.specs.Shown.{line_of}
use Rattle.su_ddl.specs.ShownDefinitions.{fd_definition}
use Rattle.su_show.specs.Values.{fd_text}
use Rattle.su_report.specs.DependencyLines.{redundant_lines}
use Rattle.su_report.proofs.Texts.{two_added, three_added}
use Rattle.su_report.proofs.dependency_lines.push_redundant.Goals as goal

pub returns-then-not-droppable : goal.returns-then-not-droppable
returns-then-not-droppable c =
    let schema = c.args.schema.now in
    let fd = c.args.fd.now in
    let old = c.args.out.now.items in
    let line : List ℕ = codes "note fd " ++ fd_text schema fd ++ codes " follows from the others\n" in
    let told : c.push-2.new.out.items ≡ old ++ line =
    three_added old (codes "note fd ") (fd_text schema fd) (codes " follows from the others\n") c.push.new.out.items c.push_fd.new.out.items c.push-2.new.out.items c.in_ok-push.ensures c.in_ok-push_fd.ensures c.in_ok-push-2.ensures in
    subst (λ (b : Bool). c.push-2.new.out.items ≡ old ++ redundant_lines schema b fd) (sym c.if-not-droppable.true) (told ∙ ap (λ t. old ++ t) (sym (append-nil line)))

pub returns : goal.returns
returns c =
    let schema = c.args.schema.now in
    let fd = c.args.fd.now in
    let old = c.args.out.now.items in
    let line : List ℕ = codes "note fd " ++ fd_text schema fd ++ codes " follows from the others\n" in
    let comment : List ℕ = codes "  -- " ++ line_of (fd_definition schema fd) in
    let told : c.push-2.new.out.items ≡ old ++ line =
    three_added old (codes "note fd ") (fd_text schema fd) (codes " follows from the others\n") c.push.new.out.items c.push_fd.new.out.items c.push-2.new.out.items c.in_ok-push.ensures c.in_ok-push_fd.ensures c.in_ok-push-2.ensures in
    on_ok_weaker c.push_line.result
    (λ e.
    let below : c.push_line.new.out.items ≡ c.push-2.new.out.items ++ comment =
    two_added c.push-2.new.out.items (codes "  -- ") (line_of (fd_definition schema fd)) c.push-3.new.out.items c.push_line.new.out.items c.in_ok-push-3.ensures (e ∙ ap (λ d. c.push-3.new.out.items ++ line_of d) c.in_ok-definition_of.ensures) in
    subst (λ (b : Bool). c.push_line.new.out.items ≡ old ++ redundant_lines schema b fd) (sym c.if-not-droppable.false) (two_added old line comment c.push-2.new.out.items c.push_line.new.out.items told below))
    c.push_line.ensures.ok
