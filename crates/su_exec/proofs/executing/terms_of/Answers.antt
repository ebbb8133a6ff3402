-- The terms so far are those of the symbols so far, and stay right as the codes grow.
use Rattle.std.proofs.Common.{◌≡◌, ◌<◌, List, length, get_or, take, ap, subst, ◌∙◌, rules}
use Rattle.su_base.proofs.Items.{AllZip-more}
use Rattle.su_tableau.specs.declared.symbols.Sym.{Sym}
use Rattle.su_exec.specs.inside.Shown.{IsTermOf}
use Rattle.su_reduce.proofs.CodeExtensions.{extends_self, extends_then}
use Rattle.su_exec.proofs.Outputs.{terms_up}
use Rattle.su_exec.proofs.executing.terms_of.Goals as goal

pub loop-symbol-init : goal.loop-symbol-init
loop-symbol-init c = record { codes = extends_self c.args.codes.now; terms = search (rules, c.new-terms.ensures) }

pub loop-symbol-preserved : goal.loop-symbol-preserved
loop-symbol-preserved c =
    let list : List Sym = c.args.symbols.now in
    let i = c.loop-symbol.symbol-index in
    let item : Sym = c.symbol-item.result in
    let low : i < length list = subst (λ (xs : List Sym). i < length xs) c.as_slice-symbol-items.ensures c.loop-symbol-test.true in
    let is : item ≡ get_or list i item = c.symbol-item.is ∙ ap (λ (xs : List Sym). get_or xs i item) c.as_slice-symbol-items.ensures in
    let more = c.in_ok-term.ensures.codes in
    record {
      codes = extends_then c.args.codes.now c.loop-symbol.codes c.term_of.new.codes c.loop-symbol.invariant.codes more;
      terms = AllZip-more (IsTermOf c.term_of.new.codes) list c.loop-symbol.terms.items c.push.new.self.items i item c.in_ok-term.term low is (terms_up c.loop-symbol.codes c.term_of.new.codes (take i list) c.loop-symbol.terms.items more c.loop-symbol.invariant.terms) c.in_ok-term.ensures.term c.in_ok-push.ensures.items;
    }

pub returns-clause-codes : goal.returns-clause-codes
returns-clause-codes c = c.loop-symbol.invariant.codes
