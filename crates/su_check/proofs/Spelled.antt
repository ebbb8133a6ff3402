-- Symbols tell the numbers, symbols and kinds that they spell.
use Rattle.std.proofs.Common.{◌≡◌, ℕ, decimal, refl, ap, arith}
use Rattle.std.proofs.lemmas.Fmt.{decimal_injective}
use Rattle.su_base.specs.declared.values.Kind.{Kind}
use Rattle.su_base.specs.declared.values.Kind.TheVariants as kind
use Rattle.su_base.specs.declared.values.Value.TheVariants as value
use Rattle.su_tableau.specs.declared.symbols.Sym.{Sym}
use Rattle.su_tableau.specs.declared.symbols.Sym.TheVariants.{Const, Var}
use Rattle.su_check.specs.NodeSymbols.{number, sym_symbol}
use Rattle.su_lex.specs.Wordings.{kind_symbol}
use Rattle.su_check.specs.Ranges.{IsByte, IsNamed}

pub one_number : (x y : ℕ) → IsByte x → IsByte y → number x ≡ number y → x ≡ y
one_number x y hx hy e = cc

pub one_kind : (x y : Kind) → Unit {0} → Unit {0} → kind_symbol x ≡ kind_symbol y → x ≡ y
one_kind kind.Int kind.Int hx hy e = refl
one_kind kind.Text kind.Text hx hy e = refl
one_kind kind.Int kind.Text hx hy e = absurd (cc)
one_kind kind.Text kind.Int hx hy e = absurd (cc)

pub one_symbol : (x y : Sym) → IsNamed x → IsNamed y → sym_symbol x ≡ sym_symbol y → x ≡ y
one_symbol (Var j) (Var k) hx hy e =
    let d : decimal j ≡ decimal k = cc in
    ap Var (decimal_injective j k (omega arith) (omega arith) d)
one_symbol (Var j) (Const (value.Int n)) hx hy e = absurd (cc)
one_symbol (Var j) (Const (value.Text t)) hx hy e = absurd (cc)
one_symbol (Const (value.Int n)) (Var k) hx hy e = absurd (cc)
one_symbol (Const (value.Text t)) (Var k) hx hy e = absurd (cc)
one_symbol (Const (value.Int m)) (Const (value.Int n)) hx hy e = let s : m ≡ n = cc in ap (λ n. Const (value.Int n)) s
one_symbol (Const (value.Int m)) (Const (value.Text t)) hx hy e = absurd (cc)
one_symbol (Const (value.Text s)) (Const (value.Int n)) hx hy e = absurd (cc)
one_symbol (Const (value.Text s)) (Const (value.Text t)) hx hy e = let s : s ≡ t = cc in ap (λ n. Const (value.Text n)) s
