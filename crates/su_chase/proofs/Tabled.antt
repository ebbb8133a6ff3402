-- What the table of the rows' items tells of their classes.
use Rattle.std.proofs.Common.{◌≡◌, ◌↔◌, ℕ, ◌+◌, ◌<◌, true, Option, None, Some, MatchOption, List, [], length, get_or, Contains, sym, subst}
use Rattle.std.specs.Prelude.{All}
use Rattle.std.specs.List.Sorted.{IsStrictlySortedBy}
use Rattle.std.proofs.lemmas.Bool.{lt-ltb}
use Rattle.std.proofs.lemmas.List.Elements.{All-contains}
use Rattle.su_base.specs.declared.values.Value.{Value}
use Rattle.su_base.specs.declared.values.Value.TheVariants.{Text}
use Rattle.su_base.specs.Value.{compare_values}
use Rattle.su_fd.specs.declared.dependencies.Fd.{Fd}
use Rattle.su_tableau.specs.declared.symbols.Sym.{Sym}
use Rattle.su_tableau.specs.declared.symbols.Sym.TheVariants.{Const, Var}
use Rattle.su_tableau.specs.Tableaux.{AreBelow}
use Rattle.su_classes.specs.declared.items.Placed.{Placed}
use Rattle.su_classes.specs.Tables.{rep}
use Rattle.su_classes.specs.Symbols.{symbol_at}
use Rattle.su_classes.specs.inside.Symbols.{is_known}
use Rattle.su_classes.proofs.ValueOrder.{sorted_distinct}
use Rattle.su_chase.specs.Chase.{IsClassName, IsConsistent, IsClash}
use Rattle.su_chase.specs.Chased.{AreRows}
use Rattle.su_chase.specs.inside.Rows.{constants_in, IsPlacedRow, IsTableOf, ClashesAt}
use Rattle.su_chase.proofs.ItemLabels.{AreNumbered}
use Rattle.su_chase.proofs.Named.{is_name, consistent, is_clash}
use Rattle.su_chase.proofs.FirstClash.{constant_in, has_member}

module _ (vs : List Value) (limit : ℕ) (fds : List Fd) (rows : List (List Sym)) (are : AreRows fds rows) (all : (c : Value) → Contains vs c ↔ Contains (constants_in rows) c) (sorted : IsStrictlySortedBy compare_values vs) (above : All (AreBelow limit) rows) where
  known : (r : List Sym) → Contains rows r → (x : Sym) → Contains r x → is_known vs limit x ≡ true
  known r cr (Const c) cx = has_member vs c ((all c).1 (constant_in rows r c cr cx))
  known r cr (Var k) cx = lt-ltb k limit (All-contains (AreBelow limit) rows r above cr k cx)

  pub numbered : (placed : List Placed) → length placed ≡ length rows → ((i : ℕ) (d : Placed) → i < length rows → IsPlacedRow vs (get_or rows i []) (get_or placed i d)) → AreNumbered vs limit are.width fds rows placed
  numbered placed each rows_are = record { distinct = sorted_distinct vs sorted; widths = are.widths; below = are.below; known = known; each = each; are = rows_are }

  module _ (table : List ℕ) (t : IsTableOf vs limit fds rows table) where
    abbrev n : AreNumbered vs limit are.width fds rows t.placed
    n = numbered t.placed t.each t.are

    pub name_is : (k : ℕ) (x : Sym) → k < limit → x ≡ symbol_at vs (rep table (length vs + k)) → IsClassName fds rows (Var k) x
    name_is k x l e = subst (IsClassName fds rows (Var k)) (sym e) (is_name vs limit are.width fds rows t.placed n sorted table t.size t.least k l)

    pub clash_told : (clash : Option (Value × Value)) → ClashesAt vs table clash → MatchOption clash (IsConsistent fds rows) (λ p. IsClash fds rows p.0 p.1)
    clash_told None h = consistent vs limit are.width fds rows t.placed n sorted table t.size t.least h
    clash_told (Some p) h =
        let c = is_clash vs limit are.width fds rows t.placed n sorted table t.size t.least h.0 h.1 in
        subst (λ (v : Value). IsClash fds rows v p.1) (sym h.2) (subst (λ (v : Value). IsClash fds rows (get_or vs (rep table h.0) (Text [])) v) (sym h.3) c)
