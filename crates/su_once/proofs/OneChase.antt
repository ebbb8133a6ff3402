-- Of chased rows there is one name for each symbol and one clash, and of a tableau one chase.
use Rattle.std.proofs.Common.{◌≡◌, ◌≢◌, ◌<◌, ℕ, List, [], map, get_or, Contains, refl, sym, ap, ◌∙◌, subst}
use Rattle.std.proofs.Math.ListN.{get_or-map as map_read}
use Rattle.std.proofs.lemmas.List.{length-map}
use Rattle.su_base.specs.declared.values.Value.{Value}
use Rattle.su_fd.specs.declared.dependencies.Fd.{Fd}
use Rattle.su_tableau.specs.declared.symbols.Sym.{Sym}
use Rattle.su_tableau.specs.declared.symbols.Sym.TheVariants.{Const, Var}
use Rattle.su_tableau.specs.Tableaux.{Tab, IsValid, Occurs}
use Rattle.su_tableau.proofs.SymbolParts.{same_const}
use Rattle.su_chase.specs.Chase.{InOneClass, IsNoLater, IsClassName, IsConsistent, IsClash}
use Rattle.su_chase.specs.Chased.{IsChased}
use Rattle.su_chase.specs.inside.Rows.{named_tab}
use Rattle.su_chase.proofs.NamedAnswers.{one_symbol}
use Rattle.su_base.proofs.Items.{Contains-map, Contains-map_source}
use Rattle.su_once.specs.Verdicts.{OneClassName, OneClash, OneChase}

pub one_class_name : OneClassName
one_class_name fds rows x name other h k = one_symbol name other (h.least other k.member) (k.least name h.member)

pub one_clash : OneClash
one_clash fds rows less greater least other h k =
    let same : less ≡ least = same_const less least (one_symbol (Const less) (Const least) (h.least least other k.differ k.together) (k.least less greater h.differ h.together)) in
    let differs : less ≢ other = subst (λ v. v ≢ other) (sym same) k.differ in
    let together : InOneClass fds rows (Const less) (Const other) = subst (λ v. InOneClass fds rows (Const v) (Const other)) (sym same) k.together in
    let apart : least ≢ greater = subst (λ v. v ≢ greater) same h.differ in
    let beside : InOneClass fds rows (Const least) (Const greater) = subst (λ v. InOneClass fds rows (Const v) (Const greater)) same h.together in
    (same, same_const greater other (one_symbol (Const greater) (Const other) (h.other other differs together) (k.other greater apart beside)))

-- rows that clash have no chase
pub no_clash : (fds : List Fd) (rows : List (List Sym)) (less greater : Value) → IsClash fds rows less greater → IsConsistent fds rows → ⊥
no_clash fds rows less greater clash consistent = clash.differ (consistent less greater clash.together)

pub one_chase : OneChase
one_chase fds t c d h k =
    let same : h.name ≡ k.name = λ i x. one_class_name fds t.rows x (h.name x) (k.name x) (h.names x) (k.names x) i in
    h.is ∙ ap (λ (name : Sym → Sym). named_tab name t) same ∙ sym k.is

-- ---- each variable of the head stands in a row of the chased tableau

module _ (fds : List Fd) (t : Tab) (valid : IsValid t) (name : Sym → Sym) (names : (x : Sym) → IsClassName fds t.rows x (name x)) where
  -- a constant's name is no variable
  no_variable : (c : Value) (k : ℕ) → name (Const c) ≡ Var k → ⊥
  no_variable c k is = subst (λ x. IsNoLater x (Const c)) is ((names (Const c)).least (Const c) (λ label closed. refl))

  occurs : (k : ℕ) (x : Sym) → Contains t.head x → name x ≡ Var k → Occurs (map (map name) t.rows) k
  occurs k (Const c) there is = absurd (no_variable c k is)
  occurs k (Var j) there is =
      let stands = valid.head_occurs j there in
      let row = get_or t.rows stands.0 [] in
      let named : Contains (map name row) (Var k) = subst (Contains (map name row)) is (Contains-map name row (Var j) stands.2) in
      (stands.0, subst (λ n. stands.0 < n) (sym (length-map t.rows (map name))) stands.1, subst (λ r. Contains r (Var k)) (sym (map_read (map name) t.rows stands.0 [])) named)

pub head_stands : (fds : List Fd) (t c : Tab) → IsValid t → IsChased fds t c → (k : ℕ) → Contains c.head (Var k) → Occurs c.rows k
head_stands fds t c valid chased k there =
    let name = chased.name in
    let of' = Contains-map_source name t.head (Var k) (subst (λ (d : Tab). Contains d.head (Var k)) chased.is there) in
    subst (λ (d : Tab). Occurs d.rows k) (sym chased.is) (occurs fds t valid name chased.names k of'.0 of'.1 of'.2)
