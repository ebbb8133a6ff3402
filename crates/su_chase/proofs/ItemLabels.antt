-- Labels of symbols as labels of items: closed partitions keep the dependencies, and the table's names are closed.
use Rattle.std.proofs.Common.{◌≡◌, ℕ, ◌+◌, ◌<◌, ◌≤◌, true, List, [], length, get_or, Contains, sym, ap, ◌∙◌, subst, arith}
use Rattle.std.specs.Prelude.{All}
use Rattle.std.specs.FinSet.{empty}
use Rattle.std.proofs.lemmas.List.{get_or_default, length-map, get_or-map}
use Rattle.std.proofs.lemmas.List.Elements.{All-contains, Contains-get_or}
use Rattle.su_base.specs.declared.values.Value.{Value}
use Rattle.su_base.proofs.Subsets.{subset_by}
use Rattle.su_fd.specs.declared.dependencies.Fd.{Fd}
use Rattle.su_tableau.specs.declared.symbols.Sym.{Sym}
use Rattle.su_tableau.specs.declared.symbols.Sym.TheVariants.{Var}
use Rattle.su_classes.specs.declared.items.Placed.{Placed}
use Rattle.su_fd.specs.MetDependencies.{LiesIn}
use Rattle.su_classes.specs.Items.{item_of, SameItemLabels, Keeps, KeepsAll, IsPlacedBelow}
use Rattle.su_classes.specs.Tables.{rep, IsLeastTable}
use Rattle.su_classes.specs.Symbols.{symbol_at}
use Rattle.su_classes.specs.inside.Symbols.{AreDistinct, is_known, symbol_number, name_in}
use Rattle.su_classes.proofs.Places.{IsNumbering, numbering}
use Rattle.su_classes.proofs.Named.{same_rep, same_name}
use Rattle.su_chase.specs.Chase.{SameLabels, IsClosedPartition}
use Rattle.su_chase.specs.Chased.{IsFdBelow}
use Rattle.su_chase.specs.inside.Rows.{IsPlacedRow}

-- rows of symbols with numbers, and their rows of items
pub record AreNumbered (vs : List Value) (limit width : ℕ) (fds : List Fd) (rows : List (List Sym)) (placed : List Placed) : Type 0 where
  pub distinct : AreDistinct vs
  pub widths : All (λ row. length row ≡ width) rows
  pub below : All (IsFdBelow width) fds
  pub known : (r : List Sym) → Contains rows r → (x : Sym) → Contains r x → is_known vs limit x ≡ true
  pub each : length placed ≡ length rows
  pub are : (i : ℕ) (d : Placed) → i < length rows → IsPlacedRow vs (get_or rows i []) (get_or placed i d)

module _ (vs : List Value) (limit width : ℕ) (fds : List Fd) (rows : List (List Sym)) (placed : List Placed) (n : AreNumbered vs limit width fds rows placed) where
  wide : (r : List Sym) → Contains rows r → length r ≡ width
  wide r c = All-contains (λ (row : List Sym). length row ≡ width) rows r n.widths c

  -- the row of items of a row
  to_placed : (r : List Sym) → Contains rows r → (p : Placed) × Contains placed p × IsPlacedRow vs r p
  to_placed r c =
      let d : Placed = record { has = empty; cells = [] } in
      let i = c.0 in
      let e = n.each in
      let is : get_or rows i [] ≡ r = get_or_default rows i [] r c.1 ∙ c.2 in
      (get_or placed i d, Contains-get_or placed i d (omega (arith, c.1, e)), subst (λ (row : List Sym). IsPlacedRow vs row (get_or placed i d)) is (n.are i d c.1))

  from_placed : (p : Placed) → Contains placed p → (r : List Sym) × Contains rows r × IsPlacedRow vs r p
  from_placed p c =
      let i = c.0 in
      let e = n.each in
      let l : i < length rows = omega (arith, c.1, e) in
      (get_or rows i [], Contains-get_or rows i [] l, subst (λ (q : Placed). IsPlacedRow vs (get_or rows i []) q) c.2 (n.are i p l))

  -- the item at an attribute is the number of the symbol there
  cell_is : (r : List Sym) (p : Placed) (a : ℕ) (d : Sym) → IsPlacedRow vs r p → a < length r → item_of p a ≡ symbol_number vs (get_or r a d)
  cell_is r p a d is l = ap (λ (cells : List ℕ). get_or cells a 0) is.cells ∙ get_or-map (symbol_number vs) r a d 0 l

  symbol_is : (r : List Sym) (p : Placed) (a : ℕ) (d : Sym) → Contains rows r → IsPlacedRow vs r p → a < length r → symbol_at vs (item_of p a) ≡ get_or r a d
  symbol_is r p a d c is l = ap (symbol_at vs) (cell_is r p a d is l) ∙ (numbering vs limit n.distinct).back (get_or r a d) (n.known r c (get_or r a d) (Contains-get_or r a d l))

  pub labels_kept : (label : Sym → Sym) → IsClosedPartition fds rows label → KeepsAll fds placed [] (λ i. label (symbol_at vs i))
  labels_kept label closed = record {
    equalities = λ k e l. absurd (omega arith);
    dependencies = λ k f l p q cp cq p_lies q_lies same a h.
        let g = get_or fds k f in
        let low = n.below k f l in
        let r = from_placed p cp in
        let s = from_placed q cq in
        let r_wide = wide r.0 r.1 in
        let s_wide = wide s.0 s.1 in
        let left : SameLabels label g.left r.0 s.0 = λ b d has.
        let b_low = low.left b has in
        ap label (sym (symbol_is r.0 p b d r.1 r.2 (omega arith))) ∙ same b has ∙ ap label (symbol_is s.0 q b d s.1 s.2 (omega arith)) in
        let a_low = low.right a h in
        ap label (symbol_is r.0 p a (Var 0) r.1 r.2 (omega arith)) ∙ closed g r.0 s.0 (Contains-get_or fds k f l) r.1 s.1 left a (Var 0) h ∙ ap label (sym (symbol_is s.0 q a (Var 0) s.1 s.2 (omega arith)));
  }

  -- the rows of items are in a table of all items
  pub placed_below : width ≤ 128 → (items : ℕ) → items ≡ length vs + limit → All (IsPlacedBelow items) placed
  placed_below narrow items size i d l =
      let e = n.each in
      let l' : i < length rows = omega arith in
      let r = get_or rows i [] in
      let cr = Contains-get_or rows i [] l' in
      let p = get_or placed i d in
      let is = n.are i d l' in
      let w = wide r cr in
      let cells : length p.cells ≡ length r = ap length is.cells ∙ length-map r (symbol_number vs) in
      record {
        narrow = omega arith;
        wide = λ a h. let b = (is.has a).0 h in omega arith;
        below = λ a h.
            let b = (is.has a).0 h in
            let x = get_or r a (Var 0) in
            let low = (numbering vs limit n.distinct).number_in x (n.known r cr x (Contains-get_or r a (Var 0) b)) in
            let c = cell_is r p a (Var 0) is b in
            omega arith;
      }

  lies_in : (f : Fd) (r : List Sym) (p : Placed) → IsFdBelow width f → length r ≡ width → IsPlacedRow vs r p → LiesIn f p.has
  lies_in f r p low w is = record {
    left = subset_by f.left p.has (λ b h. let l = low.left b h in (is.has b).1 (omega arith));
    right = subset_by f.right p.has (λ b h. let l = low.right b h in (is.has b).1 (omega arith));
  }

  module _ (table : List ℕ) (size : length table ≡ length vs + limit) (least : IsLeastTable fds placed [] table) where
    pub numbers : IsNumbering (length vs) (length table) (is_known vs limit) (symbol_number vs) (symbol_at vs)
    numbers = subst (λ (k : ℕ). IsNumbering (length vs) k (is_known vs limit) (symbol_number vs) (symbol_at vs)) (sym size) (numbering vs limit n.distinct)

    pub names_closed : IsClosedPartition fds rows (name_in vs limit table)
    names_closed f r s cf cr cs same a d h =
        let low = All-contains (IsFdBelow width) fds f n.below cf in
        let p = to_placed r cr in
        let q = to_placed s cs in
        let r_wide = wide r cr in
        let s_wide = wide s cs in
        let keeps = All-contains (Keeps (rep table) placed) fds f least.kept.dependencies cf in
        let known_r : (b : ℕ) (e : Sym) → b < width → is_known vs limit (get_or r b e) ≡ true = λ b e l. n.known r cr (get_or r b e) (Contains-get_or r b e (omega arith)) in
        let known_s : (b : ℕ) (e : Sym) → b < width → is_known vs limit (get_or s b e) ≡ true = λ b e l. n.known s cs (get_or s b e) (Contains-get_or s b e (omega arith)) in
        let left : SameItemLabels (rep table) f.left p.0 q.0 = λ b has.
        let l = low.left b has in
        ap (rep table) (cell_is r p.0 b (Var 0) p.2 (omega arith))
        ∙ same_rep (length vs) table (is_known vs limit) (symbol_number vs) (symbol_at vs) numbers least.ordered (get_or r b (Var 0)) (get_or s b (Var 0)) (known_r b (Var 0) l) (known_s b (Var 0) l) (same b (Var 0) has)
        ∙ ap (rep table) (sym (cell_is s q.0 b (Var 0) q.2 (omega arith))) in
        let l = low.right a h in
        let right = keeps p.0 q.0 p.1 q.1 (lies_in f r p.0 low r_wide p.2) (lies_in f s q.0 low s_wide q.2) left a h in
        same_name (length vs) table (is_known vs limit) (symbol_number vs) (symbol_at vs) numbers least.ordered (get_or r a d) (get_or s a d) (known_r a d l) (known_s a d l)
        (ap (rep table) (sym (cell_is r p.0 a d p.2 (omega arith))) ∙ right ∙ ap (rep table) (cell_is s q.0 a d q.2 (omega arith)))
