-- Names and columns as the grammar lists them are read in one way.
use Rattle.std.proofs.Common.{◌≡◌, ℕ, Bool, true, false, List, [], ◌∷◌, ◌++◌, ◌==◌, map, refl, ap, sym, ◌∙◌, subst, arith, codes, append-nil}
use Rattle.std.specs.List.{AllByRecursion}
use Rattle.std.proofs.lemmas.Bool.{false≢true}
use Rattle.std.proofs.lemmas.List.{map-append}
use Rattle.su_base.specs.Name.{IsName, AreNames}
use Rattle.su_base.specs.declared.values.Kind.{Kind}
use Rattle.su_base.specs.declared.values.Kind.TheVariants as kind
use Rattle.su_base.specs.declared.values.Column.{Column}
use Rattle.su_lex.specs.declared.meaning.Symbol.{Symbol}
use Rattle.su_lex.specs.declared.meaning.Symbol.TheVariants.{Word, Sign}
use Rattle.su_lex.specs.declared.signs.Sign.TheVariants as sign
use Rattle.su_lex.specs.Blanks.{begins}
use Rattle.su_lex.specs.Names.{Begins, names_symbols}
use Rattle.su_lex.proofs.Listed.{SameNames, are_push, each_name, names_unique}
use Rattle.su_schema.specs.Entries.{column_names}
use Rattle.su_lex.specs.Wordings.{kind_symbol}
use Rattle.su_ddl.specs.Grammar.{column_symbols, columns_symbols, in_parens}
use Rattle.su_ddl.specs.inside.Columns.{behind_commas}

-- ---- words that differ

pub words_differ : (p : ℕ → Bool) (v w : List ℕ) (s t : List Symbol) → Word v ∷ s ≡ Word w ∷ t → begins p v ≡ true → begins p w ≡ false → ⊥
words_differ p v w s t e here there = let h : v ≡ w = cc in false≢true (sym there ∙ ap (begins p) (sym h) ∙ here)

pub kind_same : (k l : Kind) → kind_symbol k ≡ kind_symbol l → k ≡ l
kind_same kind.Int kind.Int e = refl
kind_same kind.Text kind.Text e = refl
kind_same kind.Int kind.Text e = absurd (words_differ (λ b. b == 105) (codes "int") (codes "text") [] [] (ap (λ x. x ∷ []) e) refl refl)
kind_same kind.Text kind.Int e = absurd (words_differ (λ b. b == 116) (codes "text") (codes "int") [] [] (ap (λ x. x ∷ []) e) refl refl)

pub no_comma : {x : List Symbol} → ¬ (Begins (Sign sign.Comma) (Sign sign.Close ∷ x))
no_comma h = let e = h.1 in cc

pub no_comma_arrow : {x : List Symbol} → ¬ (Begins (Sign sign.Comma) (Sign sign.Arrow ∷ x))
no_comma_arrow h = let e = h.1 in cc

pub no_comma_end : ¬ (Begins (Sign sign.Comma) [])
no_comma_end h = let e = h.1 in cc

-- ---- lists of names

pub parens_unique : (ns ms : List (List ℕ)) (s r : List Symbol) → AreNames ns → AreNames ms → in_parens ns s ≡ in_parens ms r → SameNames ns ms s r
parens_unique ns ms s r are are' e =
    let inner : names_symbols ns ++ Sign sign.Close ∷ s ≡ names_symbols ms ++ Sign sign.Close ∷ r = cc in
    let u = names_unique ns ms (Sign sign.Close ∷ s) (Sign sign.Close ∷ r) no_comma no_comma are are' inner in
    let rest = u.rest in
    record { names = u.names; rest = cc }

-- ---- lists of columns

-- columns that each stand behind a comma
abbrev pub more_columns : List Column → List Symbol
more_columns columns = behind_commas (map column_symbols columns)

no_columns : AreNames (column_names []) → ⊥
no_columns are = let some = are.some in omega (arith, some)

column_same : (c d : Column) → c.name ≡ d.name → c.kind ≡ d.kind → c ≡ d
column_same c d n k i = record { name = n i; kind = k i }

pub column_at : (c d : Column) (s r : List Symbol) → Word c.name ∷ kind_symbol c.kind ∷ s ≡ Word d.name ∷ kind_symbol d.kind ∷ r → (c ≡ d) × (s ≡ r)
column_at c d s r e =
    let name : c.name ≡ d.name = cc in
    let kind : kind_symbol c.kind ≡ kind_symbol d.kind = cc in
    (column_same c d name (kind_same c.kind d.kind kind), cc)

pub columns_push : (cs : List Column) (c : Column) (s r : List Symbol) → AreNames (column_names cs) → s ≡ Sign sign.Comma ∷ Word c.name ∷ kind_symbol c.kind ∷ r
    → columns_symbols cs ++ s ≡ columns_symbols (cs ++ c ∷ []) ++ r
columns_push [] c s r are e = absurd (no_columns are)
columns_push (d ∷ cs) c s r are e = ap (λ x. Word d.name ∷ kind_symbol d.kind ∷ x) (more cs)
  where
    more : (cs : List Column) → more_columns cs ++ s ≡ more_columns (cs ++ c ∷ []) ++ r
    more [] = e
    more (d ∷ cs) = ap (λ x. Sign sign.Comma ∷ Word d.name ∷ kind_symbol d.kind ∷ x) (more cs)

pub columns_are_push : (cs : List Column) (c : Column) → AreNames (column_names cs) → IsName c.name → AreNames (column_names (cs ++ c ∷ []))
columns_are_push cs c are is = subst AreNames (sym (map-append (λ (d : Column). d.name) cs (c ∷ []))) (are_push (column_names cs) c.name are is)

-- what is left of the columns behind those that were read
pub record ColumnsLeft (done all : List Column) (s r : List Symbol) : Type 0 where
  pub more : List Column
  pub all_is : all ≡ done ++ more
  pub rest_is : s ≡ more_columns more ++ r
  pub are : AllByRecursion IsName (column_names more)

more_left : (done all : List Column) (s r : List Symbol) → ¬ (Begins (Sign sign.Comma) r) → AllByRecursion IsName (column_names all) → more_columns done ++ s ≡ more_columns all ++ r → ColumnsLeft done all s r
more_left [] all s r none are e = record { more = all; all_is = refl; rest_is = e; are = are }
more_left (c ∷ done) [] s r none are e = absurd (none (Word c.name ∷ kind_symbol c.kind ∷ (more_columns done ++ s), sym e))
more_left (c ∷ done) (d ∷ all) s r none are e =
    let inner : Word c.name ∷ kind_symbol c.kind ∷ (more_columns done ++ s) ≡ Word d.name ∷ kind_symbol d.kind ∷ (more_columns all ++ r) = cc in
    let h = column_at c d (more_columns done ++ s) (more_columns all ++ r) inner in
    let l = more_left done all s r none are.1 h.1 in
    record { more = l.more; all_is = ap (λ x. x ∷ all) (sym h.0) ∙ ap (λ x. c ∷ x) l.all_is; rest_is = l.rest_is; are = l.are }

pub columns_left : (done all : List Column) (s r : List Symbol) → ¬ (Begins (Sign sign.Comma) r) → AreNames (column_names done) → AreNames (column_names all) → columns_symbols done ++ s ≡ columns_symbols all ++ r
    → ColumnsLeft done all s r
columns_left [] all s r none are are' e = absurd (no_columns are)
columns_left (c ∷ done) [] s r none are are' e = absurd (no_columns are')
columns_left (c ∷ done) (d ∷ all) s r none are are' e =
    let h = column_at c d (more_columns done ++ s) (more_columns all ++ r) e in
    let l = more_left done all s r none (each_name (column_names (d ∷ all)) are').1 h.1 in
    record { more = l.more; all_is = ap (λ x. x ∷ all) (sym h.0) ∙ ap (λ x. c ∷ x) l.all_is; rest_is = l.rest_is; are = l.are }

pub record SameColumns (cs ds : List Column) (s r : List Symbol) : Type 0 where
  pub columns : cs ≡ ds
  pub rest : s ≡ r

-- columns are read in one way
pub columns_unique : (cs ds : List Column) (s r : List Symbol) → ¬ (Begins (Sign sign.Comma) s) → ¬ (Begins (Sign sign.Comma) r) → AreNames (column_names cs) → AreNames (column_names ds)
    → columns_symbols cs ++ s ≡ columns_symbols ds ++ r → SameColumns cs ds s r
columns_unique cs ds s r none none' are are' e =
    let l = columns_left cs ds s r none' are are' e in
    ended l.more l.all_is l.rest_is
  where
    ended : (more : List Column) → ds ≡ cs ++ more → s ≡ more_columns more ++ r → SameColumns cs ds s r
    ended [] a b = record { columns = sym (a ∙ append-nil cs); rest = b }
    ended (d ∷ more) a b = absurd (none (Word d.name ∷ kind_symbol d.kind ∷ (more_columns more ++ r), b))

-- where another column has to stand, and none does
pub no_column : (done all : List Column) (e s t r : List Symbol) → ¬ (Begins (Sign sign.Comma) r) → AreNames (column_names done) → AreNames (column_names all) → e ≡ columns_symbols done ++ s → s ≡ Sign sign.Comma ∷ t
    → ((c : Column) (u : List Symbol) → IsName c.name → ¬ (t ≡ Word c.name ∷ kind_symbol c.kind ∷ u)) → e ≡ columns_symbols all ++ r → ⊥
no_column done all e s t r none are are' w comma bad k =
    let l = columns_left done all s r none are are' (sym w ∙ k) in
    ended l.more l.rest_is l.are
  where
    ended : (more : List Column) → s ≡ more_columns more ++ r → AllByRecursion IsName (column_names more) → ⊥
    ended [] b is = none (t, sym b ∙ comma)
    ended (d ∷ more) b is = let h : t ≡ Word d.name ∷ kind_symbol d.kind ∷ (more_columns more ++ r) = cc in bad d (more_columns more ++ r) is.0 h

pub no_first_column : (all : List Column) (e r : List Symbol) → AreNames (column_names all) → ((c : Column) (u : List Symbol) → IsName c.name → ¬ (e ≡ Word c.name ∷ kind_symbol c.kind ∷ u))
    → e ≡ columns_symbols all ++ r → ⊥
no_first_column [] e r are bad k = no_columns are
no_first_column (c ∷ all) e r are bad k = bad c (more_columns all ++ r) (each_name (column_names (c ∷ all)) are).0 k
