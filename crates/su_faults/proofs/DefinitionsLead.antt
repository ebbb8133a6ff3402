-- The tokens that lead from the start of definitions to an end are the definitions.
-- f: the frame; n: how many attributes of an object have no column yet
use Rattle.std.proofs.Common.{◌≡◌, inl, inr, ℕ, ◌+◌, zero, suc, List, [], ◌∷◌, ◌++◌, length, map, refl, sym, ap, subst, arith, codes}
use Rattle.std.specs.List.{AllByRecursion}
use Rattle.std.proofs.lemmas.List.Elements.{All-from_recursion}
use Rattle.su_base.specs.Name.{IsName, AreNames}
use Rattle.su_base.specs.declared.values.Kind.{Kind}
use Rattle.su_base.specs.declared.values.Kind.TheVariants as kind
use Rattle.su_base.specs.declared.values.Column.{Column}
use Rattle.su_lex.specs.Names.{names_symbols}
use Rattle.su_lex.specs.Wordings.{in_parens, kind_symbol}
use Rattle.su_lex.proofs.Listed.{more_names, each_name}
use Rattle.su_schema.specs.declared.definitions.Pair.{Pair}
use Rattle.su_schema.specs.declared.definitions.Definition.{Definition}
use Rattle.su_schema.specs.declared.definitions.Definition.TheVariants.{Attribute, Relation, Object, Fd, Maximal}
use Rattle.su_schema.specs.Entries.{column_names}
use Rattle.su_ddl.specs.Grammar.{definition_symbols, IsForm}
use Rattle.su_ddl.proofs.NameLists.{more_columns}
use Rattle.su_lex.specs.declared.meaning.Symbol.{Symbol}
use Rattle.su_lex.specs.declared.meaning.Symbol.TheVariants.{Word, Sign}
use Rattle.su_lex.specs.declared.signs.Sign.TheVariants as sign
use Rattle.su_faults.specs.declared.spots.Language.TheVariants as language
use Rattle.su_faults.specs.declared.spots.Frame.{Frame}
use Rattle.su_faults.specs.declared.spots.Frame.TheVariants as frame
use Rattle.su_faults.specs.declared.spots.Spot.TheVariants as spot
use Rattle.su_faults.specs.declared.spots.InDefinition.TheVariants as d
use Rattle.su_faults.specs.declared.spots.InStatement.TheVariants as s
use Rattle.su_faults.specs.inside.Machine.{Accepts, started}
use Rattle.su_faults.specs.Languages.{AreDefinition}
use Rattle.su_faults.proofs.Endings.{at}

-- ---- what is taken

pub end_taken : (xs : List Symbol) (f : Frame) (n : ℕ) → Accepts xs (at (spot.Statement s.End) f n) → xs ≡ []
end_taken [] f n h = refl
end_taken (x ∷ xs) f n (inl h) = absurd h.0
end_taken (x ∷ xs) f n (inr h) = absurd h

-- names, each behind a comma, and a parenthesis
abbrev pub NamesClosed : List Symbol → Type 0
NamesClosed xs = (ns : List (List ℕ)) × AllByRecursion IsName ns × (xs ≡ more_names ns ++ Sign sign.Close ∷ [])

names_next : (xs : List Symbol) (f : Frame) (n : ℕ) → Accepts xs (at (spot.Statement s.NameNext) f n) → NamesClosed xs
names_next [] f n (inl h) = absurd h
names_next [] f n (inr (inl h)) = absurd h
names_next [] f n (inr (inr h)) = absurd h
names_next (x ∷ []) f n (inl (e, inl h)) = absurd h
names_next (x ∷ []) f n (inl (e, inr h)) = absurd h
names_next (x ∷ y ∷ xs) f n (inl (e, inl ((name, w, is), h))) = let r = names_next xs f n h in let more = r.2 in (name ∷ r.0, (is, r.1), cc)
names_next (x ∷ y ∷ xs) f n (inl (e, inr h)) = absurd h
names_next (x ∷ xs) f n (inr (inl (e, h))) = let nil = end_taken xs f n h in ([], tt, cc)
names_next (x ∷ xs) f n (inr (inr h)) = absurd h

pub are_names : (name : List ℕ) (ns : List (List ℕ)) → IsName name → AllByRecursion IsName ns → AreNames (name ∷ ns)
are_names name ns is are = record { some = omega arith; named = All-from_recursion IsName (name ∷ ns) (is, are) }

-- names in parentheses
abbrev pub NamesAlone : List Symbol → Type 0
NamesAlone xs = (ns : List (List ℕ)) × AreNames ns × (xs ≡ in_parens (names_symbols ns))

pub names_alone : (xs : List Symbol) (f : Frame) (n : ℕ) → Accepts xs (at (spot.Statement s.NamesOpen) f n) → NamesAlone xs
names_alone [] f n (inl h) = absurd h
names_alone [] f n (inr h) = absurd h
names_alone (x ∷ []) f n (inl (e, inl h)) = absurd h
names_alone (x ∷ []) f n (inl (e, inr h)) = absurd h
names_alone (x ∷ y ∷ xs) f n (inl (e, inl ((name, w, is), h))) = let r = names_next xs f n h in let more = r.2 in (name ∷ r.0, are_names name r.0 is r.1, cc)
names_alone (x ∷ y ∷ xs) f n (inl (e, inr h)) = absurd h
names_alone (x ∷ xs) f n (inr h) = absurd h

attribute_kind : (xs : List Symbol) (f : Frame) (n : ℕ) → Accepts xs (at (spot.Definition d.AttributeKind) f n) → (k : Kind) × (xs ≡ kind_symbol k ∷ [])
attribute_kind [] f n (inl h) = absurd h
attribute_kind [] f n (inr (inl h)) = absurd h
attribute_kind [] f n (inr (inr h)) = absurd h
attribute_kind (x ∷ xs) f n (inl (e, h)) = let nil = end_taken xs f n h in (kind.Int, cc)
attribute_kind (x ∷ xs) f n (inr (inl (e, h))) = let nil = end_taken xs f n h in (kind.Text, cc)
attribute_kind (x ∷ xs) f n (inr (inr h)) = absurd h

attribute : (xs : List Symbol) (f : Frame) (n : ℕ) → Accepts xs (at (spot.Definition d.AttributeName) f n) → AreDefinition (Word (codes "attribute") ∷ xs)
attribute [] f n (inl h) = absurd h
attribute [] f n (inr h) = absurd h
attribute (x ∷ xs) f n (inl ((name, w, is), h)) = let r = attribute_kind xs f n h in let more = r.1 in (Attribute name r.0, (cc, is))
attribute (x ∷ xs) f n (inr h) = absurd h

-- ---- relations

abbrev ColumnsClosed : List Symbol → Type 0
ColumnsClosed xs = (cs : List Column) × AllByRecursion IsName (column_names cs) × (xs ≡ more_columns cs ++ Sign sign.Close ∷ [])

-- a kind, and what is behind it
abbrev KindClosed : List Symbol → Type 0
KindClosed xs = (k : Kind) × (ys : List Symbol) × (xs ≡ kind_symbol k ∷ ys) × ColumnsClosed ys

columns_next : (xs : List Symbol) (f : Frame) (n : ℕ) → Accepts xs (at (spot.Definition d.ColumnNext) f n) → ColumnsClosed xs
columns_next [] f n (inl h) = absurd h
columns_next [] f n (inr (inl h)) = absurd h
columns_next [] f n (inr (inr h)) = absurd h
columns_next (x ∷ []) f n (inl (e, inl h)) = absurd h
columns_next (x ∷ []) f n (inl (e, inr h)) = absurd h
columns_next (x ∷ y ∷ []) f n (inl (e, inl (w, inl h))) = absurd h
columns_next (x ∷ y ∷ []) f n (inl (e, inl (w, inr (inl h)))) = absurd h
columns_next (x ∷ y ∷ []) f n (inl (e, inl (w, inr (inr h)))) = absurd h
columns_next (x ∷ y ∷ z ∷ xs) f n (inl (e, inl ((name, w, is), inl (i, h)))) = let r = columns_next xs f n h in let more = r.2 in (record { name = name; kind = kind.Int } ∷ r.0, (is, r.1), cc)
columns_next (x ∷ y ∷ z ∷ xs) f n (inl (e, inl ((name, w, is), inr (inl (i, h))))) = let r = columns_next xs f n h in let more = r.2 in (record { name = name; kind = kind.Text } ∷ r.0, (is, r.1), cc)
columns_next (x ∷ y ∷ z ∷ xs) f n (inl (e, inl (w, inr (inr h)))) = absurd h
columns_next (x ∷ y ∷ xs) f n (inl (e, inr h)) = absurd h
columns_next (x ∷ xs) f n (inr (inl (e, h))) = let nil = end_taken xs f n h in ([], tt, cc)
columns_next (x ∷ xs) f n (inr (inr h)) = absurd h

column : (xs : List Symbol) (f : Frame) (n : ℕ) → Accepts xs (at (spot.Definition d.ColumnKind) f n) → KindClosed xs
column [] f n (inl h) = absurd h
column [] f n (inr (inl h)) = absurd h
column [] f n (inr (inr h)) = absurd h
column (x ∷ xs) f n (inl (e, h)) = (kind.Int, xs, cc, columns_next xs f n h)
column (x ∷ xs) f n (inr (inl (e, h))) = (kind.Text, xs, cc, columns_next xs f n h)
column (x ∷ xs) f n (inr (inr h)) = absurd h

relation : (xs : List Symbol) (f : Frame) (n : ℕ) → Accepts xs (at (spot.Definition d.RelationName) f n) → AreDefinition (Word (codes "relation") ∷ xs)
relation [] f n (inl h) = absurd h
relation [] f n (inr h) = absurd h
relation (x ∷ []) f n (inl (e, inl h)) = absurd h
relation (x ∷ []) f n (inl (e, inr h)) = absurd h
relation (x ∷ y ∷ []) f n (inl (e, inl (w, inl h))) = absurd h
relation (x ∷ y ∷ []) f n (inl (e, inl (w, inr h))) = absurd h
relation (x ∷ y ∷ z ∷ xs) f n (inl ((name, e, is), inl (w, inl ((first, i, named), h)))) =
    let r = column xs f n h in
    let more = r.2 in
    let last = r.3.2 in
    (Relation name (record { name = first; kind = r.0 } ∷ r.3.0), (cc, (is, are_names first (column_names r.3.0) named r.3.1)))
relation (x ∷ y ∷ z ∷ xs) f n (inl (e, inl (w, inr h))) = absurd h
relation (x ∷ y ∷ xs) f n (inl (e, inr h)) = absurd h
relation (x ∷ xs) f n (inr h) = absurd h

-- ---- objects

-- so many names, each behind a comma, and a parenthesis
abbrev TakenClosed : ℕ → List Symbol → Type 0
TakenClosed n xs = (ns : List (List ℕ)) × AllByRecursion IsName ns × (xs ≡ more_names ns ++ Sign sign.Close ∷ []) × (length ns ≡ n)

taken_next : (xs : List Symbol) (f : Frame) (n : ℕ) → Accepts xs (at (spot.Definition d.TakenNext) f n) → TakenClosed n xs
taken_next [] f zero (inl h) = absurd h
taken_next [] f zero (inr h) = absurd h
taken_next [] f (suc n) (inl h) = absurd h
taken_next [] f (suc n) (inr h) = absurd h
taken_next (x ∷ xs) f zero (inl (e, h)) = let nil = end_taken xs f zero h in ([], tt, cc, refl)
taken_next (x ∷ xs) f zero (inr h) = absurd h
taken_next (x ∷ []) f (suc n) (inl (e, inl h)) = absurd h
taken_next (x ∷ []) f (suc n) (inl (e, inr h)) = absurd h
taken_next (x ∷ y ∷ xs) f (suc n) (inl (e, inl ((name, w, is), h))) = let r = taken_next xs f n h in let more = r.2 in (name ∷ r.0, (is, r.1), cc, omega (arith, r.3))
taken_next (x ∷ y ∷ xs) f (suc n) (inl (e, inr h)) = absurd h
taken_next (x ∷ xs) f (suc n) (inr h) = absurd h

-- what stands behind the attributes: the relation and so many columns
record Source (n : ℕ) (xs : List Symbol) : Type 0 where
  relation : List ℕ
  columns : List (List ℕ)
  stored : IsName relation
  are : AreNames columns
  whole : xs ≡ Word (codes "from") ∷ Word relation ∷ Sign sign.Open ∷ (names_symbols columns ++ Sign sign.Close ∷ [])
  many : length columns ≡ n

source : (xs : List Symbol) (f : Frame) (n : ℕ) → Accepts xs (at (spot.Definition d.ObjectFrom) f (suc n)) → Source (suc n) xs
source [] f n (inl h) = absurd h
source [] f n (inr h) = absurd h
source (x ∷ []) f n (inl (e, inl h)) = absurd h
source (x ∷ []) f n (inl (e, inr h)) = absurd h
source (x ∷ y ∷ []) f n (inl (e, inl (w, inl h))) = absurd h
source (x ∷ y ∷ []) f n (inl (e, inl (w, inr h))) = absurd h
source (x ∷ y ∷ z ∷ []) f n (inl (e, inl (w, inl (i, inl h)))) = absurd h
source (x ∷ y ∷ z ∷ []) f n (inl (e, inl (w, inl (i, inr h)))) = absurd h
source (x ∷ y ∷ z ∷ v ∷ xs) f n (inl (e, inl ((relation, w, stored), inl (i, inl ((first, j, named), h))))) =
    let r = taken_next xs f n h in
    let more = r.2 in
    record { relation = relation; columns = first ∷ r.0; stored = stored; are = are_names first r.0 named r.1; whole = cc; many = omega (arith, r.3) }
source (x ∷ y ∷ z ∷ v ∷ xs) f n (inl (e, inl (w, inl (i, inr h)))) = absurd h
source (x ∷ y ∷ z ∷ xs) f n (inl (e, inl (w, inr h))) = absurd h
source (x ∷ y ∷ xs) f n (inl (e, inr h)) = absurd h
source (x ∷ xs) f n (inr h) = absurd h

-- attributes, each behind a comma, and their source
record Sourced (n : ℕ) (xs : List Symbol) : Type 0 where
  names : List (List ℕ)
  rest : List Symbol
  named : AllByRecursion IsName names
  whole : xs ≡ more_names names ++ Sign sign.Close ∷ rest
  behind : Source (length names + n) rest

attributes_next : (xs : List Symbol) (f : Frame) (n : ℕ) → Accepts xs (at (spot.Definition d.AttributeNext) f (suc n)) → Sourced (suc n) xs
attributes_next [] f n (inl h) = absurd h
attributes_next [] f n (inr (inl h)) = absurd h
attributes_next [] f n (inr (inr h)) = absurd h
attributes_next (x ∷ []) f n (inl (e, inl h)) = absurd h
attributes_next (x ∷ []) f n (inl (e, inr h)) = absurd h
attributes_next (x ∷ y ∷ xs) f n (inl (e, inl ((name, w, is), h))) =
    let r = attributes_next xs f (suc n) h in
    let more = r.whole in
    record { names = name ∷ r.names; rest = r.rest; named = (is, r.named); whole = cc; behind = subst (λ (m : ℕ). Source m r.rest) (omega arith) r.behind }
attributes_next (x ∷ y ∷ xs) f n (inl (e, inr h)) = absurd h
attributes_next (x ∷ xs) f n (inr (inl (e, h))) = record { names = []; rest = xs; named = tt; whole = cc; behind = subst (λ (m : ℕ). Source m xs) (omega arith) (source xs f n h) }
attributes_next (x ∷ xs) f n (inr (inr h)) = absurd h

paired : List (List ℕ) → List (List ℕ) → List Pair
paired [] cs = []
paired (b ∷ bs) [] = []
paired (b ∷ bs) (c ∷ cs) = record { attribute = b; column = c } ∷ paired bs cs

paired_attributes : (bs cs : List (List ℕ)) → length cs ≡ length bs → map (λ p. p.attribute) (paired bs cs) ≡ bs
unfolding paired
paired_attributes [] cs e = refl
paired_attributes (b ∷ bs) [] e = absurd (omega (arith, e))
paired_attributes (b ∷ bs) (c ∷ cs) e = ap (λ x. b ∷ x) (paired_attributes bs cs (omega (arith, e)))

paired_columns : (bs cs : List (List ℕ)) → length cs ≡ length bs → map (λ p. p.column) (paired bs cs) ≡ cs
unfolding paired
paired_columns [] [] e = refl
paired_columns [] (c ∷ cs) e = absurd (omega (arith, e))
paired_columns (b ∷ bs) [] e = absurd (omega (arith, e))
paired_columns (b ∷ bs) (c ∷ cs) e = ap (λ x. c ∷ x) (paired_columns bs cs (omega (arith, e)))

object_is : (name : List ℕ) (bs : List (List ℕ)) (xs rest : List Symbol) → IsName name → AreNames bs → xs ≡ Word name ∷ Sign sign.Open ∷ (names_symbols bs ++ Sign sign.Close ∷ rest) → Source (length bs) rest → AreDefinition (Word (codes "object") ∷ xs)
object_is name bs xs rest is are e from =
    let pairs = paired bs from.columns in
    let left = paired_attributes bs from.columns from.many in
    let right = paired_columns bs from.columns from.many in
    let last = from.whole in (
      Object name from.relation pairs,
      (rw (left, right, e, last) refl, (is, from.stored, subst AreNames (sym left) are, subst AreNames (sym right) from.are)),
    )

object : (xs : List Symbol) (f : Frame) → Accepts xs (at (spot.Definition d.ObjectName) f zero) → AreDefinition (Word (codes "object") ∷ xs)
object [] f (inl h) = absurd h
object [] f (inr h) = absurd h
object (x ∷ []) f (inl (e, inl h)) = absurd h
object (x ∷ []) f (inl (e, inr h)) = absurd h
object (x ∷ y ∷ []) f (inl (e, inl (w, inl h))) = absurd h
object (x ∷ y ∷ []) f (inl (e, inl (w, inr h))) = absurd h
object (x ∷ y ∷ z ∷ xs) f (inl ((name, e, is), inl (w, inl ((first, i, named), h)))) =
    let r = attributes_next xs f zero h in
    let more = r.whole in
    let many : length r.names + suc zero ≡ length (first ∷ r.names) = omega arith in
    let whole : x ∷ y ∷ z ∷ xs ≡ Word name ∷ Sign sign.Open ∷ (names_symbols (first ∷ r.names) ++ Sign sign.Close ∷ r.rest) = cc in
    object_is name (first ∷ r.names) (x ∷ y ∷ z ∷ xs) r.rest is (are_names first r.names named r.named) whole (subst (λ (m : ℕ). Source m r.rest) many r.behind)
object (x ∷ y ∷ z ∷ xs) f (inl (e, inl (w, inr h))) = absurd h
object (x ∷ y ∷ xs) f (inl (e, inr h)) = absurd h
object (x ∷ xs) f (inr h) = absurd h

-- ---- dependencies

abbrev NamesLast : List Symbol → Type 0
NamesLast xs = (ns : List (List ℕ)) × AllByRecursion IsName ns × (xs ≡ more_names ns)

right_next : (xs : List Symbol) (f : Frame) (n : ℕ) → Accepts xs (at (spot.Definition d.RightNext) f n) → NamesLast xs
right_next [] f n h = ([], tt, refl)
right_next (x ∷ []) f n (inl (e, inl h)) = absurd h
right_next (x ∷ []) f n (inl (e, inr h)) = absurd h
right_next (x ∷ y ∷ xs) f n (inl (e, inl ((name, w, is), h))) = let r = right_next xs f n h in let more = r.2 in (name ∷ r.0, (is, r.1), cc)
right_next (x ∷ y ∷ xs) f n (inl (e, inr h)) = absurd h
right_next (x ∷ xs) f n (inr (inl h)) = absurd h.0
right_next (x ∷ xs) f n (inr (inr h)) = absurd h

-- names, each behind a comma, an arrow and names
abbrev NamesArrow : List Symbol → Type 0
NamesArrow xs = (ns : List (List ℕ)) × (ms : List (List ℕ)) × AllByRecursion IsName ns × AreNames ms × (xs ≡ more_names ns ++ Sign sign.Arrow ∷ names_symbols ms)

left_next : (xs : List Symbol) (f : Frame) (n : ℕ) → Accepts xs (at (spot.Definition d.LeftNext) f n) → NamesArrow xs
left_next [] f n (inl h) = absurd h
left_next [] f n (inr (inl h)) = absurd h
left_next [] f n (inr (inr h)) = absurd h
left_next (x ∷ []) f n (inl (e, inl h)) = absurd h
left_next (x ∷ []) f n (inl (e, inr h)) = absurd h
left_next (x ∷ y ∷ xs) f n (inl (e, inl ((name, w, is), h))) = let r = left_next xs f n h in let more = r.4 in (name ∷ r.0, r.1, (is, r.2), r.3, cc)
left_next (x ∷ y ∷ xs) f n (inl (e, inr h)) = absurd h
left_next (x ∷ []) f n (inr (inl (e, inl h))) = absurd h
left_next (x ∷ []) f n (inr (inl (e, inr h))) = absurd h
left_next (x ∷ y ∷ xs) f n (inr (inl (e, inl ((name, w, is), h)))) = let r = right_next xs f n h in let more = r.2 in ([], name ∷ r.0, tt, are_names name r.0 is r.1, cc)
left_next (x ∷ y ∷ xs) f n (inr (inl (e, inr h))) = absurd h
left_next (x ∷ xs) f n (inr (inr h)) = absurd h

fd : (xs : List Symbol) (f : Frame) (n : ℕ) → Accepts xs (at (spot.Definition d.Left) f n) → AreDefinition (Word (codes "fd") ∷ xs)
fd [] f n (inl h) = absurd h
fd [] f n (inr h) = absurd h
fd (x ∷ xs) f n (inl ((name, w, is), h)) = let r = left_next xs f n h in let more = r.4 in (Fd (name ∷ r.0) r.1, (cc, (are_names name r.0 is r.2, r.3)))
fd (x ∷ xs) f n (inr h) = absurd h

maximal : (xs : List Symbol) (f : Frame) (n : ℕ) → Accepts xs (at (spot.Statement s.NamesOpen) f n) → AreDefinition (Word (codes "maximal") ∷ xs)
maximal xs f n h = let r = names_alone xs f n h in let more = r.2 in (Maximal r.0, (cc, r.1))

pub definition_taken : (xs : List Symbol) → Accepts xs (started language.Definitions) → AreDefinition xs
definition_taken [] (inl h) = absurd h
definition_taken [] (inr (inl h)) = absurd h
definition_taken [] (inr (inr (inl h))) = absurd h
definition_taken [] (inr (inr (inr (inl h)))) = absurd h
definition_taken [] (inr (inr (inr (inr (inl h))))) = absurd h
definition_taken [] (inr (inr (inr (inr (inr h))))) = absurd h
definition_taken (x ∷ xs) (inl (e, h)) = subst (λ (y : Symbol). AreDefinition (y ∷ xs)) (sym e) (attribute xs frame.Alone zero h)
definition_taken (x ∷ xs) (inr (inl (e, h))) = subst (λ (y : Symbol). AreDefinition (y ∷ xs)) (sym e) (relation xs frame.Alone zero h)
definition_taken (x ∷ xs) (inr (inr (inl (e, h)))) = subst (λ (y : Symbol). AreDefinition (y ∷ xs)) (sym e) (object xs frame.Alone h)
definition_taken (x ∷ xs) (inr (inr (inr (inl (e, h))))) = subst (λ (y : Symbol). AreDefinition (y ∷ xs)) (sym e) (fd xs frame.Alone zero h)
definition_taken (x ∷ xs) (inr (inr (inr (inr (inl (e, h)))))) = subst (λ (y : Symbol). AreDefinition (y ∷ xs)) (sym e) (maximal xs frame.Alone zero h)
definition_taken (x ∷ xs) (inr (inr (inr (inr (inr h))))) = absurd h

-- ---- what leads to an end

kind_leads : (k : Kind) (f : Frame) (n : ℕ) → Accepts (kind_symbol k ∷ []) (at (spot.Definition d.AttributeKind) f n)
kind_leads kind.Int f n = inl (refl, inl tt)
kind_leads kind.Text f n = inr (inl (refl, inl tt))

names_lead : (ns : List (List ℕ)) (f : Frame) (n : ℕ) → AllByRecursion IsName ns → Accepts (more_names ns ++ Sign sign.Close ∷ []) (at (spot.Statement s.NameNext) f n)
names_lead [] f n are = inr (inl (refl, inl tt))
names_lead (m ∷ ns) f n are = inl (refl, inl ((m, refl, are.0), names_lead ns f n are.1))

pub parens_lead : (ns : List (List ℕ)) (f : Frame) (n : ℕ) → AreNames ns → Accepts (in_parens (names_symbols ns)) (at (spot.Statement s.NamesOpen) f n)
parens_lead [] f n are = absurd (let some = are.some in omega (arith, some))
parens_lead (m ∷ ns) f n are = let all = each_name (m ∷ ns) are in inl (refl, inl ((m, refl, all.0), names_lead ns f n all.1))

kind_column_leads : (k : Kind) (cs : List Column) (f : Frame) (n : ℕ) → Accepts (more_columns cs ++ Sign sign.Close ∷ []) (at (spot.Definition d.ColumnNext) f n) → Accepts (kind_symbol k ∷ (more_columns cs ++ Sign sign.Close ∷ [])) (at (spot.Definition d.ColumnKind) f n)
kind_column_leads kind.Int cs f n h = inl (refl, h)
kind_column_leads kind.Text cs f n h = inr (inl (refl, h))

columns_lead : (cs : List Column) (f : Frame) (n : ℕ) → AllByRecursion IsName (column_names cs) → Accepts (more_columns cs ++ Sign sign.Close ∷ []) (at (spot.Definition d.ColumnNext) f n)
columns_lead [] f n are = inr (inl (refl, inl tt))
columns_lead (c ∷ cs) f n are = inl (refl, inl ((c.name, refl, are.0), kind_column_leads c.kind cs f n (columns_lead cs f n are.1)))

taken_lead : (ns : List (List ℕ)) (f : Frame) (n : ℕ) → AllByRecursion IsName ns → length ns ≡ n → Accepts (more_names ns ++ Sign sign.Close ∷ []) (at (spot.Definition d.TakenNext) f n)
taken_lead [] f zero are e = inl (refl, inl tt)
taken_lead [] f (suc n) are e = absurd (omega (arith, e))
taken_lead (m ∷ ns) f zero are e = absurd (omega (arith, e))
taken_lead (m ∷ ns) f (suc n) are e = inl (refl, inl ((m, refl, are.0), taken_lead ns f n are.1 (omega (arith, e))))

source_leads : (relation : List ℕ) (ms : List (List ℕ)) (f : Frame) (n : ℕ) → IsName relation → AreNames ms → length ms ≡ suc n
    → Accepts (Word (codes "from") ∷ Word relation ∷ in_parens (names_symbols ms)) (at (spot.Definition d.ObjectFrom) f (suc n))
source_leads relation [] f n is are e = absurd (omega (arith, e))
source_leads relation (m ∷ ms) f n is are e =
    let all = each_name (m ∷ ms) are in
    inl (refl, inl ((relation, refl, is), inl (refl, inl ((m, refl, all.0), taken_lead ms f n all.1 (omega (arith, e))))))

attributes_lead : (ns : List (List ℕ)) (relation : List ℕ) (ms : List (List ℕ)) (f : Frame) (n : ℕ) → AllByRecursion IsName ns → IsName relation → AreNames ms → length ms ≡ length ns + suc n
    → Accepts (more_names ns ++ Sign sign.Close ∷ Word (codes "from") ∷ Word relation ∷ in_parens (names_symbols ms)) (at (spot.Definition d.AttributeNext) f (suc n))
attributes_lead [] relation ms f n named is are e = inr (inl (refl, source_leads relation ms f n is are (omega (arith, e))))
attributes_lead (b ∷ ns) relation ms f n named is are e = inl (refl, inl ((b, refl, named.0), attributes_lead ns relation ms f (suc n) named.1 is are (omega (arith, e))))

object_leads : (name : List ℕ) (ns : List (List ℕ)) (relation : List ℕ) (ms : List (List ℕ)) (f : Frame) → IsName name → AreNames ns → IsName relation → AreNames ms → length ms ≡ length ns
    → Accepts (Word name ∷ Sign sign.Open ∷ (names_symbols ns ++ Sign sign.Close ∷ Word (codes "from") ∷ Word relation ∷ in_parens (names_symbols ms))) (at (spot.Definition d.ObjectName) f zero)
object_leads name [] relation ms f is named stored are e = absurd (let some = named.some in omega (arith, some))
object_leads name (b ∷ bs) relation ms f is named stored are e =
    let all = each_name (b ∷ bs) named in
    inl ((name, refl, is), inl (refl, inl ((b, refl, all.0), attributes_lead bs relation ms f zero all.1 stored are (omega (arith, e)))))

right_leads : (ns : List (List ℕ)) (f : Frame) (n : ℕ) → AllByRecursion IsName ns → Accepts (more_names ns) (at (spot.Definition d.RightNext) f n)
right_leads [] f n are = inr (inl tt)
right_leads (m ∷ ns) f n are = inl (refl, inl ((m, refl, are.0), right_leads ns f n are.1))

left_leads : (ns ms : List (List ℕ)) (f : Frame) (n : ℕ) → AllByRecursion IsName ns → AreNames ms → Accepts (more_names ns ++ Sign sign.Arrow ∷ names_symbols ms) (at (spot.Definition d.LeftNext) f n)
left_leads [] [] f n named are = absurd (let some = are.some in omega (arith, some))
left_leads [] (m ∷ ms) f n named are = let all = each_name (m ∷ ms) are in inr (inl (refl, inl ((m, refl, all.0), right_leads ms f n all.1)))
left_leads (k ∷ ns) ms f n named are = inl (refl, inl ((k, refl, named.0), left_leads ns ms f n named.1 are))

same_many : (pairs : List Pair) → length (map (λ p. p.column) pairs) ≡ length (map (λ p. p.attribute) pairs)
same_many [] = refl
same_many (p ∷ ps) = let more = same_many ps in omega (arith, more)

leads : (definition : Definition) (xs : List Symbol) → IsForm xs definition → Accepts (definition_symbols definition) (started language.Definitions)
leads (Attribute name k) xs form = inl (refl, inl ((name, refl, form.1), kind_leads k frame.Alone zero))
leads (Relation name []) xs form = absurd (let some = form.1.1.some in omega (arith, some))
leads (Relation name (c ∷ cs)) xs form =
    let all = each_name (column_names (c ∷ cs)) form.1.1 in
    inr (inl (refl, inl ((name, refl, form.1.0), inl (refl, inl ((c.name, refl, all.0), kind_column_leads c.kind cs frame.Alone zero (columns_lead cs frame.Alone zero all.1))))))
leads (Object name relation pairs) xs form =
    inr (inr (inl (refl, object_leads name (map (λ p. p.attribute) pairs) relation (map (λ p. p.column) pairs) frame.Alone form.1.0 form.1.2 form.1.1 form.1.3 (same_many pairs))))
leads (Fd [] right) xs form = absurd (let some = form.1.0.some in omega (arith, some))
leads (Fd (m ∷ ns) right) xs form =
    let all = each_name (m ∷ ns) form.1.0 in
    inr (inr (inr (inl (refl, inl ((m, refl, all.0), left_leads ns right frame.Alone zero all.1 form.1.1)))))
leads (Maximal objects) xs form = inr (inr (inr (inr (inl (refl, parens_lead objects frame.Alone zero form.1)))))

pub definition_leads : (xs : List Symbol) → AreDefinition xs → Accepts xs (started language.Definitions)
definition_leads xs are = subst (λ (ys : List Symbol). Accepts ys (started language.Definitions)) (sym are.1.0) (leads are.0 xs are.1)
