-- What the symbols of a definition say, form by form.
use Rattle.std.proofs.Common.{◌≡◌, ℕ, List, [], ◌∷◌, ◌++◌, ◌==◌, length, map, refl, ap, sym, ◌∙◌, arith, subst, codes}
use Rattle.su_base.specs.Name.{IsName, AreNames}
use Rattle.su_base.specs.declared.values.Kind.{Kind}
use Rattle.su_base.specs.declared.values.Column.{Column}
use Rattle.su_lex.specs.declared.meaning.Symbol.{Symbol}
use Rattle.su_lex.specs.declared.meaning.Symbol.TheVariants.{Word, Sign}
use Rattle.su_lex.specs.declared.signs.Sign.TheVariants as sign
use Rattle.su_lex.specs.Names.{names_symbols}
use Rattle.su_lex.proofs.Listed.{SameNames, names_unique}
use Rattle.su_lex.proofs.Written.{one_list_of_symbols}
use Rattle.su_schema.specs.declared.definitions.Pair.{Pair}
use Rattle.su_schema.specs.declared.definitions.Definition.{Definition}
use Rattle.su_schema.specs.declared.definitions.Definition.TheVariants.{Attribute, Relation, Object, Fd, Maximal}
use Rattle.su_lex.specs.Wordings.{kind_symbol}
use Rattle.su_ddl.specs.Grammar.{columns_symbols, in_parens, IsForm, IsDefinition}
use Rattle.su_schema.specs.Entries.{column_names}
use Rattle.su_ddl.proofs.NameLists.{words_differ, kind_same, no_comma, no_comma_arrow, no_comma_end, parens_unique, columns_unique}

pub record AttributeForm (s : List Symbol) (d : Definition) : Type 0 where
  pub name : List ℕ
  pub kind : Kind
  pub is : d ≡ Attribute name kind
  pub whole : s ≡ Word name ∷ kind_symbol kind ∷ []
  pub named : IsName name

pub record RelationForm (s : List Symbol) (d : Definition) : Type 0 where
  pub name : List ℕ
  pub columns : List Column
  pub is : d ≡ Relation name columns
  pub whole : s ≡ Word name ∷ Sign sign.Open ∷ (columns_symbols columns ++ Sign sign.Close ∷ [])
  pub named : IsName name
  pub given : AreNames (column_names columns)

pub record ObjectForm (s : List Symbol) (d : Definition) : Type 0 where
  pub name : List ℕ
  pub relation : List ℕ
  pub pairs : List Pair
  pub is : d ≡ Object name relation pairs
  pub whole : s ≡ Word name ∷ in_parens (map (λ p. p.attribute) pairs) (Word (codes "from") ∷ Word relation ∷ in_parens (map (λ p. p.column) pairs) [])
  pub named : IsName name
  pub stored : IsName relation
  pub attributes : AreNames (map (λ p. p.attribute) pairs)
  pub columns : AreNames (map (λ p. p.column) pairs)

pub record FdForm (s : List Symbol) (d : Definition) : Type 0 where
  pub left : List (List ℕ)
  pub right : List (List ℕ)
  pub is : d ≡ Fd left right
  pub whole : s ≡ names_symbols left ++ Sign sign.Arrow ∷ names_symbols right
  pub left_given : AreNames left
  pub right_given : AreNames right

pub record MaximalForm (s : List Symbol) (d : Definition) : Type 0 where
  pub objects : List (List ℕ)
  pub is : d ≡ Maximal objects
  pub whole : s ≡ in_parens objects []
  pub given : AreNames objects

pub attribute_form : (s : List Symbol) (d : Definition) → IsForm (Word (codes "attribute") ∷ s) d → AttributeForm s d
attribute_form s (Attribute name kind) h = let e = h.0 in record { name = name; kind = kind; is = refl; whole = cc; named = h.1 }
attribute_form s (Relation name columns) h = absurd (words_differ (λ b. b == 97) _ _ _ _ h.0 refl refl)
attribute_form s (Object name relation pairs) h = absurd (words_differ (λ b. b == 97) _ _ _ _ h.0 refl refl)
attribute_form s (Fd left right) h = absurd (words_differ (λ b. b == 97) _ _ _ _ h.0 refl refl)
attribute_form s (Maximal objects) h = absurd (words_differ (λ b. b == 97) _ _ _ _ h.0 refl refl)

pub relation_form : (s : List Symbol) (d : Definition) → IsForm (Word (codes "relation") ∷ s) d → RelationForm s d
relation_form s (Relation name columns) h = let e = h.0 in record { name = name; columns = columns; is = refl; whole = cc; named = h.1.0; given = h.1.1 }
relation_form s (Attribute name kind) h = absurd (words_differ (λ b. b == 114) _ _ _ _ h.0 refl refl)
relation_form s (Object name relation pairs) h = absurd (words_differ (λ b. b == 114) _ _ _ _ h.0 refl refl)
relation_form s (Fd left right) h = absurd (words_differ (λ b. b == 114) _ _ _ _ h.0 refl refl)
relation_form s (Maximal objects) h = absurd (words_differ (λ b. b == 114) _ _ _ _ h.0 refl refl)

pub object_form : (s : List Symbol) (d : Definition) → IsForm (Word (codes "object") ∷ s) d → ObjectForm s d
object_form s (Object name relation pairs) h =
    let e = h.0 in
    record { name = name; relation = relation; pairs = pairs; is = refl; whole = cc; named = h.1.0; stored = h.1.1; attributes = h.1.2; columns = h.1.3 }
object_form s (Attribute name kind) h = absurd (words_differ (λ b. b == 111) _ _ _ _ h.0 refl refl)
object_form s (Relation name columns) h = absurd (words_differ (λ b. b == 111) _ _ _ _ h.0 refl refl)
object_form s (Fd left right) h = absurd (words_differ (λ b. b == 111) _ _ _ _ h.0 refl refl)
object_form s (Maximal objects) h = absurd (words_differ (λ b. b == 111) _ _ _ _ h.0 refl refl)

-- where the parts of an object are read one after the other, each is the object's own, and so is what stands behind it
module _ {s : List Symbol} {d : Definition} (f : ObjectForm s d) {name : List ℕ} {t : List Symbol} (named : s ≡ Word name ∷ t) where
  pub behind_name : t ≡ in_parens (map (λ p. p.attribute) f.pairs) (Word (codes "from") ∷ Word f.relation ∷ in_parens (map (λ p. p.column) f.pairs) [])
  behind_name = let w = f.whole in cc

  module _ (attributes : List (List ℕ)) (u : List Symbol) (listed : (t ≡ in_parens attributes u) × AreNames attributes) where
    pub same_attributes : SameNames attributes (map (λ p. p.attribute) f.pairs) u (Word (codes "from") ∷ Word f.relation ∷ in_parens (map (λ p. p.column) f.pairs) [])
    same_attributes = parens_unique attributes _ u _ listed.1 f.attributes (sym listed.0 ∙ behind_name)

    pub behind_from : {v : List Symbol} → u ≡ Word (codes "from") ∷ v → v ≡ Word f.relation ∷ in_parens (map (λ p. p.column) f.pairs) []
    behind_from from = let r = same_attributes.rest in cc

    pub behind_relation : {v w : List Symbol} {relation : List ℕ} → u ≡ Word (codes "from") ∷ v → v ≡ Word relation ∷ w → w ≡ in_parens (map (λ p. p.column) f.pairs) []
    behind_relation from stored = let r = behind_from from in cc

pub fd_form : (s : List Symbol) (d : Definition) → IsForm (Word (codes "fd") ∷ s) d → FdForm s d
fd_form s (Fd left right) h = let e = h.0 in record { left = left; right = right; is = refl; whole = cc; left_given = h.1.0; right_given = h.1.1 }
fd_form s (Attribute name kind) h = absurd (words_differ (λ b. b == 102) _ _ _ _ h.0 refl refl)
fd_form s (Relation name columns) h = absurd (words_differ (λ b. b == 102) _ _ _ _ h.0 refl refl)
fd_form s (Object name relation pairs) h = absurd (words_differ (λ b. b == 102) _ _ _ _ h.0 refl refl)
fd_form s (Maximal objects) h = absurd (words_differ (λ b. b == 102) _ _ _ _ h.0 refl refl)

pub maximal_form : (s : List Symbol) (d : Definition) → IsForm (Word (codes "maximal") ∷ s) d → MaximalForm s d
maximal_form s (Maximal objects) h = let e = h.0 in record { objects = objects; is = refl; whole = cc; given = h.1 }
maximal_form s (Attribute name kind) h = absurd (words_differ (λ b. b == 109) _ _ _ _ h.0 refl refl)
maximal_form s (Relation name columns) h = absurd (words_differ (λ b. b == 109) _ _ _ _ h.0 refl refl)
maximal_form s (Object name relation pairs) h = absurd (words_differ (λ b. b == 109) _ _ _ _ h.0 refl refl)
maximal_form s (Fd left right) h = absurd (words_differ (λ b. b == 109) _ _ _ _ h.0 refl refl)

-- ---- symbols are one definition

pair_same : (p q : Pair) → p.attribute ≡ q.attribute → p.column ≡ q.column → p ≡ q
pair_same p q a c i = record { attribute = a i; column = c i }

pub pairs_same : (ps qs : List Pair) → map (λ p. p.attribute) ps ≡ map (λ p. p.attribute) qs → map (λ p. p.column) ps ≡ map (λ p. p.column) qs → ps ≡ qs
pairs_same [] [] a c = refl
pairs_same [] (q ∷ qs) a c = absurd (cc)
pairs_same (p ∷ ps) [] a c = absurd (cc)
pairs_same (p ∷ ps) (q ∷ qs) a c =
    let first : p.attribute ≡ q.attribute = cc in
    let column : p.column ≡ q.column = cc in
    let here : p ≡ q = pair_same p q first column in
    let more : ps ≡ qs = pairs_same ps qs (cc) (cc) in
    ap (λ x. x ∷ ps) here ∙ ap (λ x. q ∷ x) more

pub one_form : (s : List Symbol) (d e : Definition) → IsForm s d → IsForm s e → d ≡ e
one_form s (Attribute name kind) e h k =
    let f = attribute_form _ e (subst (λ (x : List Symbol). IsForm x e) h.0 k) in
    let w = f.whole in
    let n : name ≡ f.name = cc in
    let l : kind_symbol kind ≡ kind_symbol f.kind = cc in
    ap (λ x. Attribute x kind) n ∙ ap (Attribute f.name) (kind_same kind f.kind l) ∙ sym f.is
one_form s (Relation name columns) e h k =
    let f = relation_form _ e (subst (λ (x : List Symbol). IsForm x e) h.0 k) in
    let w = f.whole in
    let n : name ≡ f.name = cc in
    let l : columns_symbols columns ++ Sign sign.Close ∷ [] ≡ columns_symbols f.columns ++ Sign sign.Close ∷ [] = cc in
    let u = columns_unique columns f.columns _ _ no_comma no_comma h.1.1 f.given l in
    ap (λ x. Relation x columns) n ∙ ap (Relation f.name) u.columns ∙ sym f.is
one_form s (Object name relation pairs) e h k =
    let f = object_form _ e (subst (λ (x : List Symbol). IsForm x e) h.0 k) in
    let w = f.whole in
    let n : name ≡ f.name = cc in
    let l : in_parens (map (λ p. p.attribute) pairs) (Word (codes "from") ∷ Word relation ∷ in_parens (map (λ p. p.column) pairs) [])
    ≡ in_parens (map (λ p. p.attribute) f.pairs) (Word (codes "from") ∷ Word f.relation ∷ in_parens (map (λ p. p.column) f.pairs) []) = cc in
    let u = parens_unique _ _ _ _ h.1.2 f.attributes l in
    let r = u.rest in
    let m : relation ≡ f.relation = cc in
    let v = parens_unique (map (λ p. p.column) pairs) (map (λ p. p.column) f.pairs) [] [] h.1.3 f.columns (cc) in
    ap (λ x. Object x relation pairs) n ∙ ap (λ x. Object f.name x pairs) m ∙ ap (Object f.name f.relation) (pairs_same pairs f.pairs u.names v.names) ∙ sym f.is
one_form s (Fd left right) e h k =
    let f = fd_form _ e (subst (λ (x : List Symbol). IsForm x e) h.0 k) in
    let u = names_unique left f.left _ _ no_comma_arrow no_comma_arrow h.1.0 f.left_given f.whole in
    let r = u.rest in
    let l : names_symbols right ≡ names_symbols f.right = cc in
    let v = names_unique right f.right [] [] no_comma_end no_comma_end h.1.1 f.right_given (ap (λ x. x ++ []) l) in
    ap (λ x. Fd x right) u.names ∙ ap (Fd f.left) v.names ∙ sym f.is
one_form s (Maximal objects) e h k =
    let f = maximal_form _ e (subst (λ (x : List Symbol). IsForm x e) h.0 k) in
    let u = parens_unique objects f.objects [] [] h.1 f.given f.whole in
    ap Maximal u.names ∙ sym f.is

pub one_definition : (text : List ℕ) (d e : Definition) → IsDefinition text d → IsDefinition text e → d ≡ e
one_definition text d e h k =
    let same = (one_list_of_symbols text h.0 k.0 h.1 k.1).0 in
    one_form k.0 d e (subst (λ (x : List Symbol). IsForm x d) same h.2) k.2

pub pairs_lengths : (ps : List Pair) → length (map (λ p. p.attribute) ps) ≡ length (map (λ p. p.column) ps)
pairs_lengths [] = refl
pairs_lengths (p ∷ ps) = omega (arith, pairs_lengths ps)
