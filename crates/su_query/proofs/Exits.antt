-- What the first word tells of a statement, and why symbols are in no form.
use Rattle.std.proofs.lemmas.Bool.Decides.{nat_tests}
use Rattle.std.proofs.Common.{◌≡◌, ◌⊎◌, inl, inr, ℕ, nat_eq, arith, true, false, List, [], ◌∷◌, refl, ap, sym, ◌∙◌, subst, codes}
use Rattle.su_base.specs.declared.values.Value.{Value}
use Rattle.su_base.specs.Name.{IsName}
use Rattle.su_lex.specs.declared.signs.Sign.TheVariants as sign
use Rattle.su_lex.specs.declared.meaning.Symbol.{Symbol}
use Rattle.su_lex.specs.declared.meaning.Symbol.TheVariants.{Word, Sign}
use Rattle.su_query.specs.declared.statements.Query.{Query as AQuery}
use Rattle.su_query.specs.declared.statements.Statement.{Statement}
use Rattle.su_query.specs.declared.statements.Statement.TheVariants.{Insert, Delete, DeleteWhere, Load, Print, Schema, Closure, Retrieve, Explain, Certify, Support, Compare, Window}
use Rattle.su_lex.specs.Names.{Begins}
use Rattle.su_query.specs.inside.Fronts.{opens_second}
use Rattle.su_query.specs.inside.ReadItems.{Several, ReadsName, ReadsValue}
use Rattle.su_query.specs.inside.ReadConditions.{ReadsCond}
use Rattle.su_query.specs.Refs.{NamedCond}
use Rattle.su_query.specs.Mentions.{are_columns}
use Rattle.su_query.specs.inside.ReadForms as g
use Rattle.su_query.specs.inside.ReadRelations.{RowForm, ConditionForm, FileForm, NamesForm}
use Rattle.su_query.specs.inside.ReadQueries.{PairForm, QueryForm}
use Rattle.su_query.specs.inside.ReadForms.{ReadsForm}
use Rattle.su_query.proofs.Items.{name_unique, value_unique}
use Rattle.su_query.proofs.Listed.{several_unique}
use Rattle.su_query.proofs.Unique.{same_cond}

abbrev first_byte : List ℕ → ℕ
first_byte [] = 0
first_byte (b ∷ bs) = b

-- two words that begin differently
apart : (v w : List ℕ) (s t u : List Symbol) → s ≡ Word v ∷ t → s ≡ Word w ∷ u → nat_eq (first_byte v) (first_byte w) ≡ false → ⊥
apart v w s t u e e' d =
    let h : v ≡ w = cc in
    let k : first_byte v ≡ first_byte w = ap first_byte h in
    absurd (grind (arith, nat_tests, k, d))

abbrev second_byte : List ℕ → ℕ
second_byte [] = 0
second_byte (b ∷ bs) = first_byte bs

-- or go on differently
apart_behind : (v w : List ℕ) (s t u : List Symbol) → s ≡ Word v ∷ t → s ≡ Word w ∷ u → nat_eq (second_byte v) (second_byte w) ≡ false → ⊥
apart_behind v w s t u e e' d =
    let h : v ≡ w = cc in
    let k : second_byte v ≡ second_byte w = ap second_byte h in
    absurd (grind (arith, nat_tests, k, d))

pub insert_inv : (st : Statement) (s t : List Symbol) → s ≡ Word (codes "insert") ∷ t → ReadsForm st s → (relation : List ℕ) × (row : List Value) × (st ≡ Insert relation row) × RowForm relation row t
insert_inv st s t w (g.insert _ relation row _ t' e e' h) = let at : t' ≡ t = cc in (relation, row, e, subst (λ (x : List Symbol). RowForm relation row x) at h)
insert_inv st s t w (g.delete _ relation row _ t' e e' h) = absurd (apart (codes "insert") (codes "delete") s t t' w e' refl)
insert_inv st s t w (g.delete_where _ relation cond _ t' e e' h) = absurd (apart (codes "insert") (codes "delete") s t t' w e' refl)
insert_inv st s t w (g.load _ relation file _ t' e e' h) = absurd (apart (codes "insert") (codes "load") s t t' w e' refl)
insert_inv st s t w (g.print _ relation _ e e' named) = absurd (apart (codes "insert") (codes "print") s t (Word relation ∷ []) w e' refl)
insert_inv st s t w (g.schema _ _ e e') = absurd (apart (codes "insert") (codes "schema") s t [] w e' refl)
insert_inv st s t w (g.closure _ names _ t' e e' h) = absurd (apart (codes "insert") (codes "closure") s t t' w e' refl)
insert_inv st s t w (g.retrieve _ q _ e h) = absurd (apart (codes "insert") (codes "retrieve") s t (Sign sign.Open ∷ h.refs) w h.begins refl)
insert_inv st s t w (g.explain _ q _ t' e e' h) = absurd (apart (codes "insert") (codes "explain") s t t' w e' refl)
insert_inv st s t w (g.certify _ q _ t' e e' h) = absurd (apart (codes "insert") (codes "explain") s t (Word (codes "with") ∷ t') w e' refl)
insert_inv st s t w (g.support _ q _ t' e e' h) = absurd (apart (codes "insert") (codes "explain") s t (Word (codes "from") ∷ t') w e' refl)
insert_inv st s t w (g.compare _ p q _ t' e e' h) = absurd (apart (codes "insert") (codes "compare") s t t' w e' refl)
insert_inv st s t w (g.window _ names _ t' e e' h) = absurd (apart (codes "insert") (codes "window") s t t' w e' refl)

pub delete_inv : (st : Statement) (s t : List Symbol) → s ≡ Word (codes "delete") ∷ t → ReadsForm st s → ((relation : List ℕ) × (row : List Value) × (st ≡ Delete relation row) × RowForm relation row t) ⊎ ((relation : List ℕ) × (cond : NamedCond) × (st ≡ DeleteWhere relation cond) × ConditionForm relation cond t)
delete_inv st s t w (g.insert _ relation row _ t' e e' h) = absurd (apart (codes "delete") (codes "insert") s t t' w e' refl)
delete_inv st s t w (g.delete _ relation row _ t' e e' h) = let at : t' ≡ t = cc in inl (relation, row, e, subst (λ (x : List Symbol). RowForm relation row x) at h)
delete_inv st s t w (g.delete_where _ relation cond _ t' e e' h) = let at : t' ≡ t = cc in inr (relation, cond, e, subst (λ (x : List Symbol). ConditionForm relation cond x) at h)
delete_inv st s t w (g.load _ relation file _ t' e e' h) = absurd (apart (codes "delete") (codes "load") s t t' w e' refl)
delete_inv st s t w (g.print _ relation _ e e' named) = absurd (apart (codes "delete") (codes "print") s t (Word relation ∷ []) w e' refl)
delete_inv st s t w (g.schema _ _ e e') = absurd (apart (codes "delete") (codes "schema") s t [] w e' refl)
delete_inv st s t w (g.closure _ names _ t' e e' h) = absurd (apart (codes "delete") (codes "closure") s t t' w e' refl)
delete_inv st s t w (g.retrieve _ q _ e h) = absurd (apart (codes "delete") (codes "retrieve") s t (Sign sign.Open ∷ h.refs) w h.begins refl)
delete_inv st s t w (g.explain _ q _ t' e e' h) = absurd (apart (codes "delete") (codes "explain") s t t' w e' refl)
delete_inv st s t w (g.certify _ q _ t' e e' h) = absurd (apart (codes "delete") (codes "explain") s t (Word (codes "with") ∷ t') w e' refl)
delete_inv st s t w (g.support _ q _ t' e e' h) = absurd (apart (codes "delete") (codes "explain") s t (Word (codes "from") ∷ t') w e' refl)
delete_inv st s t w (g.compare _ p q _ t' e e' h) = absurd (apart (codes "delete") (codes "compare") s t t' w e' refl)
delete_inv st s t w (g.window _ names _ t' e e' h) = absurd (apart (codes "delete") (codes "window") s t t' w e' refl)

pub load_inv : (st : Statement) (s t : List Symbol) → s ≡ Word (codes "load") ∷ t → ReadsForm st s → (relation : List ℕ) × (file : List ℕ) × (st ≡ Load relation file) × FileForm relation file t
load_inv st s t w (g.insert _ relation row _ t' e e' h) = absurd (apart (codes "load") (codes "insert") s t t' w e' refl)
load_inv st s t w (g.delete _ relation row _ t' e e' h) = absurd (apart (codes "load") (codes "delete") s t t' w e' refl)
load_inv st s t w (g.delete_where _ relation cond _ t' e e' h) = absurd (apart (codes "load") (codes "delete") s t t' w e' refl)
load_inv st s t w (g.load _ relation file _ t' e e' h) = let at : t' ≡ t = cc in (relation, file, e, subst (λ (x : List Symbol). FileForm relation file x) at h)
load_inv st s t w (g.print _ relation _ e e' named) = absurd (apart (codes "load") (codes "print") s t (Word relation ∷ []) w e' refl)
load_inv st s t w (g.schema _ _ e e') = absurd (apart (codes "load") (codes "schema") s t [] w e' refl)
load_inv st s t w (g.closure _ names _ t' e e' h) = absurd (apart (codes "load") (codes "closure") s t t' w e' refl)
load_inv st s t w (g.retrieve _ q _ e h) = absurd (apart (codes "load") (codes "retrieve") s t (Sign sign.Open ∷ h.refs) w h.begins refl)
load_inv st s t w (g.explain _ q _ t' e e' h) = absurd (apart (codes "load") (codes "explain") s t t' w e' refl)
load_inv st s t w (g.certify _ q _ t' e e' h) = absurd (apart (codes "load") (codes "explain") s t (Word (codes "with") ∷ t') w e' refl)
load_inv st s t w (g.support _ q _ t' e e' h) = absurd (apart (codes "load") (codes "explain") s t (Word (codes "from") ∷ t') w e' refl)
load_inv st s t w (g.compare _ p q _ t' e e' h) = absurd (apart (codes "load") (codes "compare") s t t' w e' refl)
load_inv st s t w (g.window _ names _ t' e e' h) = absurd (apart (codes "load") (codes "window") s t t' w e' refl)

pub print_inv : (st : Statement) (s t : List Symbol) → s ≡ Word (codes "print") ∷ t → ReadsForm st s → (relation : List ℕ) × (st ≡ Print relation) × (t ≡ Word relation ∷ []) × IsName relation
print_inv st s t w (g.insert _ relation row _ t' e e' h) = absurd (apart (codes "print") (codes "insert") s t t' w e' refl)
print_inv st s t w (g.delete _ relation row _ t' e e' h) = absurd (apart (codes "print") (codes "delete") s t t' w e' refl)
print_inv st s t w (g.delete_where _ relation cond _ t' e e' h) = absurd (apart (codes "print") (codes "delete") s t t' w e' refl)
print_inv st s t w (g.load _ relation file _ t' e e' h) = absurd (apart (codes "print") (codes "load") s t t' w e' refl)
print_inv st s t w (g.print _ relation _ e e' named) = let at : t ≡ Word relation ∷ [] = cc in (relation, e, at, named)
print_inv st s t w (g.schema _ _ e e') = absurd (apart (codes "print") (codes "schema") s t [] w e' refl)
print_inv st s t w (g.closure _ names _ t' e e' h) = absurd (apart (codes "print") (codes "closure") s t t' w e' refl)
print_inv st s t w (g.retrieve _ q _ e h) = absurd (apart (codes "print") (codes "retrieve") s t (Sign sign.Open ∷ h.refs) w h.begins refl)
print_inv st s t w (g.explain _ q _ t' e e' h) = absurd (apart (codes "print") (codes "explain") s t t' w e' refl)
print_inv st s t w (g.certify _ q _ t' e e' h) = absurd (apart (codes "print") (codes "explain") s t (Word (codes "with") ∷ t') w e' refl)
print_inv st s t w (g.support _ q _ t' e e' h) = absurd (apart (codes "print") (codes "explain") s t (Word (codes "from") ∷ t') w e' refl)
print_inv st s t w (g.compare _ p q _ t' e e' h) = absurd (apart (codes "print") (codes "compare") s t t' w e' refl)
print_inv st s t w (g.window _ names _ t' e e' h) = absurd (apart (codes "print") (codes "window") s t t' w e' refl)

pub schema_inv : (st : Statement) (s t : List Symbol) → s ≡ Word (codes "schema") ∷ t → ReadsForm st s → (st ≡ Schema) × (t ≡ [])
schema_inv st s t w (g.insert _ relation row _ t' e e' h) = absurd (apart (codes "schema") (codes "insert") s t t' w e' refl)
schema_inv st s t w (g.delete _ relation row _ t' e e' h) = absurd (apart (codes "schema") (codes "delete") s t t' w e' refl)
schema_inv st s t w (g.delete_where _ relation cond _ t' e e' h) = absurd (apart (codes "schema") (codes "delete") s t t' w e' refl)
schema_inv st s t w (g.load _ relation file _ t' e e' h) = absurd (apart (codes "schema") (codes "load") s t t' w e' refl)
schema_inv st s t w (g.print _ relation _ e e' named) = absurd (apart (codes "schema") (codes "print") s t (Word relation ∷ []) w e' refl)
schema_inv st s t w (g.schema _ _ e e') = let at : t ≡ [] = cc in (e, at)
schema_inv st s t w (g.closure _ names _ t' e e' h) = absurd (apart (codes "schema") (codes "closure") s t t' w e' refl)
schema_inv st s t w (g.retrieve _ q _ e h) = absurd (apart (codes "schema") (codes "retrieve") s t (Sign sign.Open ∷ h.refs) w h.begins refl)
schema_inv st s t w (g.explain _ q _ t' e e' h) = absurd (apart (codes "schema") (codes "explain") s t t' w e' refl)
schema_inv st s t w (g.certify _ q _ t' e e' h) = absurd (apart (codes "schema") (codes "explain") s t (Word (codes "with") ∷ t') w e' refl)
schema_inv st s t w (g.support _ q _ t' e e' h) = absurd (apart (codes "schema") (codes "explain") s t (Word (codes "from") ∷ t') w e' refl)
schema_inv st s t w (g.compare _ p q _ t' e e' h) = absurd (apart (codes "schema") (codes "compare") s t t' w e' refl)
schema_inv st s t w (g.window _ names _ t' e e' h) = absurd (apart (codes "schema") (codes "window") s t t' w e' refl)

pub closure_inv : (st : Statement) (s t : List Symbol) → s ≡ Word (codes "closure") ∷ t → ReadsForm st s → (names : List (List ℕ)) × (st ≡ Closure names) × NamesForm names t
closure_inv st s t w (g.insert _ relation row _ t' e e' h) = absurd (apart (codes "closure") (codes "insert") s t t' w e' refl)
closure_inv st s t w (g.delete _ relation row _ t' e e' h) = absurd (apart (codes "closure") (codes "delete") s t t' w e' refl)
closure_inv st s t w (g.delete_where _ relation cond _ t' e e' h) = absurd (apart (codes "closure") (codes "delete") s t t' w e' refl)
closure_inv st s t w (g.load _ relation file _ t' e e' h) = absurd (apart (codes "closure") (codes "load") s t t' w e' refl)
closure_inv st s t w (g.print _ relation _ e e' named) = absurd (apart (codes "closure") (codes "print") s t (Word relation ∷ []) w e' refl)
closure_inv st s t w (g.schema _ _ e e') = absurd (apart (codes "closure") (codes "schema") s t [] w e' refl)
closure_inv st s t w (g.closure _ names _ t' e e' h) = let at : t' ≡ t = cc in (names, e, subst (λ (x : List Symbol). NamesForm names x) at h)
closure_inv st s t w (g.retrieve _ q _ e h) = absurd (apart (codes "closure") (codes "retrieve") s t (Sign sign.Open ∷ h.refs) w h.begins refl)
closure_inv st s t w (g.explain _ q _ t' e e' h) = absurd (apart (codes "closure") (codes "explain") s t t' w e' refl)
closure_inv st s t w (g.certify _ q _ t' e e' h) = absurd (apart (codes "closure") (codes "explain") s t (Word (codes "with") ∷ t') w e' refl)
closure_inv st s t w (g.support _ q _ t' e e' h) = absurd (apart (codes "closure") (codes "explain") s t (Word (codes "from") ∷ t') w e' refl)
closure_inv st s t w (g.compare _ p q _ t' e e' h) = absurd (apart_behind (codes "closure") (codes "compare") s t t' w e' refl)
closure_inv st s t w (g.window _ names _ t' e e' h) = absurd (apart (codes "closure") (codes "window") s t t' w e' refl)

pub explain_inv : (st : Statement) (s t : List Symbol) → s ≡ Word (codes "explain") ∷ t → ReadsForm st s → ((q : AQuery) × (st ≡ Explain q) × QueryForm q t)
    ⊎ (((q : AQuery) × (u : List Symbol) × (st ≡ Certify q) × (t ≡ Word (codes "with") ∷ u) × QueryForm q u)
    ⊎ ((q : AQuery) × (u : List Symbol) × (st ≡ Support q) × (t ≡ Word (codes "from") ∷ u) × QueryForm q u))
explain_inv st s t w (g.insert _ relation row _ t' e e' h) = absurd (apart (codes "explain") (codes "insert") s t t' w e' refl)
explain_inv st s t w (g.delete _ relation row _ t' e e' h) = absurd (apart (codes "explain") (codes "delete") s t t' w e' refl)
explain_inv st s t w (g.delete_where _ relation cond _ t' e e' h) = absurd (apart (codes "explain") (codes "delete") s t t' w e' refl)
explain_inv st s t w (g.load _ relation file _ t' e e' h) = absurd (apart (codes "explain") (codes "load") s t t' w e' refl)
explain_inv st s t w (g.print _ relation _ e e' named) = absurd (apart (codes "explain") (codes "print") s t (Word relation ∷ []) w e' refl)
explain_inv st s t w (g.schema _ _ e e') = absurd (apart (codes "explain") (codes "schema") s t [] w e' refl)
explain_inv st s t w (g.closure _ names _ t' e e' h) = absurd (apart (codes "explain") (codes "closure") s t t' w e' refl)
explain_inv st s t w (g.retrieve _ q _ e h) = absurd (apart (codes "explain") (codes "retrieve") s t (Sign sign.Open ∷ h.refs) w h.begins refl)
explain_inv st s t w (g.explain _ q _ t' e e' h) = let at : t' ≡ t = cc in inl (q, e, subst (λ (x : List Symbol). QueryForm q x) at h)
explain_inv st s t w (g.certify _ q _ t' e e' h) = let at : t ≡ Word (codes "with") ∷ t' = cc in inr (inl (q, t', e, at, h))
explain_inv st s t w (g.support _ q _ t' e e' h) = let at : t ≡ Word (codes "from") ∷ t' = cc in inr (inr (q, t', e, at, h))
explain_inv st s t w (g.compare _ p q _ t' e e' h) = absurd (apart (codes "explain") (codes "compare") s t t' w e' refl)
explain_inv st s t w (g.window _ names _ t' e e' h) = absurd (apart (codes "explain") (codes "window") s t t' w e' refl)

-- what begins with `with` or `from` is no query
pub no_query_with : (q : AQuery) (s t : List Symbol) → s ≡ Word (codes "with") ∷ t → QueryForm q s → ⊥
no_query_with q s t w h = apart (codes "with") (codes "retrieve") s t (Sign sign.Open ∷ h.refs) w h.begins refl

pub no_query_from : (q : AQuery) (s t : List Symbol) → s ≡ Word (codes "from") ∷ t → QueryForm q s → ⊥
no_query_from q s t w h = apart (codes "from") (codes "retrieve") s t (Sign sign.Open ∷ h.refs) w h.begins refl

pub certify_inv : (st : Statement) (s t : List Symbol) → s ≡ Word (codes "explain") ∷ Word (codes "with") ∷ t → ReadsForm st s → (q : AQuery) × (st ≡ Certify q) × QueryForm q t
certify_inv st s t w h = elim (explain_inv st s (Word (codes "with") ∷ t) w h) [
  | inl i ↦ absurd (no_query_with i.0 (Word (codes "with") ∷ t) t refl i.2)
  | inr others ↦ elim others [
    | inl i ↦ let e = i.3 in let at : i.1 ≡ t = cc in (i.0, i.2, subst (λ (x : List Symbol). QueryForm i.0 x) at i.4)
    | inr i ↦ absurd (apart (codes "with") (codes "from") (Word (codes "with") ∷ t) t i.1 refl i.3 refl)
  ]
]

pub support_inv : (st : Statement) (s t : List Symbol) → s ≡ Word (codes "explain") ∷ Word (codes "from") ∷ t → ReadsForm st s → (q : AQuery) × (st ≡ Support q) × QueryForm q t
support_inv st s t w h = elim (explain_inv st s (Word (codes "from") ∷ t) w h) [
  | inl i ↦ absurd (no_query_from i.0 (Word (codes "from") ∷ t) t refl i.2)
  | inr others ↦ elim others [
    | inl i ↦ absurd (apart (codes "from") (codes "with") (Word (codes "from") ∷ t) t i.1 refl i.3 refl)
    | inr i ↦ let e = i.3 in let at : i.1 ≡ t = cc in (i.0, i.2, subst (λ (x : List Symbol). QueryForm i.0 x) at i.4)
  ]
]

pub retrieve_inv : (st : Statement) (s t : List Symbol) → s ≡ Word (codes "retrieve") ∷ t → ReadsForm st s → (q : AQuery) × (st ≡ Retrieve q) × QueryForm q s
retrieve_inv st s t w (g.insert _ relation row _ t' e e' h) = absurd (apart (codes "retrieve") (codes "insert") s t t' w e' refl)
retrieve_inv st s t w (g.delete _ relation row _ t' e e' h) = absurd (apart (codes "retrieve") (codes "delete") s t t' w e' refl)
retrieve_inv st s t w (g.delete_where _ relation cond _ t' e e' h) = absurd (apart (codes "retrieve") (codes "delete") s t t' w e' refl)
retrieve_inv st s t w (g.load _ relation file _ t' e e' h) = absurd (apart (codes "retrieve") (codes "load") s t t' w e' refl)
retrieve_inv st s t w (g.print _ relation _ e e' named) = absurd (apart (codes "retrieve") (codes "print") s t (Word relation ∷ []) w e' refl)
retrieve_inv st s t w (g.schema _ _ e e') = absurd (apart (codes "retrieve") (codes "schema") s t [] w e' refl)
retrieve_inv st s t w (g.closure _ names _ t' e e' h) = absurd (apart (codes "retrieve") (codes "closure") s t t' w e' refl)
retrieve_inv st s t w (g.retrieve _ q _ e h) = (q, e, h)
retrieve_inv st s t w (g.explain _ q _ t' e e' h) = absurd (apart (codes "retrieve") (codes "explain") s t t' w e' refl)
retrieve_inv st s t w (g.certify _ q _ t' e e' h) = absurd (apart (codes "retrieve") (codes "explain") s t (Word (codes "with") ∷ t') w e' refl)
retrieve_inv st s t w (g.support _ q _ t' e e' h) = absurd (apart (codes "retrieve") (codes "explain") s t (Word (codes "from") ∷ t') w e' refl)
retrieve_inv st s t w (g.compare _ p q _ t' e e' h) = absurd (apart (codes "retrieve") (codes "compare") s t t' w e' refl)
retrieve_inv st s t w (g.window _ names _ t' e e' h) = absurd (apart (codes "retrieve") (codes "window") s t t' w e' refl)

pub compare_inv : (st : Statement) (s t : List Symbol) → s ≡ Word (codes "compare") ∷ t → ReadsForm st s → (first : AQuery) × (second : AQuery) × (st ≡ Compare first second) × PairForm first second t
compare_inv st s t w (g.insert _ relation row _ t' e e' h) = absurd (apart (codes "compare") (codes "insert") s t t' w e' refl)
compare_inv st s t w (g.delete _ relation row _ t' e e' h) = absurd (apart (codes "compare") (codes "delete") s t t' w e' refl)
compare_inv st s t w (g.delete_where _ relation cond _ t' e e' h) = absurd (apart (codes "compare") (codes "delete") s t t' w e' refl)
compare_inv st s t w (g.load _ relation file _ t' e e' h) = absurd (apart (codes "compare") (codes "load") s t t' w e' refl)
compare_inv st s t w (g.print _ relation _ e e' named) = absurd (apart (codes "compare") (codes "print") s t (Word relation ∷ []) w e' refl)
compare_inv st s t w (g.schema _ _ e e') = absurd (apart (codes "compare") (codes "schema") s t [] w e' refl)
compare_inv st s t w (g.closure _ names _ t' e e' h) = absurd (apart_behind (codes "compare") (codes "closure") s t t' w e' refl)
compare_inv st s t w (g.retrieve _ q _ e h) = absurd (apart (codes "compare") (codes "retrieve") s t (Sign sign.Open ∷ h.refs) w h.begins refl)
compare_inv st s t w (g.explain _ q _ t' e e' h) = absurd (apart (codes "compare") (codes "explain") s t t' w e' refl)
compare_inv st s t w (g.certify _ q _ t' e e' h) = absurd (apart (codes "compare") (codes "explain") s t (Word (codes "with") ∷ t') w e' refl)
compare_inv st s t w (g.support _ q _ t' e e' h) = absurd (apart (codes "compare") (codes "explain") s t (Word (codes "from") ∷ t') w e' refl)
compare_inv st s t w (g.compare _ p q _ t' e e' h) = let at : t' ≡ t = cc in (p, q, e, subst (λ (x : List Symbol). PairForm p q x) at h)
compare_inv st s t w (g.window _ names _ t' e e' h) = absurd (apart (codes "compare") (codes "window") s t t' w e' refl)

pub window_inv : (st : Statement) (s t : List Symbol) → s ≡ Word (codes "window") ∷ t → ReadsForm st s → (names : List (List ℕ)) × (st ≡ Window names) × NamesForm names t
window_inv st s t w (g.insert _ relation row _ t' e e' h) = absurd (apart (codes "window") (codes "insert") s t t' w e' refl)
window_inv st s t w (g.delete _ relation row _ t' e e' h) = absurd (apart (codes "window") (codes "delete") s t t' w e' refl)
window_inv st s t w (g.delete_where _ relation cond _ t' e e' h) = absurd (apart (codes "window") (codes "delete") s t t' w e' refl)
window_inv st s t w (g.load _ relation file _ t' e e' h) = absurd (apart (codes "window") (codes "load") s t t' w e' refl)
window_inv st s t w (g.print _ relation _ e e' named) = absurd (apart (codes "window") (codes "print") s t (Word relation ∷ []) w e' refl)
window_inv st s t w (g.schema _ _ e e') = absurd (apart (codes "window") (codes "schema") s t [] w e' refl)
window_inv st s t w (g.closure _ names _ t' e e' h) = absurd (apart (codes "window") (codes "closure") s t t' w e' refl)
window_inv st s t w (g.retrieve _ q _ e h) = absurd (apart (codes "window") (codes "retrieve") s t (Sign sign.Open ∷ h.refs) w h.begins refl)
window_inv st s t w (g.explain _ q _ t' e e' h) = absurd (apart (codes "window") (codes "explain") s t t' w e' refl)
window_inv st s t w (g.certify _ q _ t' e e' h) = absurd (apart (codes "window") (codes "explain") s t (Word (codes "with") ∷ t') w e' refl)
window_inv st s t w (g.support _ q _ t' e e' h) = absurd (apart (codes "window") (codes "explain") s t (Word (codes "from") ∷ t') w e' refl)
window_inv st s t w (g.compare _ p q _ t' e e' h) = absurd (apart (codes "window") (codes "compare") s t t' w e' refl)
window_inv st s t w (g.window _ names _ t' e e' h) = let at : t' ≡ t = cc in (names, e, subst (λ (x : List Symbol). NamesForm names x) at h)

-- where the first word is of no other form, a statement is a query
pub none_left : (s : List Symbol) → ¬ (Begins (Word (codes "insert")) s) → ¬ (Begins (Word (codes "delete")) s) → ¬ (Begins (Word (codes "load")) s) → ¬ (Begins (Word (codes "print")) s) → ¬ (Begins (Word (codes "schema")) s) → ¬ (Begins (Word (codes "closure")) s) → ¬ (Begins (Word (codes "explain")) s) → ¬ (Begins (Word (codes "compare")) s) → ¬ (Begins (Word (codes "window")) s) → ((q : AQuery) → QueryForm q s → ⊥) → (st : Statement) → ReadsForm st s → ⊥
none_left s n1 n2 n3 n4 n5 n6 n7 n8 n9 bad st (g.insert _ relation row _ t' e e' h) = n1 (t', e')
none_left s n1 n2 n3 n4 n5 n6 n7 n8 n9 bad st (g.delete _ relation row _ t' e e' h) = n2 (t', e')
none_left s n1 n2 n3 n4 n5 n6 n7 n8 n9 bad st (g.delete_where _ relation cond _ t' e e' h) = n2 (t', e')
none_left s n1 n2 n3 n4 n5 n6 n7 n8 n9 bad st (g.load _ relation file _ t' e e' h) = n3 (t', e')
none_left s n1 n2 n3 n4 n5 n6 n7 n8 n9 bad st (g.print _ relation _ e e' named) = n4 (Word relation ∷ [], e')
none_left s n1 n2 n3 n4 n5 n6 n7 n8 n9 bad st (g.schema _ _ e e') = n5 ([], e')
none_left s n1 n2 n3 n4 n5 n6 n7 n8 n9 bad st (g.closure _ names _ t' e e' h) = n6 (t', e')
none_left s n1 n2 n3 n4 n5 n6 n7 n8 n9 bad st (g.retrieve _ q _ e h) = bad q h
none_left s n1 n2 n3 n4 n5 n6 n7 n8 n9 bad st (g.explain _ q _ t' e e' h) = n7 (t', e')
none_left s n1 n2 n3 n4 n5 n6 n7 n8 n9 bad st (g.certify _ q _ t' e e' h) = n7 (Word (codes "with") ∷ t', e')
none_left s n1 n2 n3 n4 n5 n6 n7 n8 n9 bad st (g.support _ q _ t' e e' h) = n7 (Word (codes "from") ∷ t', e')
none_left s n1 n2 n3 n4 n5 n6 n7 n8 n9 bad st (g.compare _ p q _ t' e e' h) = n8 (t', e')
none_left s n1 n2 n3 n4 n5 n6 n7 n8 n9 bad st (g.window _ names _ t' e e' h) = n9 (t', e')

pub condition_not_row : (relation : List ℕ) (cond : NamedCond) (s : List Symbol) → ConditionForm relation cond s → opens_second s ≡ true → ⊥
condition_not_row relation cond s h e = let f : opens_second s ≡ false = ap opens_second h.begins in cc

pub row_not_condition : (relation : List ℕ) (row : List Value) (s : List Symbol) → RowForm relation row s → opens_second s ≡ false → ⊥
row_not_condition relation row s h e = let f : opens_second s ≡ true = ap opens_second h.begins in cc

pub row_no_values : (s a t : List Symbol) (n : List ℕ) → s ≡ Word n ∷ a → a ≡ Sign sign.Open ∷ t → ((vs : List Value) (r : List Symbol) → ¬ (Several ReadsValue vs t r)) → (relation : List ℕ) (row : List Value) → RowForm relation row s → ⊥
row_no_values s a t n e f bad relation row h =
    let b = h.begins in
    let at : h.values ≡ t = cc in
    bad row (Sign sign.Close ∷ []) (subst (λ (x : List Symbol). Several ReadsValue row x (Sign sign.Close ∷ [])) at h.reads)

row_left : (s a t u : List Symbol) (n : List ℕ) (vs : List Value) → s ≡ Word n ∷ a → a ≡ Sign sign.Open ∷ t → Several ReadsValue vs t u → (relation : List ℕ) (row : List Value) → RowForm relation row s → u ≡ Sign sign.Close ∷ []
row_left s a t u n vs e f found relation row h =
    let b = h.begins in
    let at : h.values ≡ t = cc in
    (several_unique ReadsValue value_unique vs row t u (Sign sign.Close ∷ []) found (subst (λ (x : List Symbol). Several ReadsValue row x (Sign sign.Close ∷ [])) at h.reads)).rest

pub row_no_close : (s a t u : List Symbol) (n : List ℕ) (vs : List Value) → s ≡ Word n ∷ a → a ≡ Sign sign.Open ∷ t → Several ReadsValue vs t u → ¬ (Begins (Sign sign.Close) u) → (relation : List ℕ) (row : List Value) → RowForm relation row s → ⊥
row_no_close s a t u n vs e f found bad relation row h = bad ([], row_left s a t u n vs e f found relation row h)

pub row_no_end : (s a t u w : List Symbol) (n : List ℕ) (vs : List Value) → s ≡ Word n ∷ a → a ≡ Sign sign.Open ∷ t → Several ReadsValue vs t u → u ≡ Sign sign.Close ∷ w → ¬ (w ≡ []) → (relation : List ℕ) (row : List Value) → RowForm relation row s → ⊥
row_no_end s a t u w n vs e f found c bad relation row h = let l = row_left s a t u n vs e f found relation row h in bad (cc)

pub names_no_names : (s t : List Symbol) → s ≡ Sign sign.Open ∷ t → ((ns : List (List ℕ)) (r : List Symbol) → ¬ (Several ReadsName ns t r)) → (names : List (List ℕ)) → NamesForm names s → ⊥
names_no_names s t e bad names h =
    let b = h.begins in
    let at : h.rest ≡ t = cc in
    bad names (Sign sign.Close ∷ []) (subst (λ (x : List Symbol). Several ReadsName names x (Sign sign.Close ∷ [])) at h.reads)

names_left : (s t u : List Symbol) (ns : List (List ℕ)) → s ≡ Sign sign.Open ∷ t → Several ReadsName ns t u → (names : List (List ℕ)) → NamesForm names s → u ≡ Sign sign.Close ∷ []
names_left s t u ns e found names h =
    let b = h.begins in
    let at : h.rest ≡ t = cc in
    (several_unique ReadsName name_unique ns names t u (Sign sign.Close ∷ []) found (subst (λ (x : List Symbol). Several ReadsName names x (Sign sign.Close ∷ [])) at h.reads)).rest

pub names_no_close : (s t u : List Symbol) (ns : List (List ℕ)) → s ≡ Sign sign.Open ∷ t → Several ReadsName ns t u → ¬ (Begins (Sign sign.Close) u) → (names : List (List ℕ)) → NamesForm names s → ⊥
names_no_close s t u ns e found bad names h = bad ([], names_left s t u ns e found names h)

pub names_no_end : (s t u w : List Symbol) (ns : List (List ℕ)) → s ≡ Sign sign.Open ∷ t → Several ReadsName ns t u → u ≡ Sign sign.Close ∷ w → ¬ (w ≡ []) → (names : List (List ℕ)) → NamesForm names s → ⊥
names_no_end s t u w ns e found c bad names h = let l = names_left s t u ns e found names h in bad (cc)

pub condition_no_end : (s a t u : List Symbol) (n : List ℕ) (d : NamedCond) → s ≡ Word n ∷ a → a ≡ Word (codes "where") ∷ t → ReadsCond d t u → ¬ (u ≡ []) → (relation : List ℕ) (cond : NamedCond) → ConditionForm relation cond s → ⊥
condition_no_end s a t u n d e f found bad relation cond h =
    let b = h.begins in
    let at : h.rest ≡ t = cc in
    bad (same_cond d t u found cond [] (subst (λ (x : List Symbol). ReadsCond cond x []) at h.reads)).rest

pub condition_no_columns : (s a t u : List Symbol) (n : List ℕ) (d : NamedCond) → s ≡ Word n ∷ a → a ≡ Word (codes "where") ∷ t → ReadsCond d t u → are_columns d ≡ false → (relation : List ℕ) (cond : NamedCond) → ConditionForm relation cond s → ⊥
condition_no_columns s a t u n d e f found bad relation cond h =
    let b = h.begins in
    let at : h.rest ≡ t = cc in
    let same : d ≡ cond = (same_cond d t u found cond [] (subst (λ (x : List Symbol). ReadsCond cond x []) at h.reads)).cond in
    let one : are_columns cond ≡ false = ap are_columns (sym same) ∙ bad in
    let other : are_columns cond ≡ true = h.columns in
    cc
