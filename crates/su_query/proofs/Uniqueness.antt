-- A text is one statement at most.
use Rattle.std.proofs.Common.{◌≡◌, inl, inr, ℕ, List, [], ◌∷◌, ap, sym, ◌∙◌, subst}
use Rattle.su_base.specs.declared.values.Value.{Value}
use Rattle.su_lex.proofs.Written.{one_list_of_symbols}
use Rattle.su_lex.specs.declared.signs.Sign.TheVariants as sign
use Rattle.su_lex.specs.declared.meaning.Symbol.{Symbol}
use Rattle.su_lex.specs.declared.meaning.Symbol.TheVariants.{Word, Sign}
use Rattle.su_query.specs.Refs.{NamedCond}
use Rattle.su_query.specs.declared.statements.Query.{Query}
use Rattle.su_query.specs.declared.statements.Statement.{Statement}
use Rattle.su_query.specs.declared.statements.Statement.TheVariants.{Insert, Delete, DeleteWhere, Load, Print, Closure, Retrieve, Explain, Certify, Support, Compare, Window}
use Rattle.su_query.specs.inside.Fronts.{opens_second}
use Rattle.su_query.specs.inside.ReadItems.{Several, ReadsName, ReadsValue}
use Rattle.su_query.specs.inside.ReadConditions.{ReadsCond}
use Rattle.su_query.specs.inside.ReadForms as g
use Rattle.su_query.specs.inside.ReadRelations.{RowForm, ConditionForm, FileForm, NamesForm}
use Rattle.su_query.specs.inside.ReadForms.{ReadsForm}
use Rattle.su_query.specs.declared.faults.QueryFault.{QueryFault}
use Rattle.su_query.specs.declared.faults.QueryFault.TheVariants.{Syntax, Limit, NoMemory, Unknown, Kinds, UnknownColumn}
use Rattle.su_query.specs.declared.faults.QueryLimit.TheVariants.{Nesting, Variables, Outputs, Comparisons}
use Rattle.su_query.specs.Forms.{IsForm}
use Rattle.su_query.specs.StatementTexts.{IsStatement, IsTextRefusal}
use Rattle.su_query.specs.Limits.{Passes, PartsPass, parts_of}
use Rattle.su_query.proofs.Items.{name_unique, value_unique}
use Rattle.su_query.proofs.Listed.{several_unique}
use Rattle.su_query.proofs.Queries.{query_unique, pair_unique}
use Rattle.su_query.proofs.Readable.{form_readable}
use Rattle.su_query.proofs.Unique.{same_cond}
use Rattle.su_query.proofs.Exits.{insert_inv, delete_inv, load_inv, print_inv, schema_inv, closure_inv, retrieve_inv, explain_inv, certify_inv, support_inv, compare_inv, window_inv, no_query_with, no_query_from, condition_not_row}

row_unique : (n m : List ℕ) (v w : List Value) (s : List Symbol) → RowForm n v s → RowForm m w s → (n ≡ m) × (v ≡ w)
row_unique n m v w s h k =
    let a = h.begins in
    let b = k.begins in
    let at : k.values ≡ h.values = cc in
    let name : n ≡ m = cc in
    (name, (several_unique ReadsValue value_unique v w h.values _ _ h.reads (subst (λ (x : List Symbol). Several ReadsValue w x (Sign sign.Close ∷ [])) at k.reads)).item)

condition_unique : (n m : List ℕ) (c d : NamedCond) (s : List Symbol) → ConditionForm n c s → ConditionForm m d s → (n ≡ m) × (c ≡ d)
condition_unique n m c d s h k =
    let a = h.begins in
    let b = k.begins in
    let at : k.rest ≡ h.rest = cc in
    let name : n ≡ m = cc in
    (name, (same_cond c h.rest [] h.reads d [] (subst (λ (x : List Symbol). ReadsCond d x []) at k.reads)).cond)

file_unique : (n m f g' : List ℕ) (s : List Symbol) → FileForm n f s → FileForm m g' s → (n ≡ m) × (f ≡ g')
file_unique n m f g' s h k =
    let a = h.whole in
    let b = k.whole in
    let name : n ≡ m = cc in
    let file : f ≡ g' = cc in
    (name, file)

names_unique : (ns ms : List (List ℕ)) (s : List Symbol) → NamesForm ns s → NamesForm ms s → ns ≡ ms
names_unique ns ms s h k =
    let a = h.begins in
    let b = k.begins in
    let at : k.rest ≡ h.rest = cc in
    (several_unique ReadsName name_unique ns ms h.rest _ _ h.reads (subst (λ (x : List Symbol). Several ReadsName ms x (Sign sign.Close ∷ [])) at k.reads)).item

pub form_unique : (st other : Statement) (s : List Symbol) → ReadsForm st s → ReadsForm other s → other ≡ st
form_unique st other s (g.insert _ relation row _ t e w h) k =
    let i = insert_inv other s t w k in
    let p = row_unique relation i.0 row i.1 t h i.3 in
    i.2 ∙ ap (λ x. Insert x i.1) (sym p.0) ∙ ap (λ x. Insert relation x) (sym p.1) ∙ sym e
form_unique st other s (g.delete _ relation row _ t e w h) k = elim (delete_inv other s t w k) [
  | inl i ↦ let p = row_unique relation i.0 row i.1 t h i.3 in i.2 ∙ ap (λ x. Delete x i.1) (sym p.0) ∙ ap (λ x. Delete relation x) (sym p.1) ∙ sym e
  | inr i ↦ absurd (condition_not_row i.0 i.1 t i.3 (ap opens_second h.begins))
]
form_unique st other s (g.delete_where _ relation cond _ t e w h) k = elim (delete_inv other s t w k) [
  | inl i ↦ absurd (condition_not_row relation cond t h (ap opens_second i.3.begins))
  | inr i ↦ let p = condition_unique relation i.0 cond i.1 t h i.3 in i.2 ∙ ap (λ x. DeleteWhere x i.1) (sym p.0) ∙ ap (λ x. DeleteWhere relation x) (sym p.1) ∙ sym e
]
form_unique st other s (g.load _ relation file _ t e w h) k =
    let i = load_inv other s t w k in
    let p = file_unique relation i.0 file i.1 t h i.3 in
    i.2 ∙ ap (λ x. Load x i.1) (sym p.0) ∙ ap (λ x. Load relation x) (sym p.1) ∙ sym e
form_unique st other s (g.print _ relation _ e w named) k =
    let i = print_inv other s (Word relation ∷ []) w k in
    let at = i.2 in
    let same : i.0 ≡ relation = cc in
    i.1 ∙ ap Print same ∙ sym e
form_unique st other s (g.schema _ _ e w) k = (schema_inv other s [] w k).0 ∙ sym e
form_unique st other s (g.closure _ names _ t e w h) k =
    let i = closure_inv other s t w k in
    i.1 ∙ ap Closure (sym (names_unique names i.0 t h i.2)) ∙ sym e
form_unique st other s (g.retrieve _ q _ e h) k =
    let i = retrieve_inv other s (Sign sign.Open ∷ h.refs) h.begins k in
    i.1 ∙ ap Retrieve (sym (query_unique q i.0 s [] [] h i.2).item) ∙ sym e
form_unique st other s (g.explain _ q _ t e w h) k =
    elim (explain_inv other s t w k) [
      | inl i ↦ i.1 ∙ ap Explain (sym (query_unique q i.0 t [] [] h i.2).item) ∙ sym e
      | inr others ↦ elim others [
        | inl i ↦ absurd (no_query_with q t i.1 i.3 h)
        | inr i ↦ absurd (no_query_from q t i.1 i.3 h)
      ]
    ]
form_unique st other s (g.certify _ q _ t e w h) k =
    let i = certify_inv other s t w k in
    i.1 ∙ ap Certify (sym (query_unique q i.0 t [] [] h i.2).item) ∙ sym e
form_unique st other s (g.support _ q _ t e w h) k =
    let i = support_inv other s t w k in
    i.1 ∙ ap Support (sym (query_unique q i.0 t [] [] h i.2).item) ∙ sym e
form_unique st other s (g.compare _ first second _ t e w h) k =
    let i = compare_inv other s t w k in
    let p = pair_unique first second i.0 i.1 t h i.3 in
    i.2 ∙ ap (λ x. Compare x i.1) (sym p.0) ∙ ap (λ x. Compare first x) (sym p.1) ∙ sym e
form_unique st other s (g.window _ names _ t e w h) k =
    let i = window_inv other s t w k in
    i.1 ∙ ap Window (sym (names_unique names i.0 t h i.2)) ∙ sym e

pub statement_unique : (text : List ℕ) (st other : Statement) → IsStatement text st → IsStatement text other → other ≡ st
statement_unique text st other h k =
    let same = (one_list_of_symbols text k.symbols h.symbols k.spelled h.spelled).0 in
    form_unique st other h.symbols (form_readable st h.symbols h.form) (form_readable other h.symbols (subst (IsForm other) same k.form))

-- no limit has another cause
parts_pass_none : (fault : QueryFault) → ((q : Query) → Passes q.outputs q.cond fault → ⊥) → (qs : List Query) → PartsPass qs fault → ⊥
parts_pass_none fault bad [] p = p
parts_pass_none fault bad (q ∷ qs) (inl p) = bad q p
parts_pass_none fault bad (q ∷ qs) (inr (few, p)) = parts_pass_none fault bad qs p

-- a limit that is passed refuses the text
pub limit_refusal : (text : List ℕ) (st : Statement) (fault : QueryFault) → IsStatement text st → PartsPass (parts_of st) fault → IsTextRefusal text fault
limit_refusal text st Syntax h p = absurd (parts_pass_none Syntax (λ q passed. passed) (parts_of st) p)
limit_refusal text st (Limit Nesting) h p = absurd (parts_pass_none (Limit Nesting) (λ q passed. passed) (parts_of st) p)
limit_refusal text st (Limit Variables) h p = (st, h, p)
limit_refusal text st (Limit Outputs) h p = (st, h, p)
limit_refusal text st (Limit Comparisons) h p = (st, h, p)
limit_refusal text st NoMemory h p = parts_pass_none NoMemory (λ q passed. passed) (parts_of st) p
limit_refusal text st (Unknown name) h p = parts_pass_none (Unknown name) (λ q passed. passed) (parts_of st) p
limit_refusal text st (Kinds left right) h p = parts_pass_none (Kinds left right) (λ q passed. passed) (parts_of st) p
limit_refusal text st (UnknownColumn name) h p = parts_pass_none (UnknownColumn name) (λ q passed. passed) (parts_of st) p
