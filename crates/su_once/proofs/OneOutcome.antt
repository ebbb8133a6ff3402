-- A text is read in one way, or refused for one cause.
use Rattle.std.proofs.Common.{◌≡◌, ℕ, List, [], ◌∷◌, Option, None, refl, ap, sym, ◌∙◌, subst, inl, inr, arith}
use Rattle.std.proofs.lemmas.Option.{none-some, same_Some}
use Rattle.std.specs.List.{AllByRecursion}
use Rattle.std.specs.Prelude.{option_map}
use Rattle.su_lex.specs.declared.meaning.Symbol.{Symbol}
use Rattle.su_lex.proofs.Written.{one_list_of_symbols}
use Rattle.su_ddl.proofs.Files.{one_outcome as same_outcome}
use Rattle.su_schema.specs.SchemaValue.{SchemaValue}
use Rattle.su_schema.specs.Entries.{attribute_names}
use Rattle.su_query.specs.declared.faults.QueryFault.{QueryFault}
use Rattle.su_query.specs.declared.faults.QueryFault.TheVariants.{Syntax, Limit, NoMemory, Unknown, Kinds, UnknownColumn}
use Rattle.su_query.specs.declared.faults.QueryLimit.{QueryLimit}
use Rattle.su_query.specs.declared.faults.QueryLimit.TheVariants.{Nesting, Variables, Outputs, Comparisons}
use Rattle.su_query.specs.declared.statements.Query.{Query}
use Rattle.su_query.specs.declared.statements.Statement.{Statement}
use Rattle.su_query.specs.Forms.{IsForm}
use Rattle.su_lex.specs.Nesting.{IsDeep}
use Rattle.su_query.specs.StatementTexts.{IsStatement, IsFormless, NestsTooDeep, IsTextRefusal}
use Rattle.su_query.specs.Limits.{Passes, PartsPass, AreFew, HasFew, parts_of}
use Rattle.su_query.specs.Scopes.{first_unknown_name}
use Rattle.su_query.specs.Sets.{IsNameRefusal}
use Rattle.su_query.proofs.Uniqueness.{statement_unique}
use Rattle.su_once.specs.Readings.{OneOutcome, OneStatement, OneRefusal, RefusedOrRead, OneQueryRefusal, QueryIsRefusedOrKnown, OneColumnRefusal, ConditionIsRefusedOrKnown}

pub one_outcome : OneOutcome
one_outcome file outcome other h k = same_outcome file outcome other h k

pub one_statement : OneStatement
one_statement text st other h k = sym (statement_unique text st other h k)

-- ---- formless, too deep, or a statement

deep_or_read : (text : List ℕ) (st : Statement) → NestsTooDeep text → IsStatement text st → ⊥
deep_or_read text st (symbols, spelled, deep) h = h.shallow (subst IsDeep (one_list_of_symbols text symbols h.symbols spelled h.spelled).0 deep)

formless_or_deep : (text : List ℕ) → IsFormless text → NestsTooDeep text → ⊥
formless_or_deep text (inl none) (symbols, spelled, deep) = none symbols spelled
formless_or_deep text (inr (others, read, shallow, none)) (symbols, spelled, deep) = shallow (subst IsDeep (one_list_of_symbols text symbols others spelled read).0 deep)

formless_or_read : (text : List ℕ) (st : Statement) → IsFormless text → IsStatement text st → ⊥
formless_or_read text st (inl none) h = none h.symbols h.spelled
formless_or_read text st (inr (others, read, shallow, none)) h =
    none st (subst (λ (s : List Symbol). IsForm st s) (one_list_of_symbols text h.symbols others h.spelled read).0 h.form)

-- ---- which limit is passed first

module _ (q : Query) where
  abbrev IsPassed : QueryFault → Type 0
  IsPassed fault = Passes q.outputs q.cond fault

  passed_or_few : (limit : QueryLimit) → IsPassed (Limit limit) → AreFew q.outputs q.cond → ⊥
  passed_or_few Variables h few = absurd (let upto = few.few_variables in omega (arith, h, upto))
  passed_or_few Outputs h few = absurd (let many = h.1 in let upto = few.few_outputs in omega (arith, many, upto))
  passed_or_few Comparisons h few = absurd (let many = h.2 in let upto = few.few_comparisons in omega (arith, many, upto))
  passed_or_few Nesting h few = absurd h

  one_limit : (x y : QueryLimit) → IsPassed (Limit x) → IsPassed (Limit y) → x ≡ y
  one_limit Variables Variables h k = refl
  one_limit Variables Outputs h k = absurd (let upto = k.0 in omega (arith, h, upto))
  one_limit Variables Comparisons h k = absurd (let upto = k.0 in omega (arith, h, upto))
  one_limit Outputs Variables h k = absurd (let upto = h.0 in omega (arith, k, upto))
  one_limit Outputs Outputs h k = refl
  one_limit Outputs Comparisons h k = absurd (let many = h.1 in let upto = k.1 in omega (arith, many, upto))
  one_limit Comparisons Variables h k = absurd (let upto = h.0 in omega (arith, k, upto))
  one_limit Comparisons Outputs h k = absurd (let many = k.1 in let upto = h.1 in omega (arith, many, upto))
  one_limit Comparisons Comparisons h k = refl
  one_limit Nesting y h k = absurd h
  one_limit Variables Nesting h k = absurd k
  one_limit Outputs Nesting h k = absurd k
  one_limit Comparisons Nesting h k = absurd k

-- of the parts of a statement, the first that passes one
parts_or_few : (qs : List Query) (limit : QueryLimit) → PartsPass qs (Limit limit) → AllByRecursion (λ q. AreFew q.outputs q.cond) qs → ⊥
parts_or_few [] limit h few = h
parts_or_few (q ∷ qs) limit (inl passed) few = passed_or_few q limit passed few.0
parts_or_few (q ∷ qs) limit (inr (kept, later)) few = parts_or_few qs limit later few.1

one_passed : (qs : List Query) (x y : QueryLimit) → PartsPass qs (Limit x) → PartsPass qs (Limit y) → x ≡ y
one_passed [] x y h k = absurd h
one_passed (q ∷ qs) x y (inl h) (inl k) = one_limit q x y h k
one_passed (q ∷ qs) x y (inl h) (inr (kept, later)) = absurd (passed_or_few q x h kept)
one_passed (q ∷ qs) x y (inr (kept, later)) (inl k) = absurd (passed_or_few q y k kept)
one_passed (q ∷ qs) x y (inr (kept, h)) (inr (also, k)) = one_passed qs x y h k

-- what a refusal says: no form, too deep, or a statement past a limit
pub data Cause (text : List ℕ) (why : QueryFault) : Type 0 where
  formless : IsFormless text → why ≡ Syntax → Cause text why
  deep : NestsTooDeep text → why ≡ Limit Nesting → Cause text why
  passes : (st : Statement) (limit : QueryLimit) → IsStatement text st → PartsPass (parts_of st) (Limit limit) → why ≡ Limit limit → Cause text why

cause_of : (text : List ℕ) (why : QueryFault) → IsTextRefusal text why → Cause text why
cause_of text Syntax h = formless h refl
cause_of text (Limit Nesting) h = deep h refl
cause_of text (Limit Variables) (st, is, passed) = passes st Variables is passed refl
cause_of text (Limit Outputs) (st, is, passed) = passes st Outputs is passed refl
cause_of text (Limit Comparisons) (st, is, passed) = passes st Comparisons is passed refl
cause_of text NoMemory h = absurd h
cause_of text (Unknown name) h = absurd h
cause_of text (Kinds left right) h = absurd h
cause_of text (UnknownColumn name) h = absurd h

one_cause : (text : List ℕ) (why other : QueryFault) → Cause text why → Cause text other → why ≡ other
one_cause text why other (formless h e) (formless k f) = e ∙ sym f
one_cause text why other (formless h e) (deep k f) = absurd (formless_or_deep text h k)
one_cause text why other (formless h e) (passes st limit k passed f) = absurd (formless_or_read text st h k)
one_cause text why other (deep h e) (formless k f) = absurd (formless_or_deep text k h)
one_cause text why other (deep h e) (deep k f) = e ∙ sym f
one_cause text why other (deep h e) (passes st limit k passed f) = absurd (deep_or_read text st h k)
one_cause text why other (passes st limit h passed e) (formless k f) = absurd (formless_or_read text st k h)
one_cause text why other (passes st limit h passed e) (deep k f) = absurd (deep_or_read text st k h)
one_cause text why other (passes st limit h passed e) (passes also more k past f) =
    let same : also ≡ st = statement_unique text st also h k in
    e ∙ ap Limit (one_passed (parts_of st) limit more passed (subst (λ (x : Statement). PartsPass (parts_of x) (Limit more)) same past)) ∙ sym f

pub one_refusal : OneRefusal
one_refusal text why other h k = one_cause text why other (cause_of text why h) (cause_of text other k)

refused_or_few : (text : List ℕ) (why : QueryFault) (st : Statement) → Cause text why → IsStatement text st → HasFew st → ⊥
refused_or_few text why st (formless h e) k few = formless_or_read text st h k
refused_or_few text why st (deep h e) k few = deep_or_read text st h k
refused_or_few text why st (passes also limit h passed e) k few =
    parts_or_few (parts_of st) limit (subst (λ (x : Statement). PartsPass (parts_of x) (Limit limit)) (statement_unique text st also k h) passed) few

pub not_refused : RefusedOrRead
not_refused text why st h k few = refused_or_few text why st (cause_of text why h) k few

-- ---- names

pub one_query_refusal : OneQueryRefusal
one_query_refusal schema q why other h k = same_Some why other (sym h ∙ k)

pub query_not_refused : QueryIsRefusedOrKnown
query_not_refused schema q why h known = none-some why (sym known ∙ h)

pub one_name_refusal : (schema : SchemaValue) (names : List (List ℕ)) (why other : QueryFault) → IsNameRefusal schema names why → IsNameRefusal schema names other → why ≡ other
one_name_refusal schema names why other h k = same_Some why other (sym h ∙ k)

pub names_not_refused : (schema : SchemaValue) (names : List (List ℕ)) (why : QueryFault) → IsNameRefusal schema names why → first_unknown_name (attribute_names schema) names ≡ None → ⊥
names_not_refused schema names why h known = none-some why (sym (ap (λ (o : Option (List ℕ)). option_map Unknown o) known) ∙ h)

pub one_column_refusal : OneColumnRefusal
one_column_refusal schema r c why other h k = same_Some why other (sym h ∙ k)

pub condition_not_refused : ConditionIsRefusedOrKnown
condition_not_refused schema r c why h known = none-some why (sym known ∙ h)
