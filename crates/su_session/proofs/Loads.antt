-- A load is no other statement, and no text that is refused.
use Rattle.std.proofs.Common.{◌≡◌, ◌≢◌, ℕ, List, None, inl, inr, sym, ap, ◌∙◌, subst}
use Rattle.su_lex.specs.declared.meaning.Symbol.{Symbol}
use Rattle.su_lex.proofs.Written.{one_list_of_symbols}
use Rattle.su_query.specs.declared.faults.QueryFault.{QueryFault}
use Rattle.su_query.specs.declared.faults.QueryFault.TheVariants.{Syntax, Limit, NoMemory, Unknown, Kinds, UnknownColumn}
use Rattle.su_query.specs.declared.faults.QueryLimit.TheVariants.{Nesting, Variables, Outputs, Comparisons}
use Rattle.su_query.specs.declared.statements.Statement.{Statement}
use Rattle.su_query.specs.declared.statements.Statement.TheVariants.{Load}
use Rattle.su_lex.specs.Nesting.{IsDeep}
use Rattle.su_query.specs.Forms.{IsForm}
use Rattle.su_query.specs.StatementTexts.{IsStatement, IsTextRefusal}
use Rattle.su_query.specs.Limits.{PartsPass, parts_of}
use Rattle.su_query.proofs.Uniqueness.{statement_unique}
use Rattle.su_state.specs.DatabaseValue.{DatabaseValue}
use Rattle.su_session.specs.RowStatements.{relation_number}
use Rattle.su_session.specs.WantedFiles.{IsLoad}

-- a load passes no limit
passes_none : (name path : List ℕ) (st : Statement) → st ≡ Load name path → (fault : QueryFault) → PartsPass (parts_of st) fault → ⊥
passes_none name path st e fault h = subst (λ (s : Statement). PartsPass (parts_of s) fault) e h

-- a text that is a load is not refused
refused_load : (text name path : List ℕ) → IsStatement text (Load name path) → (fault : QueryFault) → IsTextRefusal text fault → ⊥
refused_load text name path is Syntax (inl none) = none is.symbols is.spelled
refused_load text name path is Syntax (inr (symbols, spelled, shallow, formless)) =
    formless (Load name path) (subst (λ (s : List Symbol). IsForm (Load name path) s) (one_list_of_symbols text is.symbols symbols is.spelled spelled).0 is.form)
refused_load text name path is (Limit Nesting) (symbols, spelled, deep) = is.shallow (subst IsDeep (one_list_of_symbols text symbols is.symbols spelled is.spelled).0 deep)
refused_load text name path is (Limit Variables) (st, other, h) = passes_none name path st (statement_unique text (Load name path) st is other) (Limit Variables) h
refused_load text name path is (Limit Outputs) (st, other, h) = passes_none name path st (statement_unique text (Load name path) st is other) (Limit Outputs) h
refused_load text name path is (Limit Comparisons) (st, other, h) = passes_none name path st (statement_unique text (Load name path) st is other) (Limit Comparisons) h
refused_load text name path is NoMemory h = h
refused_load text name path is (Unknown n) h = h
refused_load text name path is (Kinds l r) h = h
refused_load text name path is (UnknownColumn n) h = h

module _ (db : DatabaseValue) (text : List ℕ) where
  pub refused_wants_nothing : (fault : QueryFault) → IsTextRefusal text fault → (path : List ℕ) → ¬ IsLoad db text path
  refused_wants_nothing fault refusal path (name, r, is, known) = refused_load text name path is fault refusal

  pub other_wants_nothing : (st : Statement) → ((other : Statement) → IsStatement text other → other ≡ st) → ((name path : List ℕ) → st ≢ Load name path) → (path : List ℕ) → ¬ IsLoad db text path
  other_wants_nothing st only no_load path (name, r, is, known) = no_load name path (sym (only (Load name path) is))

  pub unknown_wants_nothing : (relation file : List ℕ) → ((other : Statement) → IsStatement text other → other ≡ Load relation file) → relation_number db relation ≡ None → (path : List ℕ) → ¬ IsLoad db text path
  unknown_wants_nothing relation file only unknown path (name, r, is, known) =
      let e : Load name path ≡ Load relation file = only (Load name path) is in
      let same : name ≡ relation = cc in
      let none : relation_number db name ≡ None = ap (relation_number db) same ∙ unknown in
      absurd (cc)
