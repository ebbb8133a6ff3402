-- What the kept terms of a query answer over stored rows.
-- read: the row has, at its essential columns, the values that one of its sources takes from some stored row
-- stored answer: the head's values under a valuation for which each row of a set is read
use Rattle.std.specs.Prelude.{◌≡◌, ◌<◌, ℕ, List, length, slice_get, Contains, Some}
use Rattle.std.specs.Int.{bit_at}
use Rattle.su_base.specs.declared.values.Value.{Value}
use Rattle.su_rel.specs.ExactRows.{AreExactlyRows}
use Rattle.su_tableau.specs.declared.symbols.Sym.{Sym}
use Rattle.su_tableau.specs.Tableaux.{Tab}
use Rattle.su_tableau.specs.Valuations.{value_of, IsHeadUnder, Cut}
use Rattle.su_tableau.specs.Essential.{HasSymbol, IsEssential}
use Rattle.su_schema.specs.SchemaValue.{ObjectEntry}
use Rattle.su_state.specs.DatabaseValue.{DatabaseValue, rows_of}
use Rattle.su_state.specs.Enforced.{read}
use Rattle.su_min.specs.Kept.{Minimised}
use Rattle.su_min.specs.Reduction.{term_at}
use Rattle.su_steps.specs.Sources.{IsSource}
use Rattle.su_answer.specs.declared.preparing.Prepared.{Prepared}

-- under the valuation row i, among the rows of m, is read
pub record IsRead (db : DatabaseValue) (t : Tab) (m : ℕ) (v : ℕ → Value) (i : ℕ) : Type 0 where
  pub source : ℕ
  pub is_source : IsSource db.schema t m i source
  pub object : ObjectEntry
  pub is : slice_get db.schema.objects source ≡ Some object
  pub row : List Value
  pub stored : Contains (rows_of db object.relation) row
  pub agrees : (c : ℕ) (x : Sym) → HasSymbol t m i c x → IsEssential t m i c → read object c row ≡ Some (value_of v x)

-- under the valuation each row of m is read
abbrev pub AreRowsRead : DatabaseValue → Tab → ℕ → (ℕ → Value) → Type 0
AreRowsRead db t m v = (i : ℕ) → i < length t.rows → bit_at m i ≡ 1 → IsRead db t m v i

-- h is a stored answer of the rows of m
abbrev pub StoredAnswer : DatabaseValue → Tab → ℕ → List Value → Type 0
StoredAnswer db t m h = IsHeadUnder (AreRowsRead db t m) t h

-- h has the outputs of a stored answer of the kept rows whose comparisons hold
abbrev pub IsTermAnswer : DatabaseValue → Minimised → List Value → Type 0
IsTermAnswer db m h = Cut m.tableau (StoredAnswer db m.tableau m.mask) h

-- h is an answer of some kept term
pub record IsAnswer (db : DatabaseValue) (p : Prepared) (h : List Value) : Type 0 where
  pub term : ℕ
  pub kept : Contains p.reduced.kept term
  pub answer : IsTermAnswer db (term_at p.minimals term) h

-- exactly these, ascending, each once
abbrev pub AreAnswers : DatabaseValue → Prepared → List (List Value) → Type 0
AreAnswers db p rows = AreExactlyRows (IsAnswer db p) rows
