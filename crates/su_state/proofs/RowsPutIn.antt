-- Rows that all differ, put in one after another, are the rows that are there.
use Rattle.std.proofs.Common.{◌≡◌, ◌+◌, ℕ, List, [], ◌∷◌, ◌++◌, length, refl, sym, subst, ◌∙◌, inl, inr, append-nil, append_assoc, arith}
use Rattle.std.proofs.lemmas.List.{length-append, get_or_append_left, get_or_at}
use Rattle.su_base.specs.declared.values.Value.{Value}
use Rattle.su_rel.specs.Changes.{PutInAll}
use Rattle.su_base.specs.Lists.{AllDiffer}
use Rattle.su_rel.specs.Stored.{Stored, IsRelation}

pub put_all : (rows old new : List (List Value)) → AllDiffer (old ++ rows) → PutInAll old rows new → new ≡ old ++ rows
put_all [] old new differ same = same ∙ sym (append-nil old)
put_all (row ∷ rows) old new differ (between, inl (there, same), rest) =
    let k : ℕ = there.0 in
    let many : length (old ++ row ∷ rows) ≡ length old + length (row ∷ rows) = length-append old (row ∷ rows) in
    absurd (differ k (length old) row there.1 (omega arith) (get_or_append_left old (row ∷ rows) row k there.1 ∙ there.2 ∙ sym (get_or_at old row rows row (length old) refl)))
put_all (row ∷ rows) old new differ (between, inr (out, is), rest) =
    let assoc : (old ++ row ∷ []) ++ rows ≡ old ++ row ∷ rows = append_assoc old (row ∷ []) rows in
    put_all rows (old ++ row ∷ []) new (subst AllDiffer (sym assoc) differ) (subst (λ (b : List (List Value)). PutInAll b rows new) is rest) ∙ assoc

-- a table without rows into which the rows of another are put becomes equal to it
pub copied_is : (table start new : Stored) (rows : List (List Value)) → IsRelation table → rows ≡ table.rows → start.width ≡ table.width → start.rows ≡ [] → new.width ≡ start.width → PutInAll start.rows rows new.rows → new ≡ table
copied_is table start new rows relation same width none kept put =
    let all : new.rows ≡ table.rows =
    put_all table.rows [] new.rows relation.differ (subst (λ (rs : List (List Value)). PutInAll [] rs new.rows) same (subst (λ (old : List (List Value)). PutInAll old rows new.rows) none put)) in
    λ i. record { width = (kept ∙ width) i; rows = all i }
