-- Inserts one after another.
use Rattle.std.proofs.Common.{◌≡◌, ◌⊎◌, ◌<◌, ◌≤◌, ◌+◌, ℕ, Bool, true, false, List, [], ◌∷◌, ◌++◌, length, get_or, set, take, Ok, Err, refl, sym, ap, subst, ◌∙◌, inl, inr, arith}
use Rattle.std.proofs.lemmas.Bool.{cases_eq}
use Rattle.std.proofs.lemmas.List.{length-take, take-take, length-set, get_or-set_same, get_or-set_other, same_lists, get_or_default}
use Rattle.std.proofs.lemmas.Option.{slice_get-get_or, get_or_from_slice_get}
use Rattle.su_base.specs.declared.values.Value.{Value}
use Rattle.su_rel.specs.Stored.{Stored}
use Rattle.su_state.specs.DatabaseValue.{DatabaseValue, table_of, rows_of}
use Rattle.su_state.specs.Changes.{ChangesOnly}
use Rattle.su_state.specs.RowChanges.{Inserts}
use Rattle.su_state.specs.Loads.{InsertsAll, Loads, added_by}
use Rattle.su_state.specs.inside.LoadEnds.{IsEnd, InsertsSome}
use Rattle.su_state.specs.declared.faults.StateFault.{StateFault}
use Rattle.su_state.specs.declared.faults.StateFault.TheVariants.{NoMemory}
use Rattle.su_state.specs.declared.faults.LoadEnd.{LoadEnd}
use Rattle.su_state.specs.declared.faults.LoadEnd.TheVariants.{Refused, NoMemory as OutOfMemory}
use Rattle.su_state.proofs.Kept.{blank, with_table}

pub changes_nothing : (db new : DatabaseValue) (r : ℕ) → new ≡ db → ChangesOnly r db new
changes_nothing db new r same = rw same (record { schema = refl; tables = refl; width = refl; others = λ q apart. refl })

pub changes_then : (db mid new : DatabaseValue) (r : ℕ) → ChangesOnly r db mid → ChangesOnly r mid new → ChangesOnly r db new
changes_then db mid new r a b = record {
  schema = b.schema ∙ a.schema;
  tables = b.tables ∙ a.tables;
  width = b.width ∙ a.width;
  others = λ q apart. b.others q apart ∙ a.others q apart;
}

-- an accepted insert changes its relation only
pub changes_by_insert : (db new : DatabaseValue) (r : ℕ) (row : List Value) (is_new : Bool) → Inserts db r row (Ok is_new) new → ChangesOnly r db new
changes_by_insert db new r row true done = done.1.only
changes_by_insert db new r row false done = changes_nothing db new r done.1

pub inserts_none : (db new : DatabaseValue) (r : ℕ) → new ≡ db → InsertsAll db r [] 0 new
inserts_none db new r same = (refl, same)

-- one more insert at the end
pub inserts_push : (rows : List (List Value)) (db mid new : DatabaseValue) (r : ℕ) (row : List Value) (count : ℕ) (is_new : Bool) → InsertsAll db r rows count mid → Inserts mid r row (Ok is_new) new → InsertsAll db r (rows ++ row ∷ []) (count + added_by is_new) new
inserts_push [] db mid new r row count is_new (none, same) done =
    (new, is_new, 0, subst (λ (d : DatabaseValue). Inserts d r row (Ok is_new) new) same done, (refl, refl), omega (arith, none))
inserts_push (first ∷ rows) db mid new r row count is_new (between, was_new, more, head, tail, counted) done =
    (between, was_new, more + added_by is_new, head, inserts_push rows between mid new r row more is_new tail done, omega (arith, counted))

-- a front of a front
pub front_then : (old mid new : List (List Value)) → take (length old) mid ≡ old → take (length mid) new ≡ mid → take (length old) new ≡ old
front_then old mid new first second =
    let short : length old ≤ length mid = omega (arith, ap length first, length-take (length old) mid) in
    sym (take-take (length old) (length mid) new short) ∙ ap (take (length old)) second ∙ first

-- a database of which one table alone has changed, with this table put back
pub put_back : (db new : DatabaseValue) (r : ℕ) (table : Stored) → ChangesOnly r db new → r < length db.tables → table ≡ table_of db r → with_table new r table ≡ db
put_back db new r table only within same =
    let many : length (set new.tables r table) ≡ length db.tables = length-set new.tables r table ∙ only.tables in
    let all : set new.tables r table ≡ db.tables =
    same_lists (set new.tables r table) db.tables many
    (λ k d less. elim (cases_eq k r) [
      | inl is ↦ rw is (get_or-set_same new.tables r table d (omega (arith, within, only.tables)) ∙ same ∙ get_or_default db.tables r blank d within)
      | inr apart ↦
          let there : k < length db.tables = omega (arith, less, many) in
          get_or-set_other new.tables r k table d apart ∙ get_or_from_slice_get new.tables k (get_or db.tables k d) d (only.others k apart ∙ slice_get-get_or db.tables k d there)
    ]) in
    λ i. record { schema = only.schema i; tables = all i }

-- accepted inserts change their relation only
pub changes_by_inserts : (rows : List (List Value)) (db new : DatabaseValue) (r count : ℕ) → InsertsAll db r rows count new → ChangesOnly r db new
changes_by_inserts [] db new r count (none, same) = changes_nothing db new r same
changes_by_inserts (row ∷ rows) db new r count (between, is_new, more, head, tail, counted) = changes_then db between new r (changes_by_insert db between r row is_new head) (changes_by_inserts rows between new r more tail)

-- inserts that end at a refused row
pub refused_at : (db mid new : DatabaseValue) (r : ℕ) (rows before after : List (List Value)) (row : List Value) (count number : ℕ) (fault : StateFault) (end : LoadEnd) → InsertsAll db r before count mid → (fault ≡ NoMemory) ⊎ Inserts mid r row (Err fault) new → new ≡ mid → rows ≡ before ++ row ∷ after → number ≡ length before + 1 → IsEnd number fault end → InsertsSome db r rows (Err end) new
refused_at db mid new r rows before after row count number fault end accepted why same split numbered (inl (want, is)) =
    subst (λ (e : LoadEnd). InsertsSome db r rows (Err e) new) (sym is) (changes_then db mid new r (changes_by_inserts before db mid r count accepted) (changes_nothing mid new r same))
refused_at db mid new r rows before after row count number fault end accepted (inl want) same split numbered (inr (cause, is)) = absurd (cause want)
refused_at db mid new r rows before after row count number fault end accepted (inr refused) same split numbered (inr (cause, is)) =
    subst (λ (e : LoadEnd). InsertsSome db r rows (Err e) new) (sym is) (
      changes_then db mid new r (changes_by_inserts before db mid r count accepted) (changes_nothing mid new r same),
      record {
        before = before;
        row = row;
        after = after;
        count = count;
        between = mid;
        split = split;
        number = numbered;
        accepted = accepted;
        refused = subst (λ (d : DatabaseValue). Inserts mid r row (Err fault) d) same refused;
      },
    )

-- refused inserts change their relation only
pub changes_some : (db new : DatabaseValue) (r : ℕ) (rows : List (List Value)) (end : LoadEnd) → InsertsSome db r rows (Err end) new → ChangesOnly r db new
changes_some db new r rows OutOfMemory only = only
changes_some db new r rows (Refused refusal) (only, first) = only

-- and once the table is put back they are a refused load
pub load_refused : (db between new : DatabaseValue) (r : ℕ) (rows : List (List Value)) (end : LoadEnd) → InsertsSome db r rows (Err end) between → new ≡ db → (end ≡ OutOfMemory) ⊎ Loads db r rows (Err end) new
load_refused db between new r rows OutOfMemory only same = inl refl
load_refused db between new r rows (Refused refusal) (only, first) same = inr (first, same)

-- a database of which one table alone has changed, with the rows of it that were there and stand first
pub cut_off : (db new : DatabaseValue) (r : ℕ) (cut : Stored) (before : ℕ) → ChangesOnly r db new → r < length db.tables → before ≡ length (rows_of db r) → cut.width ≡ (table_of new r).width → cut.rows ≡ take before (rows_of new r) → take (length (rows_of db r)) (rows_of new r) ≡ rows_of db r → with_table new r cut ≡ db
cut_off db new r cut before only within many width rows front =
    put_back db new r cut only within (λ i. record { width = (width ∙ only.width) i; rows = (rows ∙ ap (λ (n : ℕ). take n (rows_of new r)) many ∙ front) i })
