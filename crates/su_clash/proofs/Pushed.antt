-- Members as readings: one more at the end, and one too many.
use Rattle.std.proofs.Common.{◌≡◌, ◌↔◌, ◌⊎◌, ◌≤◌, ℕ, inl, inr, Bool, List, [], ◌∷◌, ◌++◌, map, length, get_or, Contains, sym, ap, ◌∙◌, subst, arith}
use Rattle.std.specs.Prelude.{IsTrue, All}
use Rattle.std.proofs.Math.ListN.{get_or-map as map_read}
use Rattle.std.proofs.lemmas.List.{length-map, map-append}
use Rattle.std.proofs.lemmas.List.Elements.{All-contains}
use Rattle.su_base.specs.declared.values.Value.{Value}
use Rattle.su_base.proofs.Items.{All-members, Contains-map}
use Rattle.su_state.specs.DatabaseValue.{DatabaseValue}
use Rattle.su_window.specs.declared.readings.Reading.{Reading}
use Rattle.su_window.specs.Padded.{member_read, IsReading, AreReadings}
use Rattle.su_window.specs.inside.Readings.{lists_before, AreSoFar, Sees}
use Rattle.su_window.proofs.Counted.{many}
use Rattle.su_clash.specs.declared.members.Member.{Member}
use Rattle.su_clash.specs.declared.faults.ClashFault.{ClashFault}
use Rattle.su_clash.specs.declared.faults.ClashFault.TheVariants.{Limit, NoMemory}
use Rattle.su_clash.specs.Clash.{reading_of, IsClashRefusal}

abbrev pub nobody : Member
nobody = record { object = 0; position = 0 }

pub pushed : (members : List Member) (m : Member) (more : List Member) → more ≡ members ++ m ∷ [] → map reading_of more ≡ map reading_of members ++ reading_of m ∷ []
pushed members m more push = ap (λ (ms : List Member). map reading_of ms) push ∙ map-append reading_of members (m ∷ [])

pub reading_same : (members : List Member) (i : ℕ) → get_or (map reading_of members) i (record { object = 0; position = 0 }) ≡ reading_of (get_or members i nobody)
reading_same members i = map_read reading_of members i nobody

pub all_read : (db : DatabaseValue) (members : List Member) → AreReadings db (map reading_of members) → All (λ m. IsReading db (reading_of m)) members
all_read db members are = All-members (λ m. IsReading db (reading_of m)) members (λ m c. All-contains (IsReading db) (map reading_of members) (reading_of m) are.each (Contains-map reading_of members m c))

module _ (db : DatabaseValue) (r : Reading) (is : IsReading db r) (old new : List (List Value)) (values : List Value) (added : Bool) (sees : Sees old new values added) (values_is : values ≡ (member_read db r).values) (seen : (x : List Value) → Contains old x ↔ Contains (lists_before db r.object r.position) x) where
  new_list : IsTrue added → ¬ Contains (lists_before db r.object r.position) (member_read db r).values
  new_list t c = sees.new_one t ((seen values).1 (subst (Contains (lists_before db r.object r.position)) (sym values_is) c))

  module _ (members : List Member) (so_far : AreSoFar db r.object r.position (map reading_of members)) where
    pub refused : IsTrue added → (fault : ClashFault) → (fault ≡ NoMemory) ⊎ ((fault ≡ Limit) × (20000 ≤ length members)) → (fault ≡ NoMemory) ⊎ IsClashRefusal db fault
    refused t fault (inl none) = inl none
    refused t fault (inr (limit, full)) =
        let n = length-map members reading_of in
        inr (subst (IsClashRefusal db) (sym limit) (many db r.object r.position is.object is.position (map reading_of members) so_far (new_list t) (omega (arith, full, n))))
