-- Replies that tell the same are equal.
use Rattle.std.proofs.Common.{◌≡◌, ℕ, Bool, true, false, List, Result, Ok, Err, refl, sym, ◌∙◌, subst}
use Rattle.su_rel.specs.Stored.{Stored}
use Rattle.su_state.specs.declared.faults.StateFault.{StateFault}
use Rattle.su_state.specs.declared.faults.LoadEnd.{LoadEnd}
use Rattle.su_state.specs.declared.faults.LoadEnd.TheVariants as load
use Rattle.su_state.specs.declared.faults.DefineFault.{DefineFault}
use Rattle.su_state.specs.DatabaseValue.{DatabaseValue}
use Rattle.su_show.specs.declared.statement_refusal.Refusal.{Refusal}
use Rattle.su_show.specs.declared.statement_refusal.Refusal.TheVariants.{State, Record, Define}
use Rattle.su_show.specs.RefusalLines.{IsRefusalLine}
use Rattle.su_show.proofs.RefusalLines.{one_line as same_line}
use Rattle.su_session.specs.declared.replies.Reply.{Reply}
use Rattle.su_session.specs.Outcomes.{Accepts, Refuses, TellsInsert, TellsDelete, TellsLoad, TellsDefine}
use Rattle.su_once.specs.States.{AreAlike}

pub accept : (r s : Reply) (text other : List ℕ) → Accepts text r → Accepts other s → text ≡ other → r ≡ s
accept r s text other h k same =
    let refused = h.accepted ∙ sym k.accepted in
    let bytes = h.text_is ∙ same ∙ sym k.text_is in
    λ i. record { refused = refused i; bytes = bytes i }

-- over two databases of one schema
module _ (a : DatabaseValue) (tables : List Stored) (r s : Reply) (c d : DatabaseValue) where
  abbrev b : DatabaseValue
  b = record { schema = a.schema; tables = tables }

  pub one_line : (why other : Refusal) → Refuses a why r c → Refuses b other s d → why ≡ other → r ≡ s
  one_line why other h k same =
      let refused = h.refused ∙ sym k.refused in
      let bytes = same_line a.schema why r.bytes s.bytes h.line (subst (λ (w : Refusal). IsRefusalLine a.schema w s.bytes) (sym same) k.line) in
      λ i. record { refused = refused i; bytes = bytes i }

  pub still : AreAlike a b → c ≡ a → d ≡ b → AreAlike c d
  still alike one other = subst (λ (v : DatabaseValue). AreAlike v d) (sym one) (subst (λ (v : DatabaseValue). AreAlike a v) (sym other) alike)

  pub refuse : AreAlike a b → (why other : Refusal) → Refuses a why r c → Refuses b other s d → why ≡ other → (r ≡ s) × AreAlike c d
  refuse alike why other h k same = (one_line why other h k same, still alike h.same k.same)

  pub one_insert_told : (x : Result Bool StateFault) → TellsInsert a x r c → TellsInsert b x s d → r ≡ s
  one_insert_told (Ok true) h k = accept r s _ _ h k refl
  one_insert_told (Ok false) h k = accept r s _ _ h k refl
  one_insert_told (Err fault) h k = one_line (State fault) (State fault) h k refl

  pub one_delete_told : (x : Result Bool StateFault) → TellsDelete a x r c → TellsDelete b x s d → r ≡ s
  one_delete_told (Ok true) h k = accept r s _ _ h k refl
  one_delete_told (Ok false) h k = accept r s _ _ h k refl
  one_delete_told (Err fault) h k = one_line (State fault) (State fault) h k refl

  pub one_load_told : (records : ℕ) (x : Result ℕ LoadEnd) → TellsLoad a records x r c → TellsLoad b records x s d → r ≡ s
  one_load_told records (Ok count) h k = accept r s _ _ h k refl
  one_load_told records (Err (load.Refused fault)) h k = one_line (Record fault) (Record fault) h k refl
  one_load_told records (Err load.NoMemory) h k = absurd h

  pub one_definition_told : (x : Result (Unit {0}) DefineFault) → TellsDefine a x r c → TellsDefine b x s d → r ≡ s
  one_definition_told (Ok i) h k = accept r s _ _ h k refl
  one_definition_told (Err fault) h k = one_line (Define fault) (Define fault) h k refl
