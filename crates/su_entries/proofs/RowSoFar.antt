-- A row that is read value by value.
use Rattle.std.proofs.Common.{◌≡◌, ◌<◌, ◌+◌, ℕ, List, [], ◌∷◌, ◌++◌, length, take, sym, ap, subst, ◌∙◌}
use Rattle.std.proofs.lemmas.List.{take_more, map_push}
use Rattle.std.proofs.lemmas.List.Elements.{All-push}
use Rattle.su_base.specs.declared.values.Value.{Value as AValue}
use Rattle.sqlite_value.specs.declared.value.Value.TheVariants.{Null}
use Rattle.sqlite_value.specs.Order.{Row as Entry, column}
use Rattle.su_entries.specs.Entries.{value_of, entry_of, IsRowValue, HoldsRow}

pub one_more : (entry : Entry) (row pushed : List AValue) (at : ℕ) (v : AValue) → at < length entry → value_of v ≡ column entry at → pushed ≡ row ++ v ∷ [] → entry_of row ≡ take at entry
    → entry_of pushed ≡ take (at + 1) entry
one_more entry row pushed at v within is put read =
    ap entry_of put ∙ map_push value_of row v ∙ ap (λ front. front ++ value_of v ∷ []) read ∙ ap (λ x. take at entry ++ x ∷ []) is ∙ sym (take_more entry at Null within)

pub one_more_held : (entry : Entry) (at : ℕ) → at < length entry → IsRowValue (column entry at) → HoldsRow (take at entry) → HoldsRow (take (at + 1) entry)
one_more_held entry at within is held = subst HoldsRow (sym (take_more entry at Null within)) (All-push IsRowValue (take at entry) (column entry at) held is)
