-- What an index holds: positions in order, each with the lead of the value in its row; and what is left of it when rows go.
-- entry: the position of a row, and the lead of its value; lead: a number of the value, the same for equal values; at: the value at each position
-- run: a list of entries; in order: by lead, then by value, then by position; kept: whether the row at each position stays
-- No public contract cites this module.
use Rattle.std.specs.Prelude.{ℕ, Bool, List, All, map, filter}
use Rattle.std.specs.List.Sorted.{IsStrictlySortedBy}
use Rattle.su_base.specs.declared.values.Value.{Value}
use Rattle.su_index.specs.declared.entry.Entry.{Entry}
use Rattle.su_index.specs.Entries.{positions}
use Rattle.su_index.specs.inside.Lead.{IsLead}
use Rattle.su_index.specs.inside.Order.{compare_places, IsIndex, IsRun}
use Rattle.su_index.specs.inside.Spans.{is_kept, rank_of}

-- each entry has the lead of the value in its row
abbrev pub HaveLeads : (ℕ → Value) → List Entry → Type 0
HaveLeads at run = All (λ e. IsLead e.lead (at e.position)) run

-- an index of entries
pub record IsIndexWithLeads (at : ℕ → Value) (n : ℕ) (run : List Entry) : Type 0 where
  pub order : IsIndex at n (positions run)
  pub leads : HaveLeads at run

-- the entries are in order
abbrev pub AreOrdered : (ℕ → Value) → List Entry → Type 0
AreOrdered at run = IsStrictlySortedBy (compare_places at) (positions run)

-- a run of entries
pub record IsRunWithLeads (at : ℕ → Value) (from : ℕ) (run : List Entry) : Type 0 where
  pub order : IsRun at from (positions run)
  pub leads : HaveLeads at run

-- the entry of a kept row, at the position that it comes to
abbrev pub kept_entry : List Bool → Entry → Entry
kept_entry kept e = record { lead = e.lead; position = rank_of kept e.position }

-- the entries of the kept rows, in the same order
abbrev pub kept_entries : List Bool → List Entry → List Entry
kept_entries kept run = map (kept_entry kept) (filter (λ e. is_kept kept e.position) run)
