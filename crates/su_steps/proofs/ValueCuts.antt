-- Cuts of value lists: the laws stand with the schema (su_schema Cuts).
pub use Rattle.su_schema.proofs.Cuts.{cut_agrees}
