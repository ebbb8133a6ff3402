-- The width of a schema; what a cut is stands with the schema (su_schema Cuts).
-- width: how many attributes there are
pub use Rattle.su_schema.specs.Cuts.{width}
