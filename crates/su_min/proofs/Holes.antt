-- Passed on to the crates above: so many numbers need so many holes, where no two share one.
pub use Rattle.su_base.proofs.Numbers.{pigeonhole}
