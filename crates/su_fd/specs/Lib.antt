pub mod Closure
pub mod Derivation
pub mod Laws
pub mod MetDependencies
