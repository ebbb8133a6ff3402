pub mod MadeSets
