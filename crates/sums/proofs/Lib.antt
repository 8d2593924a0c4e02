pub mod Folds
pub mod Gather
pub mod Moving
