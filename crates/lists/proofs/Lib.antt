pub mod Tests
pub mod Refusals
pub mod Lists
pub mod Loops
pub mod Samples
pub mod Parts
