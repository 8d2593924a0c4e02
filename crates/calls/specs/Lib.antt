pub mod Answers
pub mod Early
pub mod Making
pub mod Reading
pub mod Writing
pub mod Looking
