pub mod Block
pub mod Laid
