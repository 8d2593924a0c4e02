pub mod Bytewise
pub mod Laid
