pub mod Bytewise
pub mod Calls
