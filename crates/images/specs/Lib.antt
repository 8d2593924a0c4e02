pub mod ReaderImage
pub mod Held
