pub mod WriterImage
pub mod Held
