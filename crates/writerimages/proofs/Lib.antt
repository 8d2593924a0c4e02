pub mod KeptLaws
pub mod WriterLaws
