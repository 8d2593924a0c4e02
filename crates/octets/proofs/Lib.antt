pub mod BytesLaws
pub mod NumberLaws
pub mod PartLaws
