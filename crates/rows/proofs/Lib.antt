pub mod TextLaws
pub mod RowLaws
