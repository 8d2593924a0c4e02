pub mod FillLaws
pub mod Lengths
pub mod LaidLaws
pub mod ValueLaws
