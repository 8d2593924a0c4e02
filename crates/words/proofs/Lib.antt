pub mod Xor
pub mod FormLaws
pub mod ClassLaws
pub mod TableLaws
pub mod SumLaws
pub mod CrcLaws
pub mod Shifts
pub mod PolynomialLaws
