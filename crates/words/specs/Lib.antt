pub mod Forms
pub mod Modes
pub mod Class
pub mod Table
pub mod Checksum
pub mod Crc
pub mod Shifts
pub mod Polynomial
