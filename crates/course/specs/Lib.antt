pub mod Course
pub mod Looks
