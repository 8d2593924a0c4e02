pub mod Courses
pub mod Hosted
