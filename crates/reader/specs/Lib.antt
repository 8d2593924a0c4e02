pub mod Jump
pub mod State
pub mod Events
pub mod Reading
pub mod Numbers
pub mod Lending
pub mod Within
pub mod Asking
