pub mod Over
pub mod Calls
pub mod Lists
pub mod Unlent
pub mod Given
pub mod Placed
