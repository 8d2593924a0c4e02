pub mod Systems
pub mod Timing
pub mod Fixed
pub mod Settings
pub mod Header
pub mod Layout
pub mod Check
pub mod Cuts
