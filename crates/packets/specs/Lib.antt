pub mod Packet
pub mod Gap
pub mod Listing
