pub mod PacketLaws
pub mod PacketBack
pub mod ListLaws
pub mod ListingLaws
pub mod HeaderPacket
