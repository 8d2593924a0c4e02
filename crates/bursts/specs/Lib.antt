pub mod Burst
pub mod Bursts
