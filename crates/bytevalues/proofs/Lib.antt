pub mod Batches
mod Beyond
mod Entries
