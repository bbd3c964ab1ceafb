pub mod Seen
pub mod Writes
