pub mod Meaning
pub mod Core
pub mod Lent
pub mod Plain
pub mod Packed
pub mod Writing
pub mod Bytes
