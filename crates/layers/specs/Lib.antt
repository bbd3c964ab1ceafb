pub mod Pair
pub mod Ranges
pub mod Protection
pub mod Writing
