pub mod Digits
pub mod Intervals
pub mod Places
pub mod Decode
