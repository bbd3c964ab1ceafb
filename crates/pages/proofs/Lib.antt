pub mod Kept
pub mod Places
pub mod Reaching
