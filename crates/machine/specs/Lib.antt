pub mod Loads
pub mod Models
pub mod Calls
