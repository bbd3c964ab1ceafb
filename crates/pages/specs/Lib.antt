pub mod Limits
pub mod Settings
pub mod Pages
pub mod Relocation
pub mod View
pub mod Reach
