pub mod Sight
pub mod Parts
pub mod Table
pub mod Carried
