pub mod Contents
pub mod Built
pub mod Reasons
