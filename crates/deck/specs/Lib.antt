pub mod Commands
pub mod Keywords
pub mod Lines
pub mod Names
pub mod Numbers
pub mod Readings
pub mod Words
