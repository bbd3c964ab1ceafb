pub mod Plain
pub mod Signed
pub mod Numbers
