pub mod Keys
pub mod Registers
pub mod Traps
