mod Exact
pub mod Laws
mod Moves
pub mod Same
