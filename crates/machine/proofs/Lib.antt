mod Cores
mod Accepting
mod Loading
