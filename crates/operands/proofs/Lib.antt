mod Chains
mod Returning
