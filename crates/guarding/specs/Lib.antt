pub mod Chains
pub mod InTurn
