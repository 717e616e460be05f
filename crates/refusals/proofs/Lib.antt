pub mod Deciding
pub mod Decided
pub mod PassedOn
