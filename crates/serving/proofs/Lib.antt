pub mod Payloads
pub mod OwnPayload
pub mod Serving
pub mod EachActs
pub mod OneTurn
pub mod Taken
pub mod Kept
pub mod OwnRecord
