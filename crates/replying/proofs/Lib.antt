pub mod Turns
pub mod RepliesInto
pub mod OwnReply
