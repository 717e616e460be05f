pub mod Zero
pub mod BigEndian
