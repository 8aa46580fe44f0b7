pub mod Broken
pub mod Longest
pub mod Seen
pub mod Spelled
pub mod Tokens
pub mod Vocabulary
