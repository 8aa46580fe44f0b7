pub mod Common
pub mod Folding
pub mod Places
