pub mod Facts
pub mod Laws
pub mod Learning
pub mod Stored
