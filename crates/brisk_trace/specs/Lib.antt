pub mod Gathers
pub mod Plain
pub mod Standings
pub mod Watches
