pub mod Functions
pub mod Names
pub mod Operations
pub mod Padding
pub mod Places
pub mod Values
