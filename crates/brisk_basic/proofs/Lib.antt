pub mod Known
pub mod Lent
pub mod Pairs
pub mod Passed
