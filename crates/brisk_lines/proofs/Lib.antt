pub mod Cuts
pub mod Decimals
pub mod Differ
pub mod Ended
pub mod Plain
pub mod Sides
