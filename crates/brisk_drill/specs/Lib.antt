pub mod Drill
pub mod Examples
