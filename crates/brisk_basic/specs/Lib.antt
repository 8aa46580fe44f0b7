pub mod Basic
pub mod Outcomes
pub mod Steps
