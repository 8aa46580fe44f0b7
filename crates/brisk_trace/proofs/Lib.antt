pub mod Deadlocked
pub mod Follows
pub mod Histories
pub mod Instances
pub mod Kept
pub mod Nexts
pub mod Steady
pub mod Watched
