pub mod Derives
pub mod Faithful
pub mod Following
pub mod Heads
pub mod Reports
pub mod Rules
pub mod Standing
pub mod Unfolding
