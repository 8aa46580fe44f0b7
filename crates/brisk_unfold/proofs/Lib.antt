pub mod Canonical
pub mod Choosing
pub mod Leading
pub mod Looping
pub mod Marking
pub mod Stepping
