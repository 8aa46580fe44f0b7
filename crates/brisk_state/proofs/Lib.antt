pub mod Absent
pub mod Entries
pub mod First
pub mod Kept
pub mod Numbers
pub mod Places
pub mod Sampled
pub mod Threads
