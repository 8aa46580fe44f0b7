pub mod Counted
pub mod LeftOut
pub mod Walks
