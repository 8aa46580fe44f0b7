pub mod Begun
pub mod Given
pub mod Ordered
pub mod Starting
pub mod Walks
