pub mod Fulfilled
pub mod Readings
pub mod Threads
