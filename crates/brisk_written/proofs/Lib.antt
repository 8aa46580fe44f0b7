pub mod Determined
pub mod Inside
pub mod Keeping
pub mod Numbered
pub mod Sources
pub mod Written
