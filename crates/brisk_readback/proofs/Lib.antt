pub mod Denoted
pub mod ReadExpressions
pub mod ReadPrograms
pub mod ReadSequential
pub mod Texts
