pub mod Laws
pub mod Playing
pub mod Printing
pub mod Reading
pub mod Taking
pub mod Texts
