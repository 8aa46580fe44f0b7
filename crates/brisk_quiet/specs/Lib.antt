pub mod Left
pub mod PieceStored
pub mod Quiet
pub mod Sample
pub mod Sender
pub mod Unsent
