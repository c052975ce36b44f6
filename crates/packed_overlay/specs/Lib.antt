pub mod Overlay
pub mod Pieces
