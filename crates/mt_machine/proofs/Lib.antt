pub mod Blank
pub mod Fronts
pub mod Moments
pub mod Pieces
pub mod Steps
