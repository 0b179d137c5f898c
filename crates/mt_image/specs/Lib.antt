pub mod Layouts
pub mod Fits
pub mod Rules
pub mod Image
