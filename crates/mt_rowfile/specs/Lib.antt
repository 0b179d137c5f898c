pub mod Fields
pub mod Layouts
pub mod Pages
pub mod Slots
