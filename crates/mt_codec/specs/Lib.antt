pub mod Behind
pub mod Fields
