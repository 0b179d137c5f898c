pub mod Control
pub mod Standing
