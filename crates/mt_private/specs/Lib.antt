pub mod Finding
pub mod Kept
pub mod Outcome
pub mod Seen
pub mod Serving
pub mod Stepped
pub mod Visible
