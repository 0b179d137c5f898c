mod Examples
pub mod Empty
pub mod Known
pub mod OneImage
pub mod Sound
