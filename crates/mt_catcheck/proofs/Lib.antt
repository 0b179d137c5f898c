pub mod Apart
pub mod Judged
