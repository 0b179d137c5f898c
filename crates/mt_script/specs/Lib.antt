pub mod Lines
pub mod Reader
pub mod Steps
pub mod TagLaws
pub mod Tags
pub use Rattle.mt_tree.specs.Replies
