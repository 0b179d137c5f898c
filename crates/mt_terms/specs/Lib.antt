pub mod Condition
pub mod Descent
pub mod Expression
pub mod Follow
pub mod Inside
