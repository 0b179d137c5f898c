pub mod Body
pub mod Command
pub mod Descent
pub mod Inside
pub mod Plain
