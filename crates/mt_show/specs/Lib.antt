pub mod Shown
pub mod Spaced
pub mod Text
pub mod Statements
pub mod Printing
