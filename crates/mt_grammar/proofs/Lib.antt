pub mod Insides
pub mod Statements
