pub mod Descent
pub mod Statement
