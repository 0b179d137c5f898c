pub mod Tokens
pub mod FirstToken
pub mod Reserved
