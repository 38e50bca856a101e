mod Base64
pub mod Objects
mod Plain
mod Symbols
pub mod Texts
