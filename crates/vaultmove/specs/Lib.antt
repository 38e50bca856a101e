pub mod Claims
pub mod Terminal
