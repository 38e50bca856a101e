-- CMAC as RFC 4493 defines it, and S2V and SIV as RFC 5297 does.
pub mod Blocks
pub mod Cmac
pub mod S2v
pub mod Keys
pub mod Siv
pub mod Private
