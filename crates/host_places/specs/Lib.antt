pub mod Causes
pub mod Noted
pub mod Places
