pub mod Base32
pub mod Gocryptfs
pub mod Cryptomator
pub mod Blocks
