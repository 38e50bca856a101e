pub mod Faults
pub mod Finding
pub mod Ls
pub mod Cat
pub mod Inputs
pub mod Decrypts
pub mod Streaming
pub mod DecryptFile
