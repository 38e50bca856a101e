pub mod Places
pub mod Pieces
pub mod Published
pub mod Folders
pub mod Removal
