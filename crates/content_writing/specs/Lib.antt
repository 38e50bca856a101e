-- Contents that are given piece by piece, and written as content files.
pub mod Content
pub mod Laws
pub mod Writing
pub mod Streaming
