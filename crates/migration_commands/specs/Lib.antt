pub mod Moving
pub mod Migrate
pub mod Resume
pub mod Retire
pub mod History
