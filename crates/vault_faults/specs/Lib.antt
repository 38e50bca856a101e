-- Why calls refuse that look for a path of a vault or read a content of it.
pub mod Limits
pub mod Finding
pub mod Contents
