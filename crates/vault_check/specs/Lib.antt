-- What a check of a vault reports, and what a repair does.
pub mod Answers
pub mod Checking
pub mod Contents
pub mod Orders
pub mod Repairing
pub mod Strays
