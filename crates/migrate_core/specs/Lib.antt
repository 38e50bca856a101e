-- Migrations: what they do at each moment, and how they answer.
pub mod Faults
pub mod Sides
pub mod Leading
pub mod Drawing
pub mod Sharing
pub mod Limits
pub mod Moving
pub mod Moved
pub mod Copying
pub mod Causes
pub mod Written
pub mod Completing
pub mod Lasting
