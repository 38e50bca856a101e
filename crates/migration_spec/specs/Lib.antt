-- Migrations: the states in which they are guarded, what is safe, how far they have come, and items that are placed.
pub mod Guard
pub mod Alone
pub mod Placed
