pub mod Blame
mod Pieces
mod Exits
mod Wholes
mod Removals
mod Emptying
