-- Vaults that are compared by their plans, and plans whose names a rule maps.
pub mod Comparing
pub mod Matching
pub mod Mapping
pub mod Pieces
pub mod Trees
