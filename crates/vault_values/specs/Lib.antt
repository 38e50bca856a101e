-- The values of vaults: the ids that are drawn for them.
pub mod Id
