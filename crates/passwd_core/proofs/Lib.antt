mod Vaults
mod Drawn
pub mod Rekeyed
mod Changed
