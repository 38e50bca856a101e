-- The configuration files of a Cryptomator vault (format 8), and its keys.
pub mod Fault
pub mod Combo
pub mod Keys
pub mod Master
pub mod Jwt
pub mod Vault
pub mod Signature
pub mod Text
pub mod Laws
pub mod Views
