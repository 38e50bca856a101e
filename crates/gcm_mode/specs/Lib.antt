-- GCM as NIST SP 800-38D defines it, from the field up.
pub mod Field
pub mod Hash
pub mod Gcm
pub mod Private
pub mod Pairs
pub mod Tables
pub mod Products
