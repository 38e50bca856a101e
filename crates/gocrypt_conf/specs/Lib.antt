-- The configuration of a gocryptfs vault (on-disk format 2), and its keys.
pub mod Keys
pub mod MasterKey
pub mod Fault
pub mod Fields
pub mod Tests
pub mod Text
pub mod Laws
pub mod Views
