-- Plans of vaults and their digests, what is found in one directory, and what a survey of a vault gives.
pub mod Digest
pub mod Found
pub mod Here
pub mod Survey
pub mod Walking
pub mod Answers
pub mod Names
pub mod Nodes
pub mod Report
pub mod Extras
pub mod Surveyed
pub mod Levels
pub mod Apart
