pub mod Demonstration
pub mod Contents
pub mod Laws
pub mod Tree
pub mod Drawing
pub mod Making
pub mod Sharing
