pub mod Chains
pub mod Told
pub mod Passing
pub mod Unchanged
pub mod Lasting
