-- Making the items of vaults: what a crash may leave, what is written and drawn, and why a call refuses.
pub mod Faults
pub mod Refusing
pub mod Editing
pub mod Calls
pub mod Slots
pub mod Filing
pub mod Showing
pub mod Founding
pub mod ContentsComing
pub mod HeldChunks
pub mod VaultContents
