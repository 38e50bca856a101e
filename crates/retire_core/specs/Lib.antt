-- Retiring a source: what is removed and when, why it is refused, and how the faults are told.
pub mod Faults
pub mod Retiring
pub mod Guarding
pub mod Clearing
pub mod Causes
pub mod Completing
