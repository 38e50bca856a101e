-- Tests one after the other, the steps that the commands of a migration share, and how their faults are told.
pub mod Faults
pub mod Tests
pub mod Sides
pub mod Causes
pub mod Unchanged
pub mod Lasting
