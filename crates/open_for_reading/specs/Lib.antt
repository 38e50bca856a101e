pub mod World
pub mod Carrying
pub mod Shown
pub mod Opening
pub mod Tests
pub mod Places
pub mod Faults
pub mod Refusing
