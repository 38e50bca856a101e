pub mod Faults
pub mod Beginning
pub mod Refusing
pub mod Staying
