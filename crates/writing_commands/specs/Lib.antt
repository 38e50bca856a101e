pub mod Faults
pub mod Init
pub mod Items
pub mod Mkdir
pub mod Passwd
pub mod Put
