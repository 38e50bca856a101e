pub mod Names
pub mod Order
pub mod Mapped
pub mod Shown
pub mod Reading
pub mod FirstByte
