mod Strings
mod StepLemmas
mod NameTables
mod States
mod FileNodes
mod Others
mod Entries
mod Crashes
pub mod Counting
pub mod ByFault
