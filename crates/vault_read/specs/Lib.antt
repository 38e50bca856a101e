-- Vaults as they are opened and read through a folder.
pub mod Opened
pub mod Looking
pub mod Items
pub mod Loading
pub mod Stands
pub mod Finding
pub mod Contents
pub mod Reading
pub mod OwnFolders
pub mod Laws
pub mod Listing
