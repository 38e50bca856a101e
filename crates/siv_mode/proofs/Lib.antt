mod Macs
mod LastStrings
mod Seals
mod SealedBytes
