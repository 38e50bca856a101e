-- The AES Key Wrap algorithm, as RFC 3394 defines it.
pub mod Wrap
pub mod Private
