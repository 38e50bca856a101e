pub mod Eme
