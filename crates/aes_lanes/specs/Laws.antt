-- The lemmas by which each key of AES meets the laws of a block cipher, and those of counter mode.
pub mod Sums
pub mod Field
pub mod Columns
pub mod Rounds
pub mod Cipher
pub mod Counter
