mod Masks
mod Undone
