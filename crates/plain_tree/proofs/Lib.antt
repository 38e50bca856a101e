mod Orders
mod Utf8
mod Writing
mod ReadsBack
mod Scalars
mod Mapping
