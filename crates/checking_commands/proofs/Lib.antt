mod Checks
mod Lines
mod Repairs
mod Rows
