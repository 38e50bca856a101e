mod Steps
mod Wraps
