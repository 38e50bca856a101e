mod Looks
mod Picks
mod Changed
mod Steps
mod Restaged
mod Passed
mod Entered
mod Settings
