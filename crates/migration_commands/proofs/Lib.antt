mod Carrying
mod Migrations
mod Retirings
mod Histories
mod Rows
mod ToldRows
