mod Contents
mod Decryptions
mod Listings
mod Outcomes
mod Rows
mod WholeFiles
