mod Checked
mod OneAnswer
mod ReadBack
mod SealedBytes
mod Sealing
mod Value
mod Written
