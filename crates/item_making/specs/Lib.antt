-- What it is to make one item in a vault: what is made, what each view of the folder shows meanwhile, and what may be answered.
pub mod Ending
pub mod Faults
pub mod Trees
pub mod Making
pub mod Placing
