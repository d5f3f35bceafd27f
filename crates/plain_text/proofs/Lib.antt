mod Cuts
mod Ends
mod Rows
mod Values
