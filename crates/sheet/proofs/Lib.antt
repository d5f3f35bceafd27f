mod Answered
mod Drawing
mod Entered
mod Loading
mod Pairs
mod Showing
mod Spends
