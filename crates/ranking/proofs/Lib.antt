mod Chain
mod Firsts
mod Rows
