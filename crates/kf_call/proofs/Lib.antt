mod Found
mod Lines
mod Running
mod Walks
