mod Holding
mod Variables
mod Inserting
mod Checking
mod Chosen
mod Comparing
mod Finding
pub mod Agreeing
mod Numbered
mod Listing
mod Remembering
mod TotalRows
mod Adding
mod Placing
mod Weighing
