mod Cells
mod Listing
mod Parts
mod Secrets
