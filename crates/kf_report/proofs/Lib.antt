mod Crossing
mod Leaks
mod Lowest
mod Ratios
mod Sums
mod Uniqueness
