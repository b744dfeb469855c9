pub mod Printing
mod Attacking
mod Blaming
mod Reporting
mod Rows
mod Summaries
mod Verdicts
