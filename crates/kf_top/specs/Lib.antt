-- Believed
pub mod Ends
pub mod Outcome
pub mod Answer
-- For bodies
pub mod CapacityViews
pub mod Steps
pub mod Stops
pub mod TaskAnswers
pub mod Views
pub mod Written
