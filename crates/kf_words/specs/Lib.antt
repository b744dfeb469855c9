-- Believed
pub mod Task
pub mod Arguments
pub mod Numbers
pub mod GainWords
-- For bodies
pub mod CommandViews
pub mod Jobs
pub mod Laws
pub mod OfWords
