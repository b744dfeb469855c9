-- Believed
pub mod FullSources
-- For bodies, and believed by who reads what is said of all priors
pub mod Priors
pub mod Covering
pub mod Laws
-- For bodies
pub mod Literals
