-- Believed
pub mod Numbers
pub mod Certificates
pub mod Marks
pub mod CertTexts
-- For bodies
pub mod Cells
pub mod Forms
pub mod Laws
pub mod NamedGains
pub mod Naming
pub mod Order
pub mod Parts
pub mod Reading
pub mod Rows
pub mod Shapes
pub mod Views
