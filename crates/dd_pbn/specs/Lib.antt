pub mod Letters
pub mod Values
pub mod Deals
pub mod Reading
pub mod Examples
