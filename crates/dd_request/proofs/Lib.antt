pub mod Openings
pub mod Parts
pub mod Regular
pub mod CardByCard
pub mod SameLaws
pub mod CallerLemmas
