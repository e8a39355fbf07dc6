pub mod Lists
pub mod Places
pub mod Slots
pub mod Told
pub mod Kept
pub mod CallerLemmas
