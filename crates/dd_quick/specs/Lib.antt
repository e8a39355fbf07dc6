pub mod QuickTricks
pub mod Sharing
pub mod SecondHand
pub mod Seen
