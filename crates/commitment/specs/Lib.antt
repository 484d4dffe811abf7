pub mod Sent
pub mod Commitment
pub mod Rebuild
pub mod Rooms
pub mod Private
pub mod Mail
