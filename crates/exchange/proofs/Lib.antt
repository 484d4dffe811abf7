pub mod Sending
pub mod Slots
pub mod Writing
pub mod Rooms
