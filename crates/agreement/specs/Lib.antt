pub mod Calls
pub mod Agreement
pub mod AgreedRoot
pub mod Broadcast
pub mod Faulty
