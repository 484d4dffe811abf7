pub mod Terms
pub mod Claims
pub mod ReadAgain
pub mod LongestBook
pub mod AgreedRoot
pub mod OneSender
pub mod SittingNumber
pub mod SeenToCheat
