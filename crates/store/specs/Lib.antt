pub mod Counting
pub mod Meaning
pub mod Refusals
pub mod Uses
pub mod Sized
pub mod Memory
pub mod Splices
pub mod Copies
