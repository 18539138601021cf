pub mod Oldest
pub mod Lottery
