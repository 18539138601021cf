pub mod Uses
pub mod Marks
pub mod Named
pub mod Moves
pub mod Bytes
