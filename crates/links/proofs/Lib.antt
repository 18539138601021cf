pub mod Kept
pub mod Segs
pub mod Walk
pub mod Holding
pub mod Moves
pub mod Back
