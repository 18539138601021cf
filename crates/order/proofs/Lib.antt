pub mod Standing
pub mod Dropping
