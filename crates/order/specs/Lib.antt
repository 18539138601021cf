pub mod Views
pub mod Stands
pub mod Steps
