pub mod Text
pub mod Refusals
pub mod Whole
pub mod Rewritten
pub mod Laws
