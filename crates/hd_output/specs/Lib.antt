pub mod Gathered
pub mod Counts
