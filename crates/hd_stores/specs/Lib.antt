pub mod Stores
pub mod Memory
pub mod Files
pub mod Fuses
pub mod Runs
pub mod AccessCounts
