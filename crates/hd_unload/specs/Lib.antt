pub mod Streams
pub mod Loads
pub mod Paths
pub mod Steps
pub mod Refusals
pub mod Unloads
pub mod Laws
