pub mod Records
pub mod Paths
pub mod Streams
