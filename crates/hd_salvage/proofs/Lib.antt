pub mod Noting
pub mod PathRows
pub mod Keeping
pub mod OneVolume
pub mod Copying
