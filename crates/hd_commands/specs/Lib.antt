pub mod Lines
pub mod Refusals
pub mod Commands
pub mod Plays
pub mod Headline
pub mod Units
pub mod Crashes
