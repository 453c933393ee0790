pub mod Cuts
pub mod Lasts
pub mod Ascii
pub mod WorkedSources
mod Orders
