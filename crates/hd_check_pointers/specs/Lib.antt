pub mod Judging
pub mod Tables
pub mod Namings
pub mod Matched
pub mod Keys
pub mod Twins
pub mod Listed
