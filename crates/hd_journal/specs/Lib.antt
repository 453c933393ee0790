pub mod Disk
pub mod Log
pub mod States
pub mod Framed
pub mod Finds
pub mod Journals
pub mod Shows
pub mod Past
