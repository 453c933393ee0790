pub mod Tables
pub mod Values
pub mod Shapes
pub mod Operands
pub mod Drafts
pub mod Sources
pub mod Laws
pub mod Refused
