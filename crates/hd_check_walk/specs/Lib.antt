pub mod Walks
pub mod Reading
pub mod Notes
pub mod Twins
pub mod Forms
pub mod GoingOn
