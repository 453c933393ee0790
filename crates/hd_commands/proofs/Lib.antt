mod Saying
mod UnitSaying
mod UnitCommits
mod Units
pub mod Headline
mod Commits
