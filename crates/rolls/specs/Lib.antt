pub mod Falling
pub mod Searching
pub mod Runs
pub mod Merging
pub mod MergedFiles
pub mod Finding
pub mod KnownSearches
pub mod KnownMerges
