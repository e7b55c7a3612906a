-- What the contracts of print lines cite.
pub mod Scanning
pub mod KnownFields
pub mod Marks
pub mod Fields
pub mod KnownMarks
pub mod FieldRule
pub mod KnownRule
pub mod Printing
pub mod LineFields
pub mod Spilling
