-- What the contracts of record files cite.
pub mod Writing
pub mod RecordFile
pub mod Tables
pub mod Adding
pub mod Reserving
pub mod TwoCalls
pub mod KnownReservations
pub mod WholeLength
pub mod KnownWholeLengths
pub mod Listing
pub mod CheckedFile
pub mod EnteredBack
pub mod Entering
pub mod KnownEntries
