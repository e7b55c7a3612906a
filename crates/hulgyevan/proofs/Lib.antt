-- The laws of the calls for C, from the lowest up.
pub mod WordLaws
pub mod WordTheorem
pub mod BackTheorem
pub mod OutcomeLaws
pub mod OutcomeTheorem
pub mod PlaceLaws
pub mod PlaceEntryLaws
pub mod PlaceFileLaws
pub mod PlaceTheorem
pub mod CutLaws
pub mod BothLaws
pub mod AloneLaws
pub mod CallLaws
pub mod LineLaws
pub mod RollLaws
pub mod EnterLaws
pub mod FileLaws
