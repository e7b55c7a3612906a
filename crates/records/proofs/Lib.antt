-- The laws of layer 3, from the lowest up.
pub mod WritingLaws
pub mod LineProofs
pub mod FileProofs
pub mod DemandTheorem
pub mod WholeReadTheorem
