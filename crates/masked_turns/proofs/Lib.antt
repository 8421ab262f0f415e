pub mod OutsideMasks
pub mod LooksAgree
pub mod StepEnds
pub mod CutNumbers
pub mod GuestStates
pub mod PassedOutputs
pub mod PassedValues
pub mod NarrowMasks
