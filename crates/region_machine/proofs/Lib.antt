pub mod KeptRegistersStay
pub mod CarriedToEnds
pub mod OutputGrows
pub mod RangesStayInside
pub mod NoExitInside
pub mod Stillness
pub mod ObserverAnswers
pub mod GuardCalls
pub mod PairMemory
pub mod PairCalls
pub mod NextTurns
pub mod Marking
mod SlicePatterns
