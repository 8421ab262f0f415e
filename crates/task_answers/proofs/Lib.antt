pub mod Judgements
pub mod TrialRuns
pub mod FindingLines
pub mod TableRules
pub mod Certified
pub mod BoundAnswers
