pub mod OneLine
pub mod Readings
pub mod FormStatuses
pub mod FineAnswers
pub mod ShortSecrets
pub mod Headlines
pub mod WholeReplies
pub mod Wanted
