pub mod Lines
pub mod Replies
pub mod Headline
pub mod MeasuredHeadline
pub mod Clauses
