pub mod VerdictLines
pub mod Reports
pub mod JsonReports
pub mod Private
