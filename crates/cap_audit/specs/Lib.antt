pub mod Findings
pub mod Alike
pub mod ObjectFields
pub mod Report
pub mod AuditLaws
