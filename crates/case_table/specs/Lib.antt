pub mod CaseRows
