pub mod Derivations
pub mod Does
pub mod Examples
pub mod Laws
pub mod Protocols
pub mod ReportExamples
pub mod Samples
