pub mod OneRow
pub mod SumSizes
pub mod ReportSizes
pub mod GrandTotal
pub mod BufferSums
pub mod SumParts
