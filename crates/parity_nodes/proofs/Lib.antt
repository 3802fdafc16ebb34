pub mod SumNodes
pub mod SumParts
