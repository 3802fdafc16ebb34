pub mod Hypergraph
pub mod Completion
