pub mod EmptyClauses
pub mod FlatFormula
pub mod NumberLemmas
pub mod ProofTextLemmas
pub mod TextLemmas
