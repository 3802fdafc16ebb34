pub mod Placed
pub mod ClauseDiagram
pub mod Term
pub mod Recovery
pub mod Walk
pub mod ToldUnit
