pub mod Runs
pub mod OrCache
pub mod Disjunction
pub mod ExistsCache
pub mod Quantification
pub mod SomeValues
pub mod RunsFor
pub mod SetQuantification
