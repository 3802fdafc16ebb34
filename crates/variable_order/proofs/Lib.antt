pub mod KeptVariables
