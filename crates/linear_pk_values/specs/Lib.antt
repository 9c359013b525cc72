pub mod Parameters
pub mod Concentrations
