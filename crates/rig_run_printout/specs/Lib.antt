pub mod RunPrintout
pub mod Rig
pub mod BodiesPrintout
