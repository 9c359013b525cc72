pub mod SheetRun
