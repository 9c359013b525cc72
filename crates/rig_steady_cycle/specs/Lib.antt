pub mod SheetCycle
