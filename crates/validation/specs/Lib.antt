pub mod SheetChecks
pub mod CheckParts
pub mod Counts
