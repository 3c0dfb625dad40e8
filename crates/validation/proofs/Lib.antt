pub mod AfterScan
pub mod ByteCounts
pub mod PartLaws
pub mod SheetCheckLaws
