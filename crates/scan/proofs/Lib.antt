mod EntryLines
mod KeywordLines
mod LineBuffers
mod LineReading
mod LineStates
mod ReadLines
mod ScanLaws
mod ScanLoop
pub mod Scanned
pub mod SheetLaws
pub mod StateAfter
