pub mod SheetCall
