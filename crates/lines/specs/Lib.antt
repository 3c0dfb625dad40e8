pub mod Text
pub mod Lines
pub mod Cursor
pub mod LineWriting
