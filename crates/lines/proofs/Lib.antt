pub mod AppendLaws
pub mod FieldEnds
mod FieldLaws
mod FieldReads
mod HexLaws
pub mod LineLengths
mod NumberLaws
pub mod ReadLaws
mod RowLaws
