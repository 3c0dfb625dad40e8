pub mod RowLaws
pub mod WeightLaws
pub mod ValueLaws
