mod DocumentLines
mod LineMeaning
pub mod RoundTrip
mod WrittenLines
mod WrittenNumbers
mod WrittenText
