pub mod AllTexts
pub mod PlacedTexts
pub mod AllDumped
pub mod PlacesDumped
pub mod Words
pub mod Walking
pub mod Laws
pub mod Rows
