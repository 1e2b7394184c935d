pub mod Ones
pub mod Placed
pub mod Walked
pub mod Printed
pub mod BytesRead
pub mod Unbroken
pub mod PlacedExample
