pub mod LenientDumped
pub mod LenientlyRead
