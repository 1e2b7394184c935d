pub mod Rules
pub mod Passing
pub mod Laws
pub mod Worked
pub mod Codes
pub mod VoiceBytes
pub mod Chains
