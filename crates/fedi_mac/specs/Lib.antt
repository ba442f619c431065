pub mod Examples
pub mod Hmac
pub mod Keys
pub mod Macs
pub mod Signing
