pub mod Parts
pub mod Public
pub mod Audience
pub mod Urls
pub mod Unions
