pub mod Eapi
pub mod EapiLine
pub mod EapiValue
pub mod EclassName
pub mod Key
pub mod Phase
pub mod TextEapi
