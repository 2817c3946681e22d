pub mod Fields
pub mod Laws
pub mod Pass
pub mod Table
