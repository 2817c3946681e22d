pub mod Arithmetic
pub mod Numbers
pub mod Operators
pub mod Patterns
pub mod Reading
pub mod Tests
pub mod Verdict
pub mod Words
