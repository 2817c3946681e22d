-- How the prover reads types that lead back to themselves through `Shared`.
pub mod formers
