mod Asked
mod Set
