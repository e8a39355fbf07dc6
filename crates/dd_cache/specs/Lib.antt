pub mod StoredBounds
