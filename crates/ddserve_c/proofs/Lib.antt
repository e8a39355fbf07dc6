pub mod AsBox
pub mod HeldSteps
