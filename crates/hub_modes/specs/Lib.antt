pub mod Mode
pub mod RunOutput
pub mod Program
