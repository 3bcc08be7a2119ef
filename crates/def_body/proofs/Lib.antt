pub mod Sound
pub mod Uses
