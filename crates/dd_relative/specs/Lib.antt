pub mod Gaps
pub mod Relative
pub mod Gapped
pub mod Turned
pub mod UnderWay
pub mod Runs
pub mod WinningRanks
pub mod Tops
