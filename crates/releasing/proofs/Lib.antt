pub mod ReleaseJudging
pub mod ReleaseOutcome
pub mod LookJudging
