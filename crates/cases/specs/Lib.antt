pub mod Runs
pub mod Examples
pub mod PftRig
pub mod RigRuns
pub mod OnARig
pub mod Payouts
pub mod Entering
