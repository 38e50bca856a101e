mod Contained
mod Damages
mod Endings
mod FindingOrders
mod MadeCalls
mod MovedStates
mod MovedTables
mod Opening
mod Planned
mod ReadFronts
pub mod Repaired
mod Reports
mod StraysFound
mod StraysGathered
mod Faults
