mod Heres
mod Items
pub mod InOrder
pub mod Walks
pub mod OpenDirectories
mod Growing
mod Gathered
mod Depths
mod Counting
mod Founds
mod Folders
mod Flats
mod ExtraEntries
mod SideNames
mod FullNames
mod Finds
mod Places
mod NamedEntries
mod EntryReports
mod UnnamedEntries
mod SideFindings
mod Pairs
mod DirectoryReports
mod Shared
mod Aparts
mod RolePlaces
pub mod NodeOrders
pub mod Numbers
mod Gains
mod Visits
mod LevelSteps
pub mod PlanOrder
mod Begins
mod Turns
mod Answering
mod Surveys
mod FolderSets
mod FirstFindings
mod FilesStand
