mod Counts
mod Entries
mod FolderItems
mod LoadingLemmas
mod OneAnswer
mod StillToCome
mod FoundFiles
mod WrittenContents
mod GivenAnswers
mod Gathering
mod Keys
mod Reaching
pub mod Sorting
mod StoredTexts
mod ListedOrder
mod TextForms
mod OrderlyVaults
