-- The findings of a vault, each at a path from its root. Numbers 1 to 11 make it not clean.
use Rattle.std.specs.Prelude.{◌≡◌, ◌≢◌, ◌⊎◌, ℕ, Bool, true, false, ◌||◌, List, [], ◌∷◌, Some, is_some, Result, Err, IsTrue}
use Rattle.chunk_files.specs.declared.fault.ChunkFault.{ChunkFault}
use Rattle.chunk_files.specs.declared.fault.ChunkFault.TheVariants as chunk
use Rattle.chunk_files.specs.Contents.{readable}
use Rattle.chunk_files.specs.Reading.{Faulty}
use Rattle.folder_spec.specs.Path.{Part, Path, child}
use Rattle.folder_spec.specs.View.{NoEntry, FileOf, View}
use Rattle.folder_spec.specs.Seen.{under, ShowsFile}
use Rattle.plain_tree.specs.Names.{is_name}
use Rattle.vault_spec.specs.Format.{Format, Directory, NoItem, Shelf, ContentFolder, Extra, key_of}
use Rattle.vault_spec.specs.Standing.{File, Dir, root_of, entry_at, holds_full, item_at, standing_in}
use Rattle.vault_spec.specs.Reached.{IsReached}
use Rattle.vault_spec.specs.declared.Finding.{Finding}
use Rattle.vault_spec.specs.declared.Lack.{Lack}
use Rattle.vault_spec.specs.declared.Finding.TheVariants as is
use Rattle.vault_spec.specs.declared.Lack.TheVariants as lacks

-- the entry in a directory's folder is that of this name: it is what is stored of it, and its long-name file has the right text
pub record IsEntryOf (f : Format) (v : View) (dir : Directory) (entry : Part) (name : List ℕ) : Type 0 where
  pub named : IsTrue (is_name name)
  pub stores : (f.stored dir.key name).name ≡ entry
  pub full : IsTrue (holds_full f v dir (f.stored dir.key name))

-- a file that belongs to the folder, or has the name of another entry's long-name file
pub record Belongs (f : Format) (v : View) (dir : Directory) (entry : Part) : Type 0 where
  pub file : ShowsFile v (child dir.folder entry)
  pub name : IsTrue (f.is_fixed dir.folder entry || f.is_full entry)

-- 1, 3 and 9: an entry of a reached folder, of no name, that doesn't belong there
pub record IsUnnamed (f : Format) (v : View) (finding : Finding) (at : Path) : Type 0 where
  pub dir : Directory
  pub entry : Part
  pub reached : IsReached f v dir
  pub place : at ≡ child dir.folder entry
  pub there : v at ≢ NoEntry
  pub stray : ¬ Belongs f v dir entry
  pub unnamed : (name : List ℕ) → ¬ IsEntryOf f v dir entry name
  pub is : finding ≡ f.unnamed entry (v at)

-- 8, 9 and 11: an entry of a reached folder, with a right name, that is no item
pub record IsNoItem (f : Format) (v : View) (finding : Finding) (at : Path) : Type 0 where
  pub dir : Directory
  pub name : List ℕ
  pub reached : IsReached f v dir
  pub of : IsEntryOf f v dir (f.stored dir.key name).name name
  pub place : at ≡ entry_at f dir name
  pub is : item_at f v dir (f.stored dir.key name) ≡ NoItem finding

-- a directory item of a reached folder, or the root, with its directory
pub record IsDirectoryItem (f : Format) (v : View) (at : Path) (directory : Result Directory Lack) : Type 0 where
  pub dir : Directory
  pub name : List ℕ
  pub reached : IsReached f v dir
  pub stands : standing_in f v dir name ≡ Dir at directory

-- 2 and 6: a directory item of a reached folder, or the root, without its key or without its folder
abbrev pub IsLocked : Format → View → Lack → Path → Type 0
IsLocked f v lack at = (root_of f v ≡ Dir at (Err lack)) ⊎ IsDirectoryItem f v at (Err lack)

-- 4: a file with the name of a long-name file of gocryptfs in a reached folder, without a text that is right for it
pub record IsFullTextOf (f : Format) (v : View) (dir : Directory) (file : Part) (entry : Part) : Type 0 where
  pub name : List ℕ
  pub of : IsEntryOf f v dir entry name
  pub long : IsTrue (is_some (f.stored dir.key name).full)
  pub beside : f.full_at entry ≡ file ∷ []

pub record IsOrphanName (f : Format) (v : View) (at : Path) : Type 0 where
  pub dir : Directory
  pub file : Part
  pub reached : IsReached f v dir
  pub place : at ≡ child dir.folder file
  pub there : ShowsFile v at
  pub full : IsTrue (f.is_full file)
  pub wrong : (entry : Part) → ¬ IsFullTextOf f v dir file entry

-- 5: one of two directory items in reached folders that have the same key and the same folder
pub record IsTwice (f : Format) (v : View) (at : Path) : Type 0 where
  pub other : Path
  pub apart : at ≢ other
  pub one : Result Directory Lack
  pub two : Result Directory Lack
  pub item : IsDirectoryItem f v at one
  pub again : IsDirectoryItem f v other two
  pub key : List ℕ
  pub its : key_of f (under at v) ≡ Some key
  pub same : key_of f (under other v) ≡ Some key
  pub folder : f.folder_of at key ≡ f.folder_of other key

-- a content folder that isn't reached
pub record IsLoose (f : Format) (v : View) (at : Path) : Type 0 where
  pub folder : f.role at (v at) ≡ ContentFolder
  pub loose : (dir : Directory) → IsReached f v dir → dir.folder ≢ at

-- an entry is a file that belongs to a folder of entries
pub record IsFixed (f : Format) (v : View) (folder : Path) (entry : Part) : Type 0 where
  pub file : ShowsFile v (child folder entry)
  pub name : IsTrue (f.is_fixed folder entry)

-- 7: a content folder that isn't reached and holds more than the file that belongs there
pub record IsOrphanFolder (f : Format) (v : View) (at : Path) : Type 0 where
  pub loose : IsLoose f v at
  pub entry : Part
  pub there : v (child at entry) ≢ NoEntry
  pub more : ¬ IsFixed f v at entry

-- what an item's own folder holds beside what belongs there
pub record IsInside (f : Format) (v : View) (at : Path) : Type 0 where
  pub dir : Directory
  pub name : List ℕ
  pub reached : IsReached f v dir
  pub of : IsEntryOf f v dir (f.stored dir.key name).name name
  pub entry : Part
  pub place : at ≡ child (entry_at f dir name) entry
  pub extra : f.inner_role (is_some (f.stored dir.key name).full) (item_at f v dir (f.stored dir.key name)) entry (v at) ≡ Extra

-- 10: an entry in an item's own folder, or outside of the folders of entries, that has no place there
abbrev pub IsExtra : Format → View → Path → Type 0
IsExtra f v at = IsInside f v at ⊎ (f.role at (v at) ≡ Extra)

-- the file of the content of an item in a reached folder has this fault
pub record IsDamaged (f : Format) (v : View) (at : Path) (fault : ChunkFault) : Type 0 where
  pub dir : Directory
  pub name : List ℕ
  pub reached : IsReached f v dir
  pub stands : standing_in f v dir name ≡ File at
  pub bytes : List ℕ
  pub there : v at ≡ FileOf bytes
  pub faulty : (readable f.content bytes).ending ≡ Faulty fault

-- whether a fault is of the header: 12, and else 13
abbrev pub finding_of : ChunkFault → Finding
finding_of chunk.NoHeader = is.HeaderDamaged
finding_of (chunk.HeaderVersion version) = is.HeaderDamaged
finding_of chunk.ZeroId = is.HeaderDamaged
finding_of chunk.HeaderTag = is.HeaderDamaged
finding_of (chunk.ShortChunk number) = is.ChunkDamaged
finding_of (chunk.ZeroNonce number) = is.ChunkDamaged
finding_of (chunk.ChunkTag number) = is.ChunkDamaged

pub record HasFault (f : Format) (v : View) (finding : Finding) (at : Path) : Type 0 where
  pub fault : ChunkFault
  pub damaged : IsDamaged f v at fault
  pub is : finding ≡ finding_of fault

-- a right long-name file of gocryptfs without its entry
pub record IsIdleName (f : Format) (v : View) (at : Path) : Type 0 where
  pub dir : Directory
  pub file : Part
  pub entry : Part
  pub reached : IsReached f v dir
  pub place : at ≡ child dir.folder file
  pub full : IsTrue (f.is_full file)
  pub right : IsFullTextOf f v dir file entry
  pub alone : v (child dir.folder entry) ≡ NoEntry

-- a content folder that isn't reached, and holds nothing but files that belong there
pub record IsIdleFolder (f : Format) (v : View) (at : Path) : Type 0 where
  pub loose : IsLoose f v at
  pub fixed : (entry : Part) → v (child at entry) ≢ NoEntry → IsFixed f v at entry

-- a folder of content folders without entries
pub record IsIdleShelf (f : Format) (v : View) (at : Path) : Type 0 where
  pub shelf : f.role at (v at) ≡ Shelf
  pub empty : (entry : Part) → v (child at entry) ≡ NoEntry

-- what each finding says of a path
abbrev pub IsFinding : Format → View → Finding → Path → Type 0
IsFinding f v is.BadStoredName at = IsUnnamed f v is.BadStoredName at
IsFinding f v is.NoDirKey at = IsLocked f v lacks.NoDirKey at
IsFinding f v is.LongNameLost at = IsUnnamed f v is.LongNameLost at
IsFinding f v is.OrphanLongName at = IsOrphanName f v at
IsFinding f v is.DirIdTwice at = IsTwice f v at
IsFinding f v is.NoFolder at = IsLocked f v lacks.NoFolder at
IsFinding f v is.OrphanFolder at = IsOrphanFolder f v at
IsFinding f v is.SymlinkFound at = IsNoItem f v is.SymlinkFound at
IsFinding f v is.WrongKind at = IsUnnamed f v is.WrongKind at ⊎ IsNoItem f v is.WrongKind at
IsFinding f v is.ExtraEntry at = IsExtra f v at
IsFinding f v is.TwoKinds at = IsNoItem f v is.TwoKinds at
IsFinding f v is.HeaderDamaged at = HasFault f v is.HeaderDamaged at
IsFinding f v is.ChunkDamaged at = HasFault f v is.ChunkDamaged at
IsFinding f v is.EmptyOrphan at = IsIdleName f v at ⊎ (IsIdleFolder f v at ⊎ IsIdleShelf f v at)

-- the number by which a finding is ordered and printed
abbrev pub number_of : Finding → ℕ
number_of is.BadStoredName = 1
number_of is.NoDirKey = 2
number_of is.LongNameLost = 3
number_of is.OrphanLongName = 4
number_of is.DirIdTwice = 5
number_of is.NoFolder = 6
number_of is.OrphanFolder = 7
number_of is.SymlinkFound = 8
number_of is.WrongKind = 9
number_of is.ExtraEntry = 10
number_of is.TwoKinds = 11
number_of is.HeaderDamaged = 12
number_of is.ChunkDamaged = 13
number_of is.EmptyOrphan = 14

-- whether a finding makes a vault not clean: damaged contents and notes don't
abbrev pub is_fault_of_structure : Finding → Bool
is_fault_of_structure is.HeaderDamaged = false
is_fault_of_structure is.ChunkDamaged = false
is_fault_of_structure is.EmptyOrphan = false
is_fault_of_structure is.BadStoredName = true
is_fault_of_structure is.NoDirKey = true
is_fault_of_structure is.LongNameLost = true
is_fault_of_structure is.OrphanLongName = true
is_fault_of_structure is.DirIdTwice = true
is_fault_of_structure is.NoFolder = true
is_fault_of_structure is.OrphanFolder = true
is_fault_of_structure is.SymlinkFound = true
is_fault_of_structure is.WrongKind = true
is_fault_of_structure is.ExtraEntry = true
is_fault_of_structure is.TwoKinds = true

-- a vault is clean where nothing of that is found
abbrev pub IsClean : Format → View → Type 0
IsClean f v = (finding : Finding) (at : Path) → IsTrue (is_fault_of_structure finding) → ¬ IsFinding f v finding at
