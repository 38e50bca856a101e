-- What is found in one directory of a vault. An entry of its folder is the entry of a name, or belongs there, or is odd; an entry of a name
-- is an item, or is odd; and an item's own folder may hold what has no place in it. A vault's findings are these, of each directory that is
-- reached, beside those of its root, of directories that are one, and of places outside of the folders of entries.
use Rattle.std.specs.Prelude.{◌≡◌, ◌≢◌, ◌⊎◌, ℕ, List, Err, IsTrue, is_some}
use Rattle.folder_spec.specs.Seen.{ShowsFile}
use Rattle.chunk_files.specs.Contents.{readable}
use Rattle.chunk_files.specs.Reading.{Faulty}
use Rattle.chunk_files.specs.declared.fault.ChunkFault.{ChunkFault}
use Rattle.folder_spec.specs.Path.{Part, Path, child}
use Rattle.folder_spec.specs.View.{NoEntry, FileOf, View}
use Rattle.vault_spec.specs.Findings.{IsEntryOf, Belongs, IsFullTextOf, IsTwice, IsOrphanFolder, IsIdleFolder, IsIdleShelf, finding_of}
use Rattle.vault_spec.specs.Reached.{IsReached}
use Rattle.vault_spec.specs.Format.{Format, Directory, NoItem, Extra}
use Rattle.vault_spec.specs.Standing.{File, Dir, root_of, entry_at, item_at, standing_in}
use Rattle.vault_spec.specs.declared.Finding.{Finding}
use Rattle.vault_spec.specs.declared.Finding.TheVariants as is
use Rattle.vault_spec.specs.declared.Lack.{Lack}
use Rattle.vault_spec.specs.declared.Lack.TheVariants as lacks

-- 1, 3 and 9: an entry of no name that doesn't belong
pub record IsUnnamedHere (f : Format) (v : View) (dir : Directory) (finding : Finding) (at : Path) : Type 0 where
  pub entry : Part
  pub place : at ≡ child dir.folder entry
  pub there : v at ≢ NoEntry
  pub stray : ¬ Belongs f v dir entry
  pub unnamed : (name : List ℕ) → ¬ IsEntryOf f v dir entry name
  pub is : finding ≡ f.unnamed entry (v at)

-- 8, 9 and 11: an entry of a name that is no item
pub record IsNoItemHere (f : Format) (v : View) (dir : Directory) (finding : Finding) (at : Path) : Type 0 where
  pub name : List ℕ
  pub of : IsEntryOf f v dir (f.stored dir.key name).name name
  pub place : at ≡ entry_at f dir name
  pub is : item_at f v dir (f.stored dir.key name) ≡ NoItem finding

-- 4: a long-name file without the text of an entry
pub record IsOrphanHere (f : Format) (v : View) (dir : Directory) (at : Path) : Type 0 where
  pub file : Part
  pub place : at ≡ child dir.folder file
  pub there : ShowsFile v at
  pub full : IsTrue (f.is_full file)
  pub wrong : (entry : Part) → ¬ IsFullTextOf f v dir file entry

-- 2 and 6: a directory item without its key or its folder
pub record IsLockedHere (f : Format) (v : View) (dir : Directory) (lack : Lack) (at : Path) : Type 0 where
  pub name : List ℕ
  pub stands : standing_in f v dir name ≡ Dir at (Err lack)

-- 10: what has no place in an item's own folder
pub record IsInsideHere (f : Format) (v : View) (dir : Directory) (at : Path) : Type 0 where
  pub name : List ℕ
  pub of : IsEntryOf f v dir (f.stored dir.key name).name name
  pub entry : Part
  pub place : at ≡ child (entry_at f dir name) entry
  pub extra : f.inner_role (is_some (f.stored dir.key name).full) (item_at f v dir (f.stored dir.key name)) entry (v at) ≡ Extra

-- 12 and 13: a file item whose content has a fault
pub record HasFaultHere (f : Format) (v : View) (dir : Directory) (finding : Finding) (at : Path) : Type 0 where
  pub name : List ℕ
  pub stands : standing_in f v dir name ≡ File at
  pub bytes : List ℕ
  pub there : v at ≡ FileOf bytes
  pub fault : ChunkFault
  pub faulty : (readable f.content bytes).ending ≡ Faulty fault
  pub is : finding ≡ finding_of fault

-- 14: a long-name file with its right text, and without its entry
pub record IsIdleHere (f : Format) (v : View) (dir : Directory) (at : Path) : Type 0 where
  pub file : Part
  pub entry : Part
  pub place : at ≡ child dir.folder file
  pub full : IsTrue (f.is_full file)
  pub right : IsFullTextOf f v dir file entry
  pub alone : v (child dir.folder entry) ≡ NoEntry

-- what each finding says of a directory; 5 and 7 are none of one directory
abbrev pub IsFindingHere : Format → View → Directory → Finding → Path → Type 0
IsFindingHere f v dir is.BadStoredName at = IsUnnamedHere f v dir is.BadStoredName at
IsFindingHere f v dir is.NoDirKey at = IsLockedHere f v dir lacks.NoDirKey at
IsFindingHere f v dir is.LongNameLost at = IsUnnamedHere f v dir is.LongNameLost at
IsFindingHere f v dir is.OrphanLongName at = IsOrphanHere f v dir at
IsFindingHere f v dir is.DirIdTwice at = ⊥
IsFindingHere f v dir is.NoFolder at = IsLockedHere f v dir lacks.NoFolder at
IsFindingHere f v dir is.OrphanFolder at = ⊥
IsFindingHere f v dir is.SymlinkFound at = IsNoItemHere f v dir is.SymlinkFound at
IsFindingHere f v dir is.WrongKind at = IsUnnamedHere f v dir is.WrongKind at ⊎ IsNoItemHere f v dir is.WrongKind at
IsFindingHere f v dir is.ExtraEntry at = IsInsideHere f v dir at
IsFindingHere f v dir is.TwoKinds at = IsNoItemHere f v dir is.TwoKinds at
IsFindingHere f v dir is.HeaderDamaged at = HasFaultHere f v dir is.HeaderDamaged at
IsFindingHere f v dir is.ChunkDamaged at = HasFaultHere f v dir is.ChunkDamaged at
IsFindingHere f v dir is.EmptyOrphan at = IsIdleHere f v dir at

-- and what each says of the root, of directories that are one, and of places outside of the folders of entries
abbrev pub IsFindingApart : Format → View → Finding → Path → Type 0
IsFindingApart f v is.BadStoredName at = ⊥
IsFindingApart f v is.NoDirKey at = root_of f v ≡ Dir at (Err lacks.NoDirKey)
IsFindingApart f v is.LongNameLost at = ⊥
IsFindingApart f v is.OrphanLongName at = ⊥
IsFindingApart f v is.DirIdTwice at = IsTwice f v at
IsFindingApart f v is.NoFolder at = root_of f v ≡ Dir at (Err lacks.NoFolder)
IsFindingApart f v is.OrphanFolder at = IsOrphanFolder f v at
IsFindingApart f v is.SymlinkFound at = ⊥
IsFindingApart f v is.WrongKind at = ⊥
IsFindingApart f v is.ExtraEntry at = f.role at (v at) ≡ Extra
IsFindingApart f v is.TwoKinds at = ⊥
IsFindingApart f v is.HeaderDamaged at = ⊥
IsFindingApart f v is.ChunkDamaged at = ⊥
IsFindingApart f v is.EmptyOrphan at = IsIdleFolder f v at ⊎ IsIdleShelf f v at

-- it is found in a directory that is reached
pub record IsFoundIn (f : Format) (v : View) (finding : Finding) (at : Path) : Type 0 where
  pub dir : Directory
  pub reached : IsReached f v dir
  pub here : IsFindingHere f v dir finding at
