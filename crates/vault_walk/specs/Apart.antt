-- What is found apart from the folders of entries, and of directory items that have one key and one folder.
use Rattle.std.specs.Prelude.{◌≡◌, ◌≢◌, ◌⊎◌, ◌↔◌, Bool, true, false, not, ◌&&◌, List, [], ◌∷◌, Option, Some, None, Result, IsTrue, Contains}
use Rattle.std.specs.BTreeSet.{BTreeSet, contains}
use Rattle.folder_model.specs.Order.{path_cmp}
use Rattle.folder_spec.specs.Listing.{Item}
use Rattle.folder_spec.specs.Path.{Part, Path, child}
use Rattle.folder_spec.specs.Seen.{under}
use Rattle.folder_spec.specs.View.{NoEntry, View}
use Rattle.folder_spec.specs.declared.Kind.{Kind}
use Rattle.folder_spec.specs.declared.Kind.TheVariants as kinds
use Rattle.vault_read.specs.declared.vault.VaultKind.{VaultKind}
use Rattle.vault_spec.specs.Cryptomator.{cm_role, is_base32_text, top}
use Rattle.vault_spec.specs.Findings.{IsDirectoryItem, IsTwice, number_of}
use Rattle.vault_spec.specs.Format.{Format, Directory, Expected, key_of}
use Rattle.vault_spec.specs.Reached.{IsReached}
use Rattle.vault_spec.specs.declared.Finding.{Finding}
use Rattle.vault_spec.specs.declared.Finding.TheVariants as is
use Rattle.vault_spec.specs.declared.Lack.{Lack}
use Rattle.vault_walk.specs.Here.{IsFindingApart}
use Rattle.vault_walk.specs.Names.{is_fixed_by, role_of}
use Rattle.vault_walk.specs.Nodes.{node_cmp}
use Rattle.vault_walk.specs.declared.apart.Level.{Level}
use Rattle.vault_walk.specs.declared.apart.Level.TheVariants as level
use Rattle.vault_walk.specs.declared.apart.Place.{Place}
use Rattle.vault_walk.specs.declared.found.Found.{Found}
use Rattle.vault_walk.specs.declared.key.Node.{Node}
use Rattle.vault_walk.specs.declared.names.Role.TheVariants as role
use Rattle.vault_walk.specs.declared.twice.Target.{Target}

-- it is the folder of a directory that is reached
abbrev pub IsReachedFolder : Format → View → Path → Type 0
IsReachedFolder f v at = (dir : Directory) × IsReached f v dir × (dir.folder ≡ at)

-- these are the folders of the directories that are reached
abbrev pub AreReachedFolders : Format → View → BTreeSet Path → Type 0
AreReachedFolders f v folders = (at : Path) → IsTrue (contains path_cmp folders at) ↔ IsReachedFolder f v at

-- whether a finding is looked for outside of the folders of entries
abbrev pub is_apart : Finding → Bool
is_apart is.OrphanFolder = true
is_apart is.ExtraEntry = true
is_apart is.EmptyOrphan = true
is_apart is.BadStoredName = false
is_apart is.NoDirKey = false
is_apart is.LongNameLost = false
is_apart is.OrphanLongName = false
is_apart is.DirIdTwice = false
is_apart is.NoFolder = false
is_apart is.SymlinkFound = false
is_apart is.WrongKind = false
is_apart is.TwoKinds = false
is_apart is.HeaderDamaged = false
is_apart is.ChunkDamaged = false

-- this is found outside of the folders of entries
pub record IsFoundApart (f : Format) (v : View) (x : Found) : Type 0 where
  pub finding : Finding
  pub number : x.number ≡ number_of finding
  pub outside : IsTrue (is_apart finding)
  pub apart : IsFindingApart f v finding x.at

-- and this is all that is found there
abbrev pub AreFoundApart : Format → View → List Found → Type 0
AreFoundApart f v found = (x : Found) → Contains found x ↔ IsFoundApart f v x

-- a directory item with a key in a directory that is reached: the item's entry, and the directory of its key
pub record IsTarget (f : Format) (v : View) (target : Target) : Type 0 where
  pub directory : Result Directory Lack
  pub item : IsDirectoryItem f v target.at directory
  pub key : key_of f (under target.at v) ≡ Some target.node.key
  pub folder : f.folder_of target.at target.node.key ≡ target.node.folder

-- and these are all of them
abbrev pub AreTargets : Format → View → List Target → Type 0
AreTargets f v targets = (target : Target) → Contains targets target ↔ IsTarget f v target

-- one of these items has the directory
abbrev pub IsMet : List Target → Node → Type 0
IsMet targets node = (target : Target) × Contains targets target × (target.node ≡ node)

-- one of these items has the directory, and another behind it
abbrev pub IsMetAgain : List Target → Node → Type 0
IsMetAgain [] node = ⊥
IsMetAgain (target ∷ rest) node = ((target.node ≡ node) × IsMet rest node) ⊎ IsMetAgain rest node

-- what is found of an item, by whether another shares its directory
abbrev pub shared_at : Bool → Path → List Found
shared_at true at = record { at = at; number = number_of is.DirIdTwice } ∷ []
shared_at false at = []

-- and by which directories are shared
abbrev pub shared_in : BTreeSet Node → Target → List Found
shared_in again target = shared_at (contains node_cmp again target.node) target.at

-- one of these items has its entry there, and another with another entry has the same directory
pub record IsSharedAmong (targets : List Target) (at : Path) : Type 0 where
  pub node : Node
  pub other : Path
  pub apart : at ≢ other
  pub one : Contains targets (record { node = node; at = at })
  pub two : Contains targets (record { node = node; at = other })

-- these are found of items that have one directory
abbrev pub AreShared : List Target → List Found → Type 0
AreShared targets found = (x : Found) → Contains found x ↔ ((x.number ≡ number_of is.DirIdTwice) × IsSharedAmong targets x.at)

-- and these are found of a vault's directory items with one key and one folder
abbrev pub AreTwice : Format → View → List Found → Type 0
AreTwice f v found = (x : Found) → Contains found x ↔ ((x.number ≡ number_of is.DirIdTwice) × IsTwice f v x.at)

-- the folder is of this level
abbrev pub IsLevelAt : Level → Path → Type 0
IsLevelAt level.Root at = at ≡ []
IsLevelAt level.Top at = at ≡ top ∷ []
IsLevelAt level.Shelf at = (shelf : Part) × IsTrue (is_base32_text 2 shelf) × (at ≡ top ∷ shelf ∷ [])

-- each place has its role
abbrev pub HaveRoles : View → List Place → Type 0
HaveRoles v places = (place : Place) → Contains places place → role_of place.role ≡ cm_role place.at (v place.at)

-- one of the places is there
abbrev pub IsPlaced : List Place → Path → Type 0
IsPlaced places at = (place : Place) × Contains places place × (place.at ≡ at)

-- all that stands in the folder is among them
abbrev pub HoldAll : View → Path → List Place → Type 0
HoldAll v at places = (name : Part) → v (child at name) ≢ NoEntry → IsPlaced places (child at name)

-- all that stands in those of the first that are folders of content folders is among the second
abbrev pub HoldInShelves : View → List Place → List Place → Type 0
HoldInShelves v shelves places = (shelf : Place) → Contains shelves shelf → shelf.role ≡ role.Shelf → HoldAll v shelf.at places

-- all that has a role is among them
abbrev pub HoldRoles : View → List Place → Type 0
HoldRoles v places = (at : Path) → cm_role at (v at) ≢ Expected → IsPlaced places at

-- what is found at a path outside of the folders of entries
pub record IsApartOf (f : Format) (v : View) (at : Path) (finding : Option Finding) : Type 0 where
  pub is : (one : Finding) → IsTrue (is_apart one) → (finding ≡ Some one) ↔ IsFindingApart f v one at
  pub outside : (one : Finding) → finding ≡ Some one → IsTrue (is_apart one)

-- these are found at these places
abbrev pub AreFoundAt : Format → View → List Place → List Found → Type 0
AreFoundAt f v places found = (x : Found) → Contains found x ↔ (IsFoundApart f v x × IsPlaced places x.at)

abbrev pub is_file_kind : Kind → Bool
is_file_kind kinds.File = true
is_file_kind kinds.Missing = false
is_file_kind kinds.Dir = false
is_file_kind kinds.Other = false

-- an entry isn't a file that belongs to a folder of entries
abbrev pub is_more : VaultKind → Path → Item → Bool
is_more vault at entry = not (is_file_kind entry.kind && is_fixed_by vault at entry.name)

-- what a content folder is that isn't reached, by whether it holds more than the file that belongs there
abbrev pub loose_by : Bool → Finding
loose_by true = is.OrphanFolder
loose_by false = is.EmptyOrphan

-- what a folder of content folders is, by its entries
abbrev pub shelf_by : List Item → Option Finding
shelf_by [] = Some is.EmptyOrphan
shelf_by (entry ∷ entries) = None
