-- Where a new item is to stand, and what looking for that answers (private contracts only).
use Rattle.std.specs.Prelude.{◌≡◌, ◌≢◌, ◌⊎◌, ◌≤◌, ℕ, Bool, true, false, List, ◌++◌, length, Option, Some, None, Result, Ok, Err}
use Rattle.vault_values.specs.Id.{id_of}
use Rattle.port_model.specs.Counts.{CountRose}
use Rattle.port_model.specs.Draws.{ByteStream, Draws}
use Rattle.folder_spec.specs.Event.{Told}
use Rattle.folder_spec.specs.Path.{Path, child}
use Rattle.folder_spec.specs.Seen.{IfSeen, under}
use Rattle.folder_spec.specs.View.{Found, NoEntry, Folder, FileOf, Special, View}
use Rattle.plain_tree.specs.Names as plain
use Rattle.vault_spec.specs.Opened.{OpenedVault}
use Rattle.vault_spec.specs.Find.{enter}
use Rattle.vault_spec.specs.Format.{Format, Directory}
use Rattle.vault_spec.specs.Cryptomator.{taken_unless_folder}
use Rattle.vault_spec.specs.Gocryptfs.{full_name, taken_unless}
use Rattle.vault_spec.specs.Making.{NewItem, Allows}
use Rattle.vault_spec.specs.Standing.{entry_at}
use Rattle.item_making.specs.Ending.{Ending, Whole}
use Rattle.item_making.specs.declared.fault.PutFault.{PutFault}
use Rattle.item_making.specs.declared.fault.PutFault.TheVariants as puts
use Rattle.vault_write.specs.Calls.{MakesOne, New}
use Rattle.item_making.specs.Making.{Placing}
use Rattle.vault_write.specs.Refusing.{Answers}

abbrev pub placing : OpenedVault → Path → plain.Path → List ℕ → NewItem → Placing
placing vault work front name item = record { vault = vault; work = work; front = front; name = name; item = item }

-- The entry of the name in the directory that is entered is free, and its places are these.
pub record IsSlot (vault : OpenedVault) (f : Format) (front : plain.Path) (name : List ℕ) (u : View) (at side : Path) (full : Option (List ℕ)) : Type 0 where
  pub dir : Directory
  pub entered : enter f u front ≡ Ok dir
  pub allowed : Allows f name
  pub at_is : at ≡ vault.root ++ entry_at f dir name
  pub side_is : side ≡ vault.root ++ child dir.folder (full_name (f.stored dir.key name).name)
  pub full_is : full ≡ (f.stored dir.key name).full
  pub free : u (entry_at f dir name) ≡ NoEntry

-- What a call refuses that looks for the places of an item with these bytes drawn, the item is refused for.
abbrev pub RefusesItem : OpenedVault → plain.Path → List ℕ → NewItem → List ℕ → Option Told → PutFault → Type 0
RefusesItem vault front name item drawn told fault =
    (work : Path) (ending : Ending) → IfSeen told (λ v. Answers (placing vault work front name item) drawn ending (under vault.root v) (Err fault))

-- the count of faults of a folder never falls, and it is named as the cause only where that rose
pub record CountsFailed {T : Type 0} (failed : PutFault) (before after : ℕ) (result : Result T PutFault) : Type 0 where
  pub grows : before ≤ after
  pub rose : result ≡ Err failed → CountRose before after

-- a place is taken, where the folder and memory serve
abbrev pub IsTakenAt : Path → Option Told → PutFault → Type 0
IsTakenAt at told fault =
    (fault ≡ puts.Failed) ⊎ ((fault ≡ puts.NoMemory) ⊎ ((fault ≡ puts.Taken at) × (IfSeen told (λ v. v at ≢ NoEntry))))

-- and that of a long name's text, where it isn't that text
abbrev pub IsSideTaken : Path → Option (List ℕ) → Option Told → PutFault → Type 0
IsSideTaken side full told fault =
    (fault ≡ puts.Failed) ⊎ ((fault ≡ puts.NoMemory) ⊎ ((fault ≡ puts.Taken side) × (IfSeen told (λ v. taken_unless side (v side) full ≡ Some side))))

-- and that of the folder above a content folder, where it is no folder
abbrev pub IsShelfTaken : Path → Option Told → PutFault → Type 0
IsShelfTaken shelf told fault =
    (fault ≡ puts.Failed) ⊎ ((fault ≡ puts.NoMemory) ⊎ ((fault ≡ puts.Taken shelf) × (IfSeen told (λ v. taken_unless_folder shelf (v shelf) ≡ Some shelf))))

-- one of the two is taken, the content folder's first
abbrev pub IsHomeTaken : Path → Path → Option Told → PutFault → Type 0
IsHomeTaken shelf home told fault = IsTakenAt home told fault ⊎ ((IfSeen told (λ v. v home ≡ NoEntry)) × IsShelfTaken shelf told fault)

-- the text of a long name is still to be put beside its entry
abbrev pub wants_text : Found → Option (List ℕ) → Bool
wants_text there None = false
wants_text NoEntry (Some text) = true
wants_text (FileOf bytes) (Some text) = false
wants_text Folder (Some text) = false
wants_text Special (Some text) = false

-- no more than so many bytes were drawn
pub record DrewAtMost (count : ℕ) (stream stream' : Option ByteStream) : Type 0 where
  pub drawn : List ℕ
  pub were_drawn : Draws stream stream' drawn
  pub few : length drawn ≤ count

-- an id was made of the bytes drawn
pub record DrewId (stream stream' : Option ByteStream) (id : List ℕ) : Type 0 where
  pub drawn : List ℕ
  pub were_drawn : Draws stream stream' drawn
  pub sixteen : length drawn ≡ 16
  pub is : id ≡ id_of drawn

-- A call makes one item under a name, with the bytes that it draws.
pub record PlacesOne (p : Placing) (stream stream' : Option ByteStream) (before after : Option Told) (result : Result (Unit {0}) PutFault) : Type 0 where
  pub drawn : List ℕ
  pub were_drawn : Draws stream stream' drawn
  pub one : MakesOne New p Whole drawn before after result
