-- What a report of one directory tells: its items, where they lead, and what is found in it; and what one entry of its folder adds.
use Rattle.std.specs.Prelude.{◌≡◌, ◌≢◌, ◌↔◌, ◌++◌, ℕ, Bool, true, false, List, [], ◌∷◌, Option, Some, None, is_some, Result, Ok, Err, IsTrue, AllPairs, Contains}
use Rattle.std.specs.Option.{option_map}
use Rattle.folder_spec.specs.Listing as folder
use Rattle.folder_spec.specs.Path.{Part, Path, child}
use Rattle.folder_spec.specs.Seen.{under}
use Rattle.folder_spec.specs.View as view
use Rattle.folder_spec.specs.View.{NoEntry, Folder, FileOf, Special, View, kind_found}
use Rattle.folder_spec.specs.declared.Kind.TheVariants.{Missing}
use Rattle.vault_spec.specs.Cryptomator.{content_file}
use Rattle.vault_spec.specs.Findings.{IsEntryOf, number_of}
use Rattle.vault_spec.specs.Format.{Format, Directory, Item, Extra, key_of}
use Rattle.vault_spec.specs.Listing.{node_of}
use Rattle.plain_tree.specs.declared.NodeKind.{NodeKind}
use Rattle.vault_spec.specs.Standing.{Standing, File, Dir, directory_with, standing_in}
use Rattle.vault_spec.specs.Vault.{Vault}
use Rattle.vault_spec.specs.declared.Finding.{Finding}
use Rattle.vault_spec.specs.declared.Finding.TheVariants as is
use Rattle.vault_spec.specs.declared.Lack.{Lack}
use Rattle.vault_spec.specs.declared.Lack.TheVariants as lacks
use Rattle.vault_read.specs.Opened.{FitsKey}
use Rattle.vault_read.specs.declared.items.EntryItem.{EntryItem}
use Rattle.vault_read.specs.declared.items.EntryItem.TheVariants as entry
use Rattle.vault_read.specs.declared.listing.NameAt.{NameAt}
use Rattle.vault_walk.specs.Here.{IsFindingHere, IsIdleHere, IsOrphanHere}
use Rattle.vault_walk.specs.declared.found.Found.{Found}
use Rattle.vault_walk.specs.declared.report.Lead.{Lead}
use Rattle.vault_walk.specs.declared.report.Lead.TheVariants as lead
use Rattle.vault_walk.specs.declared.report.Member.{Member}
use Rattle.vault_walk.specs.declared.report.Report.{Report}
use Rattle.vault_walk.specs.declared.report.What.{What}
use Rattle.vault_walk.specs.declared.report.What.TheVariants as what

-- the directory that a directory item is, or what it lacks
abbrev pub lead_of : Lead → Result Directory Lack
lead_of lead.NoKey = Err lacks.NoDirKey
lead_of (lead.NoFolder dir) = Err lacks.NoFolder
lead_of (lead.To dir) = Ok dir

-- the directory of its key, if it has one
abbrev pub target_of : Lead → Option Directory
target_of lead.NoKey = None
target_of (lead.NoFolder dir) = Some dir
target_of (lead.To dir) = Some dir

-- where the directory item leads whose entry is at a path
pub record IsLeadOf (f : Format) (v : View) (at : Path) (lead : Lead) : Type 0 where
  pub directory : directory_with f v at (key_of f (under at v)) ≡ lead_of lead
  pub target : option_map (λ (key : List ℕ). record { folder = f.folder_of at key; key = key }) (key_of f (under at v)) ≡ target_of lead

abbrev pub FitsLead : Vault → Lead → Type 0
FitsLead vault lead.NoKey = Unit {0}
FitsLead vault (lead.NoFolder dir) = FitsKey vault dir.key
FitsLead vault (lead.To dir) = FitsKey vault dir.key

abbrev pub FitsWhat : Vault → What → Type 0
FitsWhat vault what.File = Unit {0}
FitsWhat vault (what.Dir lead) = FitsLead vault lead

-- the keys of the directories that items lead to are of the size that names are stored under
abbrev pub FitMembers : Vault → List Member → Type 0
FitMembers vault members = (member : Member) → Contains members member → FitsWhat vault member.what

-- what stands under the name of an item
abbrev pub standing_by : Path → What → Standing
standing_by at what.File = File at
standing_by at (what.Dir lead) = Dir at (lead_of lead)

abbrev pub LeadsRight : Format → View → Path → What → Type 0
LeadsRight f v at what.File = Unit {0}
LeadsRight f v at (what.Dir lead) = IsLeadOf f v at lead

-- this item stands in the directory
pub record IsMember (f : Format) (v : View) (dir : Directory) (member : Member) : Type 0 where
  pub stands : standing_in f v dir member.name ≡ standing_by member.at member.what
  pub leads : LeadsRight f v member.at member.what

-- damaged contents aren't looked for
abbrev pub is_told : Finding → Bool
is_told is.HeaderDamaged = false
is_told is.ChunkDamaged = false
is_told is.EmptyOrphan = true
is_told is.BadStoredName = true
is_told is.NoDirKey = true
is_told is.LongNameLost = true
is_told is.OrphanLongName = true
is_told is.DirIdTwice = true
is_told is.NoFolder = true
is_told is.OrphanFolder = true
is_told is.SymlinkFound = true
is_told is.WrongKind = true
is_told is.ExtraEntry = true
is_told is.TwoKinds = true

-- this is found in the directory
pub record IsFoundHere (f : Format) (v : View) (dir : Directory) (x : Found) : Type 0 where
  pub finding : Finding
  pub number : x.number ≡ number_of finding
  pub told : IsTrue (is_told finding)
  pub here : IsFindingHere f v dir finding x.at

-- at this path or below it
abbrev pub IsBelow : Path → Path → Type 0
IsBelow base at = (rest : Path) × (at ≡ base ++ rest)

abbrev pub HaveOwnNames : List Member → Type 0
HaveOwnNames members = AllPairs (λ (x y : Member). x.name ≢ y.name) members

-- the items of a directory, each once, and what is found in it
pub record IsReport (f : Format) (v : View) (dir : Directory) (report : Report) : Type 0 where
  pub sound : (member : Member) → Contains report.members.items member → IsMember f v dir member
  pub complete : (name : List ℕ) (node : NodeKind) → node_of (standing_in f v dir name) ≡ Some node
      → (member : Member) × Contains report.members.items member × (member.name ≡ name)
  pub apart : HaveOwnNames report.members.items
  pub found : (x : Found) → Contains report.found.items x ↔ IsFoundHere f v dir x

-- an entry of a directory's folder
pub record IsEntryIn (v : View) (dir : Directory) (entry : folder.Item) : Type 0 where
  pub there : entry.kind ≢ Missing
  pub kind : kind_found (v (child dir.folder entry.name)) ≡ entry.kind

-- what an entry adds to a report
pub record Addition : Type 0 where
  pub members : List Member
  pub found : List Found

-- this is added to a report
pub record HasAdded (IsRight : Addition → Type 0) (before after : Report) : Type 0 where
  pub more : Addition
  pub right : IsRight more
  pub members : after.members.items ≡ before.members.items ++ more.members
  pub found : after.found.items ≡ before.found.items ++ more.found

-- the item that stands at an entry, if one does, and what is found there and below it
pub record IsReportOf (f : Format) (v : View) (dir : Directory) (entry : Part) (more : Addition) : Type 0 where
  pub sound : (member : Member) → Contains more.members member → IsMember f v dir member × ((f.stored dir.key member.name).name ≡ entry)
  pub complete : (name : List ℕ) (node : NodeKind) → node_of (standing_in f v dir name) ≡ Some node → (f.stored dir.key name).name ≡ entry
      → (member : Member) × Contains more.members member × (member.name ≡ name)
  pub apart : HaveOwnNames more.members
  pub found : (x : Found) → Contains more.found x ↔ (IsFoundHere f v dir x × IsBelow (child dir.folder entry) x.at)

-- whether a finding is of an entry itself: those of long-name files are of their entries too, and damaged contents aren't looked for
abbrev pub is_main : Finding → Bool
is_main is.OrphanLongName = false
is_main is.EmptyOrphan = false
is_main is.HeaderDamaged = false
is_main is.ChunkDamaged = false
is_main is.BadStoredName = true
is_main is.NoDirKey = true
is_main is.LongNameLost = true
is_main is.DirIdTwice = true
is_main is.NoFolder = true
is_main is.OrphanFolder = true
is_main is.SymlinkFound = true
is_main is.WrongKind = true
is_main is.ExtraEntry = true
is_main is.TwoKinds = true

-- this is found at the entry or below it, and isn't of the entry as a long-name file
pub record IsMainFound (f : Format) (v : View) (dir : Directory) (entry : Part) (x : Found) : Type 0 where
  pub finding : Finding
  pub number : x.number ≡ number_of finding
  pub main : IsTrue (is_main finding)
  pub here : IsFindingHere f v dir finding x.at
  pub below : IsBelow (child dir.folder entry) x.at

-- what an entry adds, but for what is found of it as a long-name file
pub record IsMainOf (f : Format) (v : View) (dir : Directory) (entry : Part) (more : Addition) : Type 0 where
  pub sound : (member : Member) → Contains more.members member → IsMember f v dir member × ((f.stored dir.key member.name).name ≡ entry)
  pub complete : (name : List ℕ) (node : NodeKind) → node_of (standing_in f v dir name) ≡ Some node → (f.stored dir.key name).name ≡ entry
      → (member : Member) × Contains more.members member × (member.name ≡ name)
  pub apart : HaveOwnNames more.members
  pub found : (x : Found) → Contains more.found x ↔ IsMainFound f v dir entry x

-- the entry is that of this name alone
pub record IsNamed (f : Format) (v : View) (dir : Directory) (entry : Part) (named : NameAt) : Type 0 where
  pub of : IsEntryOf f v dir entry named.name
  pub only : (name : List ℕ) → IsEntryOf f v dir entry name → name ≡ named.name
  pub long : named.long ≡ is_some (f.stored dir.key named.name).full

-- what is found at a path, if anything is
abbrev pub found_by : Path → Option Finding → List Found
found_by at None = []
found_by at (Some finding) = record { at = at; number = number_of finding } ∷ []

-- the finding of a directory item without its key or its folder
abbrev pub lack_by : Lead → Option Finding
lack_by lead.NoKey = Some is.NoDirKey
lack_by (lead.NoFolder dir) = Some is.NoFolder
lack_by (lead.To dir) = None

-- the item that is no directory, and what is found there with what is found in its own folder
abbrev pub leaf_members : Path → List ℕ → EntryItem → List Member
leaf_members at name entry.EntryFile = record { name = name; at = at; what = what.File } ∷ []
leaf_members at name entry.ContentFile = record { name = name; at = child at content_file; what = what.File } ∷ []
leaf_members at name entry.Directory = []
leaf_members at name entry.Nothing = []
leaf_members at name (entry.NoItem finding) = []

abbrev pub leaf_found : Path → EntryItem → List Found → List Found
leaf_found at entry.EntryFile inside = inside
leaf_found at entry.ContentFile inside = inside
leaf_found at entry.Directory inside = []
leaf_found at entry.Nothing inside = []
leaf_found at (entry.NoItem finding) inside = found_by at (Some finding)

-- The items of these entries of a directory, and what is found at them or below. Where the entries have names of their own, the items
-- have too.
pub record HasReported (f : Format) (v : View) (dir : Directory) (entries : List folder.Item) (report : Report) : Type 0 where
  pub sound : (member : Member) → Contains report.members.items member
      → (entry : folder.Item) × Contains entries entry × IsMember f v dir member × ((f.stored dir.key member.name).name ≡ entry.name)
  pub complete : (entry : folder.Item) (name : List ℕ) (node : NodeKind) → Contains entries entry → node_of (standing_in f v dir name) ≡ Some node
      → (f.stored dir.key name).name ≡ entry.name → (member : Member) × Contains report.members.items member × (member.name ≡ name)
  pub apart : AllPairs (λ (x y : folder.Item). x.name ≢ y.name) entries → HaveOwnNames report.members.items
  pub found : (x : Found) → Contains report.found.items x
      ↔ ((entry : folder.Item) × Contains entries entry × IsFoundHere f v dir x × IsBelow (child dir.folder entry.name) x.at)

-- what an item's own folder holds and has no place there
pub record IsExtraIn (f : Format) (v : View) (at : Path) (long : Bool) (item : Item) (x : Found) : Type 0 where
  pub number : x.number ≡ number_of is.ExtraEntry
  pub entry : Part
  pub place : x.at ≡ child at entry
  pub extra : f.inner_role long item entry (v x.at) ≡ Extra

abbrev pub AreInside : Format → View → Path → Bool → Item → List Found → Type 0
AreInside f v at long item found = (x : Found) → Contains found x ↔ IsExtraIn f v at long item x

-- the finding of a long-name file
pub record IsSideOf (f : Format) (v : View) (dir : Directory) (file : folder.Item) (finding : Option Finding) : Type 0 where
  pub orphan : (finding ≡ Some is.OrphanLongName) ↔ IsOrphanHere f v dir (child dir.folder file.name)
  pub idle : (finding ≡ Some is.EmptyOrphan) ↔ IsIdleHere f v dir (child dir.folder file.name)
  pub no_other : (other : Finding) → finding ≡ Some other → other ≢ is.OrphanLongName → other ≡ is.EmptyOrphan

-- the finding of a long-name file with its right text, by what stands at its entry
abbrev pub idle_by : view.Found → Option Finding
idle_by NoEntry = Some is.EmptyOrphan
idle_by Folder = None
idle_by (FileOf bytes) = None
idle_by Special = None
