-- The item that a call makes, the edits by which it comes to stand, and the files that these consist of.
use Rattle.std.specs.Prelude.{◌≡◌, ◌⊎◌, ℕ, Bool, true, false, ◌&&◌, not, List, [], ◌∷◌, ◌++◌, Contains, Option, Some, None, Result, Ok, Err, IsTrue}
use Rattle.folder_spec.specs.Path.{Path, below}
use Rattle.folder_spec.specs.State.{State, present, HasFile}
use Rattle.folder_spec.specs.Event.{Call, MakeDir, Create, Append, Sync, Settle, Rename, RemoveFile, RemoveDir, IsFree}
use Rattle.folder_spec.specs.View.{View}
use Rattle.folder_spec.specs.Edit.{Edit, edit_under, edits_under}
use Rattle.folder_spec.specs.Region.{apart_from}
use Rattle.plain_tree.specs.Names as plain
use Rattle.work_folder.specs.Entries.{stage_path}
use Rattle.vault_spec.specs.Opened.{OpenedVault}
use Rattle.vault_spec.specs.Find.{Refusal, enter}
use Rattle.vault_spec.specs.Format.{Format, Directory}
use Rattle.vault_spec.specs.Making.{NewItem, NewDirectory, NewFile, edits, files, stored_bytes, replacing}
use Rattle.vault_spec.specs.Standing.{Standing, Absent, Strange, File, Dir, standing}
use Rattle.vault_spec.specs.Vault.{format_of}

-- in an opened vault, from a work folder, under a name in the directory at a plain path
pub record Placing : Type 0 where
  pub vault : OpenedVault
  pub work : Path
  pub front : plain.Path
  pub name : List ℕ
  pub item : NewItem

abbrev pub format : Placing → Format
format p = format_of p.vault.vault

abbrev pub path_of : Placing → plain.Path
path_of p = p.front ++ p.name ∷ []

-- some edits of the folder, in their order, the files that are made for them, and whether they replace a file
pub record Making : Type 0 where
  pub edits : List Edit
  pub files : List (List ℕ)
  pub replaces : Bool

-- nothing is made
abbrev pub nothing : Making
nothing = record { edits = []; files = []; replaces = false }

-- in the directory that is entered
abbrev pub making_in : Placing → View → List ℕ → Result Directory Refusal → Making
making_in p u drawn (Err refusal) = nothing
making_in p u drawn (Ok dir) = record {
  edits = edits_under p.vault.root (edits (format p) u dir p.name p.item drawn);
  files = files (format p) dir p.name p.item drawn;
  replaces = false;
}

-- a new item, under the bytes drawn, by what the vault's root shows
abbrev pub new_item : Placing → List ℕ → View → Making
new_item p drawn u = making_in p u drawn (enter (format p) u p.front)

-- an item in the place of the content of a file that stands there
abbrev pub replacing_at : Placing → List ℕ → Path → NewItem → Making
replacing_at p drawn at NewDirectory = nothing
replacing_at p drawn at (NewFile content) = record {
  edits = edit_under p.vault.root (replacing (format p) at content drawn) ∷ [];
  files = stored_bytes (format p) (NewFile content) drawn ∷ [];
  replaces = true;
}

abbrev pub put_by : Placing → List ℕ → View → Standing → Making
put_by p drawn u (File at) = replacing_at p drawn at p.item
put_by p drawn u Absent = new_item p drawn u
put_by p drawn u (Strange at) = new_item p drawn u
put_by p drawn u (Dir at directory) = new_item p drawn u

-- an item, new or in the place of a file
abbrev pub put_item : Placing → List ℕ → View → Making
put_item p drawn u = put_by p drawn u (standing (format p) u (path_of p))

-- ---- where a call writes

-- strictly below, by what comes behind
abbrev pub is_inside : Option Path → Bool
is_inside None = false
is_inside (Some []) = false
is_inside (Some (a ∷ rest)) = true

-- what is below the stage, but not the stage
abbrev pub is_staged : Path → Path → Bool
is_staged work q = is_inside (below (stage_path work) q)

abbrev pub is_unstaged : Path → Path → Bool
is_unstaged work q = not (is_staged work q)

-- neither below the stage of a work folder nor at a root or below it
abbrev pub is_apart : Path → Path → Path → Bool
is_apart work root q = is_unstaged work q && apart_from root q

abbrev pub is_elsewhere : Placing → Path → Bool
is_elsewhere p q = is_apart p.work p.vault.root q

-- one of the edits comes to stand there
abbrev pub IsPlace : List Edit → Path → Type 0
IsPlace edits q = (e : Edit) × Contains edits e × (e.at ≡ q)

-- what is staged comes to a free place; or a file onto the file that it replaces
abbrev pub HasPlace : Bool → State → Path → Path → Type 0
HasPlace false s staged at = IsFree (present s) at
HasPlace true s staged at = HasFile (present s) staged × HasFile (present s) at

-- The call works below the stage, or makes a directory at the place of an edit, or brings there what was staged. It writes no file but
-- those that are staged, and takes nothing away from the vault but a file that is replaced.
abbrev pub StagesOrPlaces : Path → Making → State → Call → Type 0
StagesOrPlaces work m s (MakeDir at) = IsTrue (is_staged work at) ⊎ IsPlace m.edits at
StagesOrPlaces work m s (Create at) = IsTrue (is_staged work at)
StagesOrPlaces work m s (Append at piece) = IsTrue (is_staged work at)
StagesOrPlaces work m s (Sync at) = IsTrue (is_staged work at)
StagesOrPlaces work m s Settle = Unit {0}
StagesOrPlaces work m s (Rename staged at) = IsTrue (is_staged work staged) × IsPlace m.edits at × HasPlace m.replaces s staged at
StagesOrPlaces work m s (RemoveFile at) = IsTrue (is_staged work at)
StagesOrPlaces work m s (RemoveDir at) = IsTrue (is_staged work at)
