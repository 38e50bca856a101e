-- The edits of an item, published one after the other (private contracts only).
use Rattle.std.specs.Prelude.{codes, ◌≡◌, ℕ, Bool, true, false, List, [], ◌∷◌, ◌++◌, Contains, Option, Some, None, Result, OnOk, IsTrue}
use Rattle.folder_spec.specs.declared.FolderFault.{FolderFault}
use Rattle.folder_spec.specs.Path.{Part, Path, below, child}
use Rattle.folder_spec.specs.State.{State, present, IsSound}
use Rattle.folder_spec.specs.Edit.{Edit, file_edit, directory_edit, folder_edit, view_after, IsStagedView, PublishesIn, HasPublishedIn, HasSettledIn}
use Rattle.folder_spec.specs.Event.{Told, FromTo}
use Rattle.folder_spec.specs.Moments.{Went}
use Rattle.folder_spec.specs.Region.{IsAsBefore, at_or_below}
use Rattle.folder_spec.specs.Seen.{seen, ShowsFree}
use Rattle.folder_spec.specs.View.{NoEntry, Folder, View}
use Rattle.folder_spec.specs.Written.{HoldFronts}
use Rattle.folder_staging.specs.Folders.{StagesFolder, IsStagedFolder}
use Rattle.work_folder.specs.Entries.{stage_path}
use Rattle.work_folder.specs.Entering.{IsReady}
use Rattle.vault_spec.specs.Cryptomator.{id_file, full_files}
use Rattle.vault_spec.specs.Gocryptfs.{key_file}
use Rattle.vault_spec.specs.Making.{full_texts}
use Rattle.item_making.specs.Making.{Making, is_unstaged, is_apart, StagesOrPlaces}

-- what is seen outside of the stage is what was seen, after the first of some edits
pub record SeesSome (work : Path) (edits : List Edit) (s0 s : State) : Type 0 where
  pub done : List Edit
  pub more : List Edit
  pub is : edits ≡ done ++ more
  pub views : (q : Path) → IsTrue (is_unstaged work q) → seen s q ≡ view_after (seen s0) done q

-- Since s0 the edits are being published at and below a root, from the stage of a work folder: all else is as it was, and each file
-- that was made holds a front part of one of the files.
pub record IsEditing (work root : Path) (m : Making) (s0 s : State) : Type 0 where
  pub publishes : PublishesIn (is_unstaged work) m.edits s0 s
  pub others : IsAsBefore (is_apart work root) s0 s
  pub fronts : HoldFronts m.files s0 s
  pub sees : SeesSome work m.edits s0 s

abbrev pub Edits : Path → Path → Making → Told → Told → Type 0
Edits work root m a b = Went (IsEditing work root m a.state) (λ s e. StagesOrPlaces work m s e.call) a b

-- where an item's entry is staged
abbrev pub entry_stage : Path → Path
entry_stage work = child (stage_path work) (codes "f")

-- the stage has nothing but what stands at one place
pub record IsReadyBut (place : Path) (v : View) (work : Path) : Type 0 where
  pub folder : v work ≡ Folder
  pub stage : v (stage_path work) ≡ Folder
  pub bare : (y : Part) (rest : Path) → below place (stage_path work ++ y ∷ rest) ≡ None → v (stage_path work ++ y ∷ rest) ≡ NoEntry

-- it has an item's entry, staged whole, which shows this
pub record HoldsEntry (made : View) (s : State) (work : Path) : Type 0 where
  pub entry : IsStagedView s (present s) (entry_stage work) made
  pub others : IsReadyBut (entry_stage work) (seen s) work

-- the stage is ready, or has this entry
abbrev pub Holds : Option View → State → Path → Type 0
Holds None s work = IsReady (seen s) work
Holds (Some made) s work = HoldsEntry made s work

-- The first of them are done, and these are to come. The stage is ready, or has this entry, and all else is seen as it was after the
-- first.
pub record HasEdited (held : Option View) (work root : Path) (m : Making) (done more : List Edit) (a b : Told) : Type 0 where
  pub is : m.edits ≡ done ++ more
  pub went : Edits work root m a b
  pub published : HasPublishedIn (is_unstaged work) done a.state b.state
  pub views : (q : Path) → IsTrue (is_unstaged work q) → seen b.state q ≡ view_after (seen a.state) done q
  pub ready : Holds held b.state work
  pub sound : IsSound a.state
  pub sound_now : IsSound b.state
  pub apart : below work root ≡ None
  pub beside : below root work ≡ None
  pub inside : (e : Edit) → Contains m.edits e → IsTrue (at_or_below root e.at)
  pub new : m.replaces ≡ false

-- A call does the next of them, of which these are the files, whatever the stage has.
abbrev pub AddsEdits : Option View → Path → List Edit → List (List ℕ) → Option Told → Option Told → Result (Unit {0}) FolderFault → Type 0
AddsEdits held work edits files old new result =
    (root : Path) (m : Making) (done more : List Edit) (before : Option Told) → ((file : List ℕ) → Contains files file → Contains m.files file)
    → FromTo (HasEdited held work root m done (edits ++ more)) before old
    → FromTo (Edits work root m) before new × OnOk result (FromTo (HasEdited held work root m (done ++ edits) more) before new)

-- all are done, and no directory change is pending
pub record HasFinished (work root : Path) (m : Making) (a b : Told) : Type 0 where
  pub settled : HasSettledIn (is_unstaged work) m.edits a.state b.state
  pub views : (q : Path) → IsTrue (is_unstaged work q) → seen b.state q ≡ view_after (seen a.state) m.edits q
  pub ready : IsReady (seen b.state) work

-- A call adds the text of a long name to a directory that has been staged since then.
abbrev pub AddsName : Path → Option (List ℕ) → Option Told → Option Told → Result (Unit {0}) FolderFault → Type 0
AddsName staged full old new result =
    (before : Option Told) (contents : List (List ℕ)) (files : List (Part × List ℕ)) → ((text : List ℕ) → full ≡ Some text → Contains contents text)
    → IsStagedFolder contents staged files before old
    → StagesFolder contents staged before new × OnOk result (IsStagedFolder contents staged (full_files full ++ files) before new)

-- Something can be staged and put at a place.
pub record MayBePut (v : View) (work at : Path) : Type 0 where
  pub ready : IsReady v work
  pub free : ShowsFree v at
  pub apart : below (stage_path work) at ≡ None

-- The text of a long name can be staged beside an entry, and put at a place.
pub record MayBeBeside (v : View) (work at : Path) : Type 0 where
  pub staged : ShowsFree v (child (stage_path work) (codes "n"))
  pub free : ShowsFree v at
  pub apart : below (stage_path work) at ≡ None

-- the text of a long name beside its entry, where it is wanted
abbrev pub side_edits : Bool → Path → Option (List ℕ) → List Edit
side_edits false at full = []
side_edits true at None = []
side_edits true at (Some text) = file_edit at text ∷ []

-- the folder above a new directory's folder, where it is wanted
abbrev pub shelf_edits : Bool → Path → List Edit
shelf_edits false shelf = []
shelf_edits true shelf = directory_edit shelf ∷ []

abbrev pub home_edits : Bool → Path → Path → List Edit
home_edits wants shelf home = shelf_edits wants shelf ++ directory_edit home ∷ []

-- a directory of gocryptfs, and one of Cryptomator
abbrev pub go_making : Bool → Path → Path → Option (List ℕ) → List ℕ → Making
go_making wants side at full key = record {
  edits = side_edits wants side full ++ folder_edit at ((key_file, key) ∷ []) ∷ [];
  files = full_texts full ++ key ∷ [];
  replaces = false;
}

abbrev pub cm_making : Bool → Path → Path → Path → Option (List ℕ) → List ℕ → Making
cm_making wants shelf home at full id = record {
  edits = home_edits wants shelf home ++ folder_edit at (full_files full ++ (id_file, id) ∷ []) ∷ [];
  files = full_texts full ++ id ∷ [];
  replaces = false;
}

-- A call does all the edits of a making, which has begun.
abbrev pub DoesEdits : Path → Path → Making → Option Told → Option Told → Result (Unit {0}) FolderFault → Type 0
DoesEdits work root m old new result = FromTo (Edits work root m) old new × OnOk result (FromTo (HasFinished work root m) old new)

abbrev pub HasBegun : Path → Path → Making → Option Told → Type 0
HasBegun work root m told = FromTo (HasEdited None work root m [] m.edits) told told

-- where the parts of a new item of gocryptfs come to stand
pub record GoPlaces (v : View) (work : Path) (wants : Bool) (side at : Path) : Type 0 where
  pub entry : MayBePut v work at
  pub side_comes : wants ≡ true → MayBePut v work side
  pub others : wants ≡ true → below side at ≡ None

-- where the folders of a new directory of Cryptomator come to stand
pub record HomePlaces (v : View) (wants : Bool) (shelf home : Path) : Type 0 where
  pub shelf_comes : wants ≡ true → ShowsFree v shelf
  pub shelf_there : wants ≡ false → v shelf ≡ Folder
  pub home_free : v home ≡ NoEntry
  pub inside : (name : Part) × (home ≡ child shelf name)

-- and its entry
pub record CmPlaces (v : View) (work : Path) (wants : Bool) (shelf home at : Path) : Type 0 where
  pub entry : MayBePut v work at
  pub folders : HomePlaces v wants shelf home
  pub shelf_apart : wants ≡ true → below shelf at ≡ None
  pub home_apart : below home at ≡ None
