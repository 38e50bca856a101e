-- Putting a content in its place: its entry is staged whole, renamed, and settled (private contracts only).
use Rattle.std.specs.Prelude.{true, false, ◌≡◌, ◌≤◌, ◌⊎◌, ℕ, Bool, List, [], ◌∷◌, ◌++◌, length, Option, Some, None, Result, Ok, Err, OnOk, IsTrue}
use Rattle.chunk_files.specs.Encrypt.{IsEncrypted, draws, encrypt}
use Rattle.chunk_files.specs.Keys as contents
use Rattle.chunk_files.specs.Keys.{Keys}
use Rattle.port_model.specs.Draws.{ByteStream}
use Rattle.folder_spec.specs.declared.FolderFault.{FolderFault}
use Rattle.folder_spec.specs.Edit.{Edit, file_edit, file_view, folder_view}
use Rattle.folder_spec.specs.Event.{Told, FromTo}
use Rattle.folder_spec.specs.Path.{Path, below}
use Rattle.folder_spec.specs.Region.{at_or_below}
use Rattle.folder_spec.specs.Seen.{IfSeen, ShowsFile, ShowsFree, seen, under}
use Rattle.folder_spec.specs.State.{IsSound}
use Rattle.folder_spec.specs.View.{NoEntry, View}
use Rattle.folder_staging.specs.Folders.{StagesFolder, HasStaged}
use Rattle.plain_tree.specs.Names as plain
use Rattle.work_folder.specs.Entering.{IsReady}
use Rattle.vault_spec.specs.Opened.{OpenedVault}
use Rattle.vault_faults.specs.declared.fault.FindFault.TheVariants as finds
use Rattle.vault_spec.specs.Cryptomator.{content_file, full_file}
use Rattle.vault_spec.specs.Find.{Refusal, enter}
use Rattle.vault_spec.specs.Making.{Allows, NewFile, NewItem, full_texts}
use Rattle.vault_spec.specs.Standing.{Standing, Absent, Strange, File, Dir, standing}
use Rattle.vault_spec.specs.Vault.{format_of}
use Rattle.item_making.specs.Ending.{Whole, Damaged, TooLong}
use Rattle.content_writing.specs.Content.{Coming}
use Rattle.item_making.specs.Faults.{of_folder}
use Rattle.content_writing.specs.Writing.{DrewZeros}
use Rattle.item_making.specs.declared.fault.PutFault.{PutFault}
use Rattle.item_making.specs.declared.fault.PutFault.TheVariants as puts
use Rattle.vault_write.specs.Calls.{How, MakesOne, TakesContent, Writing}
use Rattle.vault_write.specs.Editing.{DoesEdits, Edits, HasEdited, HasFinished, entry_stage, side_edits}
use Rattle.item_making.specs.Making.{Making}
use Rattle.vault_write.specs.Slots.{IsSlot, IsTakenAt, RefusesItem, placing}

-- what an entry shows that has these bytes: a file of them, or a folder with that and the text of a long name
abbrev pub entry_view : Option (List ℕ) → List ℕ → View
entry_view None bytes = file_view bytes
entry_view (Some text) bytes = folder_view ((full_file, text) ∷ (content_file, bytes) ∷ [])

-- it comes to stand at a path
abbrev pub entry_edit : Path → Option (List ℕ) → List ℕ → Edit
entry_edit at inside bytes = record { at = at; made = entry_view inside bytes }

-- its files
abbrev pub entry_files : Option (List ℕ) → List ℕ → List (List ℕ)
entry_files inside bytes = full_texts inside ++ bytes ∷ []

-- the content file of what is written
abbrev pub file_of : Keys → Writing → List ℕ
file_of keys w = encrypt keys w.drawn w.content

-- why writing a content stops
abbrev pub StopsBy : Keys → Writing → PutFault → Type 0
StopsBy keys w (puts.Damaged at fault) = w.ending ≡ Damaged at fault
StopsBy keys w (puts.Limit limit) = w.ending ≡ TooLong limit
StopsBy keys w puts.ZeroRandom = DrewZeros keys w.drawn
StopsBy keys w puts.Source = Unit {0}
StopsBy keys w puts.Random = Unit {0}
StopsBy keys w puts.Failed = Unit {0}
StopsBy keys w puts.NoMemory = Unit {0}
StopsBy keys w (puts.Find fault) = ⊥
StopsBy keys w (puts.NotAllowed path) = ⊥
StopsBy keys w (puts.Taken at) = ⊥

-- the content came whole, and its file is made under just the bytes that it draws
pub record IsWhole (keys : Keys) (w : Writing) : Type 0 where
  pub whole : w.ending ≡ Whole
  pub encrypted : IsEncrypted keys w.drawn w.content (file_of keys w)

-- ---- an entry is staged

abbrev pub StagesBy : Keys → Writing → Option (List ℕ) → Path → Option Told → Option Told → Result (Unit {0}) PutFault → Type 0
StagesBy keys w inside staged before after (Ok _) = IsWhole keys w × HasStaged (entry_files inside (file_of keys w)) staged (entry_view inside (file_of keys w)) before after
StagesBy keys w inside staged before after (Err fault) = StopsBy keys w fault

-- A call stages the entry of a content.
pub record StagesEntry (keys : Keys) (inside : Option (List ℕ)) (staged : Path) (coming left : Option Coming) (stream stream' : Option ByteStream)
    (before after : Option Told) (result : Result (Unit {0}) PutFault) : Type 0 where
  pub writing : Writing
  pub enough : length writing.drawn ≤ draws (contents.format_of keys) writing.content
  pub takes : TakesContent keys writing coming left stream stream' result
  pub stages : StagesFolder (entry_files inside (file_of keys writing)) staged before after
  pub ends : StagesBy keys writing inside staged before after result

-- ---- and put in its place

-- the making of an entry, behind the text of a long name beside it where that is wanted
abbrev pub entry_making : Bool → Path → Path → Option (List ℕ) → Option (List ℕ) → List ℕ → Making
entry_making wants side at beside inside bytes = record {
  edits = side_edits wants side beside ++ entry_edit at inside bytes ∷ [];
  files = full_texts beside ++ entry_files inside bytes;
  replaces = false;
}

-- A call puts there at once the entry that the stage has, as the last edit of an item, and settles.
abbrev pub PublishesEntry : Path → Path → Option Told → Option Told → Result (Unit {0}) FolderFault → Type 0
PublishesEntry staged at old new result =
    (work root : Path) (made : View) (m : Making) (done : List Edit) (before : Option Told) → staged ≡ entry_stage work → IfSeen old (λ v. ShowsFree v at)
    → FromTo (HasEdited (Some made) work root m done (record { at = at; made = made } ∷ [])) before old → DoesEdits work root m before new result

-- nothing but these files was staged
abbrev pub OnlyStages : Path → List (List ℕ) → Option Told → Option Told → Type 0
OnlyStages work files old new = StagesFolder files (entry_stage work) old new

-- By the answer, the content came whole and this was done; or the writing stopped and nothing else was done than that; or the folder
-- failed meanwhile.
abbrev pub PlacesBy : Keys → Writing → (Result (Unit {0}) FolderFault → Type 0) → Type 0 → Result (Unit {0}) PutFault → Type 0
PlacesBy keys w Does Only (Ok _) = IsWhole keys w × Does (Ok tt)
PlacesBy keys w Does Only (Err fault) = StopsBy keys w fault × (Only ⊎ ((failed : FolderFault) × (fault ≡ of_folder failed) × IsWhole keys w × Does (Err failed)))

-- A call stages the entry of a content, and does all edits by which it comes to its place.
pub record PlacesEntry (keys : Keys) (work root : Path) (inside : Option (List ℕ)) (making : List ℕ → Making) (coming left : Option Coming)
    (stream stream' : Option ByteStream) (old new : Option Told) (result : Result (Unit {0}) PutFault) : Type 0 where
  pub writing : Writing
  pub enough : length writing.drawn ≤ draws (contents.format_of keys) writing.content
  pub takes : TakesContent keys writing coming left stream stream' result
  pub ends : PlacesBy keys writing (DoesEdits work root (making (file_of keys writing)) old new)
      (OnlyStages work (entry_files inside (file_of keys writing)) old new) result

-- ---- in the place of another content

-- the making of a content that is replaced
abbrev pub replace_making : Path → List ℕ → Making
replace_making at bytes = record { edits = file_edit at bytes ∷ []; files = bytes ∷ []; replaces = true }

-- what is known where it begins
pub record MayReplace (work root at : Path) (a : Told) : Type 0 where
  pub sound : IsSound a.state
  pub ready : IsReady (seen a.state) work
  pub apart : below work root ≡ None
  pub beside : below root work ≡ None
  pub inside : IsTrue (at_or_below root at)
  pub file : ShowsFile (seen a.state) at

abbrev pub DoesReplace : Path → Path → Path → List ℕ → Option Told → Option Told → Result (Unit {0}) FolderFault → Type 0
DoesReplace work root at bytes old new result =
    FromTo (Edits work root (replace_making at bytes)) old new × OnOk result (FromTo (HasFinished work root (replace_making at bytes)) old new)

-- A call puts there at once the file that was staged, in the place of another, and settles.
abbrev pub ReplacesEntry : Path → Path → Option Told → Option Told → Result (Unit {0}) FolderFault → Type 0
ReplacesEntry staged at old new result =
    (work root : Path) (bytes : List ℕ) (before : Option Told) → staged ≡ entry_stage work → ((a : Told) → before ≡ Some a → MayReplace work root at a)
    → HasStaged (bytes ∷ []) staged (file_view bytes) before old → DoesReplace work root at bytes before new result

-- A call stages a content, and puts it in the place of another.
pub record ReplacesContent (keys : Keys) (work root at : Path) (coming left : Option Coming) (stream stream' : Option ByteStream) (old new : Option Told) (result : Result (Unit {0}) PutFault) : Type 0 where
  pub writing : Writing
  pub enough : length writing.drawn ≤ draws (contents.format_of keys) writing.content
  pub takes : TakesContent keys writing coming left stream stream' result
  pub ends : PlacesBy keys writing (DoesReplace work root at (file_of keys writing) old new) (OnlyStages work (file_of keys writing ∷ []) old new) result

-- ---- under a name

-- A call makes one file under a name, of a content.
pub record PlacesFile (how : How) (vault : OpenedVault) (work : Path) (front : plain.Path) (name : List ℕ) (coming left : Option Coming) (stream stream' : Option ByteStream)
    (before after : Option Told) (result : Result (Unit {0}) PutFault) : Type 0 where
  pub writing : Writing
  pub takes : TakesContent (format_of vault.vault).content writing coming left stream stream' result
  pub one : MakesOne how (placing vault work front name (NewFile writing.content)) writing.ending writing.drawn before after result

-- ---- by what stands there

-- The name is allowed. Where nothing stands at its entry, it is a slot, and else that is taken.
pub record IsSlotOver (vault : OpenedVault) (front : plain.Path) (name : List ℕ) (told : Option Told) (at side : Path) (full : Option (List ℕ)) : Type 0 where
  pub allowed : Allows (format_of vault.vault) name
  pub free : IfSeen told (λ v. v at ≡ NoEntry) → IfSeen told (λ v. IsSlot vault (format_of vault.vault) front name (under vault.root v) at side full)
  pub taken : (item : NewItem) (fault : PutFault) → IsTakenAt at told fault → RefusesItem vault front name item [] told fault

-- why the place under a name isn't found: the directory isn't entered, the name isn't allowed, or the folder or memory failed
abbrev pub IsOverFault : OpenedVault → plain.Path → Option Told → PutFault → Type 0
IsOverFault vault front told (puts.Find fault) = IfSeen told (λ v. (refusal : Refusal) × (enter (format_of vault.vault) (under vault.root v) front ≡ Err refusal))
IsOverFault vault front told (puts.NotAllowed path) = Unit {0}
IsOverFault vault front told puts.Failed = Unit {0}
IsOverFault vault front told puts.NoMemory = Unit {0}
IsOverFault vault front told (puts.Taken at) = ⊥
IsOverFault vault front told (puts.Damaged at fault) = ⊥
IsOverFault vault front told (puts.Limit limit) = ⊥
IsOverFault vault front told puts.ZeroRandom = ⊥
IsOverFault vault front told puts.Source = ⊥
IsOverFault vault front told puts.Random = ⊥

-- what stands there as a file, if anything stands there as an item
abbrev pub StandsAs : Path → Standing → Option Path → Type 0
StandsAs root (File at) (Some place) = place ≡ root ++ at
StandsAs root (File at) None = ⊥
StandsAs root Absent (Some place) = ⊥
StandsAs root Absent None = Unit {0}
StandsAs root (Strange at) (Some place) = ⊥
StandsAs root (Strange at) None = Unit {0}
StandsAs root (Dir at directory) place = ⊥

abbrev pub IsDir : Standing → Type 0
IsDir (Dir at directory) = Unit {0}
IsDir (File at) = ⊥
IsDir Absent = ⊥
IsDir (Strange at) = ⊥

-- a directory stands there, where the folder and memory serve
abbrev pub IsAtDirectory : OpenedVault → plain.Path → Option Told → PutFault → Type 0
IsAtDirectory vault path told fault =
    (fault ≡ puts.Failed) ⊎ ((fault ≡ puts.NoMemory) ⊎ ((fault ≡ puts.Find (finds.WrongKind path)) × (IfSeen told (λ v. IsDir (standing (format_of vault.vault) (under vault.root v) path)))))

-- a file stands there with its content at this path
abbrev pub StandsUnder : OpenedVault → plain.Path → List ℕ → Option Told → Path → Type 0
StandsUnder vault front name told at = IfSeen told (λ v. StandsAs vault.root (standing (format_of vault.vault) (under vault.root v) (front ++ name ∷ [])) (Some at))
