-- What a migration writes: the bytes that it draws, item by item, and the files that it makes.
use Rattle.std.specs.Prelude.{◌≡◌, ◌⊎◌, ◌≤◌, ◌<◌, ℕ, not, List, [], ◌∷◌, ◌++◌, length, map, Contains, None, Option, Result, Ok, Err}
use Rattle.std.specs.List.{concat, filter}
use Rattle.folder_spec.specs.Edit.{edits_under}
use Rattle.folder_spec.specs.Event.{Append, Call, Create, MakeDir, RemoveDir, RemoveFile, Rename, Settle, Sync, Told, FromTo}
use Rattle.folder_spec.specs.Moments.{Moments, Went}
use Rattle.folder_spec.specs.Path.{Path, below}
use Rattle.folder_spec.specs.Seen.{IfSeen, seen, under}
use Rattle.folder_spec.specs.State.{State, BeginsWith}
use Rattle.folder_spec.specs.View.{View}
use Rattle.move_journal.specs.Journal.{IsJournal, journal_text}
use Rattle.move_journal.specs.declared.journal.Journal.{Journal}
use Rattle.move_journal.specs.declared.journal.Phase.{Phase}
use Rattle.move_journal.specs.declared.journal.Phase.TheVariants.{Building, Done}
use Rattle.move_journal.specs.Reading.{StandsIn}
use Rattle.plain_tree.specs.Names as plain
use Rattle.plain_tree.specs.declared.NodeKind.{NodeKind}
use Rattle.plain_tree.specs.declared.NodeKind.TheVariants.{Dir, File}
use Rattle.plain_tree.specs.declared.name_map.NameMap.{NameMap}
use Rattle.port_model.specs.Draws.{ByteStream, Draws}
use Rattle.tree_match.specs.Comparing.{content_at}
use Rattle.vault_spec.specs.Opened.{OpenedVault}
use Rattle.vault_spec.specs.Find.{enter}
use Rattle.vault_spec.specs.Format.{Directory}
use Rattle.vault_spec.specs.Making.{NewItem, NewDirectory, NewFile, draws, edits, files}
use Rattle.vault_spec.specs.Plan.{Planned}
use Rattle.vault_spec.specs.Vault.{Vault, IsVault, format_of}
use Rattle.item_making.specs.Making.{IsPlace, Placing}
use Rattle.vault_write.specs.Refusing.{Answers, TakesRoot}
use Rattle.item_making.specs.Ending.{Ending, Whole}
use Rattle.vault_write.specs.ContentsComing.{ending_of}
use Rattle.item_making.specs.declared.fault.PutFault.{PutFault}
use Rattle.item_making.specs.declared.fault.PutFault.TheVariants as put
use Rattle.migrate_core.specs.declared.fault.MoveFault.{MoveFault}
use Rattle.migrate_core.specs.declared.fault.MoveFault.TheVariants.{Place}
use Rattle.work_folder.specs.Entering.{Empties}
use Rattle.migration_sides.specs.Causes.{AreItemsOf}
use Rattle.migration_sides.specs.Sides.{opened_in}
use Rattle.migration_sides.specs.Unchanged.{ChangesNothing}
use Rattle.tree_match.specs.Mapping.{IsMappedPlan}
use Rattle.migrate_core.specs.Faults.{IsOfTest}
use Rattle.migrate_core.specs.Moved.{done_of, is_there}
use Rattle.migrate_core.specs.Sides.{new_journal}

-- an item that was made in the target, and the bytes drawn for it
pub record MadeItem : Type 0 where
  pub path : plain.Path
  pub item : NewItem
  pub drawn : List ℕ

-- it is this item of the source at its mapped path, with the content that its file gives
pub record IsCopyOf (from : OpenedVault) (v : View) (planned : Planned) (x : MadeItem) : Type 0 where
  pub path : x.path ≡ planned.path
  pub directory : planned.node ≡ Dir → x.item ≡ NewDirectory
  pub file : planned.node ≡ File → x.item ≡ NewFile (content_at (format_of from.vault).content v planned.at).bytes

-- they are these items, one by one
abbrev pub AreCopies : OpenedVault → View → List Planned → List MadeItem → Type 0
AreCopies from v [] [] = Unit {0}
AreCopies from v (item ∷ items) (x ∷ xs) = IsCopyOf from v item x × AreCopies from v items xs
AreCopies from v [] (x ∷ xs) = ⊥
AreCopies from v (item ∷ items) [] = ⊥

-- all bytes drawn, a slice for each item
abbrev pub slices : List MadeItem → List ℕ
slices made = concat (map (λ (x : MadeItem). x.drawn) made)

-- a call, or a part of it
abbrev pub HasGone : Told → Told → Type 0
HasGone = Went (λ s. Unit {0}) (λ s e. Unit {0})

-- this was seen at a moment of a call
abbrev pub WasSeen : Option Told → Option Told → View → Type 0
WasSeen told told' v = FromTo (λ a b. (c : Told) × HasGone a c × HasGone c b × (v ≡ seen c.state)) told told'

-- the directory of the target that has the item, as the target showed it at such a moment
pub record IsMadeIn (to : OpenedVault) (Shown : View → Type 0) (x : MadeItem) : Type 0 where
  pub front : plain.Path
  pub name : List ℕ
  pub is : x.path ≡ front ++ name ∷ []
  pub moment : View
  pub shown : Shown moment
  pub dir : Directory
  pub entered : enter (format_of to.vault) (under to.root moment) front ≡ Ok dir

-- one of the item's files in its directory, under its slice
abbrev pub IsFileOf : OpenedVault → (View → Type 0) → MadeItem → List ℕ → Type 0
IsFileOf to Shown x file = (m : IsMadeIn to Shown x) × Contains (files (format_of to.vault) m.dir m.name x.item x.drawn) file

-- a place of the item in the target: what an edit that makes it in its directory brings comes there
abbrev pub IsPlaceOf : OpenedVault → (View → Type 0) → MadeItem → Path → Type 0
IsPlaceOf to Shown x at = (m : IsMadeIn to Shown x) × IsPlace (edits_under to.root (edits (format_of to.vault) (under to.root m.moment) m.dir m.name x.item x.drawn)) at

-- a place of one of these items
abbrev pub IsMadePlace : OpenedVault → (View → Type 0) → List MadeItem → Path → Type 0
IsMadePlace to Shown made at = (x : MadeItem) × Contains made x × IsPlaceOf to Shown x at

-- one of these texts, or of the files of these items
abbrev pub IsOneOf : OpenedVault → (View → Type 0) → List MadeItem → List (List ℕ) → List ℕ → Type 0
IsOneOf to Shown made texts file = Contains texts file ⊎ ((x : MadeItem) × Contains made x × IsFileOf to Shown x file)

-- Since s0 no file of then was written, and each that was made holds a front part of one of these.
pub record HoldsOnly (P : List ℕ → Type 0) (s0 s : State) : Type 0 where
  pub nodes : (n : ℕ) → n < s0.made → s.nodes n ≡ s0.nodes n
  pub made : s0.made ≤ s.made
  pub fronts : (n : ℕ) → s0.made ≤ n → n < s.made → (file : List ℕ) × P file × BeginsWith file (s.nodes n).now

-- What the call brings to the root comes to one of these places.
abbrev pub BringsOnlyTo : Path → (Path → Type 0) → Call → Type 0
BringsOnlyTo root P (MakeDir at) = (below root at ≡ None) ⊎ P at
BringsOnlyTo root P (Create at) = (below root at ≡ None) ⊎ P at
BringsOnlyTo root P (Rename old at) = (below root at ≡ None) ⊎ P at
BringsOnlyTo root P (Append at piece) = Unit {0}
BringsOnlyTo root P (Sync at) = Unit {0}
BringsOnlyTo root P Settle = Unit {0}
BringsOnlyTo root P (RemoveFile at) = Unit {0}
BringsOnlyTo root P (RemoveDir at) = Unit {0}

-- at each moment; and each call is one of these
abbrev pub WritesOnly : (Call → Type 0) → (List ℕ → Type 0) → Option Told → Option Told → Type 0
WritesOnly Q P = Moments (HoldsOnly P) (λ s0 s e. Q e.call)

-- and nothing comes to the root
abbrev pub WritesBeside : Path → (List ℕ → Type 0) → Option Told → Option Told → Type 0
WritesBeside root P = WritesOnly (BringsOnlyTo root (λ at. ⊥)) P

-- ---- what placing each of them came to

abbrev pub ending_by : NodeKind → Ending → Ending
ending_by Dir ending = Whole
ending_by File ending = ending

-- how the item ends in the source: a file as its content does, and a directory whole
abbrev pub ending_in : OpenedVault → View → Planned → Ending
ending_in from v planned = ending_by planned.node (ending_of planned.at (content_at (format_of from.vault).content v planned.at).ending)

-- the item under its name in the target, from whichever work folder
abbrev pub placing_in : OpenedVault → plain.Path → List ℕ → NewItem → Placing
placing_in to front name item = record { vault = to; work = []; front = front; name = name; item = item }

-- Placing the item was answered so: by how it ends in the source as that was seen at first, by the bytes of its slice, and by what the
-- target showed at a moment of the call. At the root nothing is placed.
pub record WasAnswered (from to : OpenedVault) (told told' : Option Told) (v : View) (planned : Planned) (x : MadeItem) (answer : Result (Unit {0}) PutFault) : Type 0 where
  pub enough : length x.drawn ≤ draws (format_of to.vault) x.item
  pub moment : View
  pub seen : WasSeen told told' moment
  pub named : (front : plain.Path) (name : List ℕ) → x.path ≡ front ++ name ∷ [] → Answers (placing_in to front name x.item) x.drawn (ending_in from v planned) (under to.root moment) answer
  pub root : x.path ≡ [] → TakesRoot to.root answer

-- the answer of the last item, where a call answers so for it; of another fault the item tells nothing
abbrev pub last_answer : Result (Unit {0}) MoveFault → Result (Unit {0}) PutFault
last_answer (Ok _) = Ok tt
last_answer (Err (Place fault)) = Err fault
last_answer (Err fault) = Err put.NoMemory

-- no item is why
abbrev pub IsOfNoItem : Result (Unit {0}) MoveFault → Type 0
IsOfNoItem (Ok _) = Unit {0}
IsOfNoItem (Err fault) = IsOfTest fault

-- Placing these was answered Ok, one after the other, and for the last one as the call then answers.
abbrev pub WereAnswered : OpenedVault → OpenedVault → Option Told → Option Told → View → List Planned → List MadeItem → Result (Unit {0}) MoveFault → Type 0
WereAnswered from to told told' v [] [] answer = IsOfNoItem answer
WereAnswered from to told told' v (item ∷ []) (x ∷ []) answer = WasAnswered from to told told' v item x (last_answer answer)
WereAnswered from to told told' v (item ∷ next ∷ items) (x ∷ made) answer = WasAnswered from to told told' v item x (Ok tt) × WereAnswered from to told told' v (next ∷ items) made answer
WereAnswered from to told told' v (item ∷ []) (x ∷ y ∷ made) answer = ⊥
WereAnswered from to told told' v (item ∷ items) [] answer = ⊥
WereAnswered from to told told' v [] (x ∷ made) answer = ⊥

-- These items were made, with these texts, until this answer: what was drawn, of which items of the source they are, what placing each
-- came to, and what was written, and where.
pub record Writes (answer : Result (Unit {0}) MoveFault) (from to : OpenedVault) (items : List Planned) (made : List MadeItem) (texts : List (List ℕ)) (stream stream' : Option ByteStream) (told told' : Option Told) : Type 0 where
  pub drawn : Draws stream stream' (slices made)
  pub copies : IfSeen told (λ v. AreCopies from v items made)
  pub answered : IfSeen told (λ v. WereAnswered from to told told' v items made answer)
  pub files : WritesOnly (BringsOnlyTo to.root (IsMadePlace to (WasSeen told told') made)) (IsOneOf to (WasSeen told told') made texts) told told'

-- all of these items
pub record WritesAll (from to : OpenedVault) (items : List Planned) (texts : List (List ℕ)) (stream stream' : Option ByteStream) (told told' : Option Told) : Type 0 where
  pub made : List MadeItem
  pub writes : Writes (Ok tt) from to items made texts stream stream' told told'

-- the first of them
pub record WritesFirst (fault : MoveFault) (from to : OpenedVault) (items : List Planned) (texts : List (List ℕ)) (stream stream' : Option ByteStream) (told told' : Option Told) : Type 0 where
  pub made : List MadeItem
  pub first : List Planned
  pub rest : List Planned
  pub are : items ≡ first ++ rest
  pub writes : Writes (Err fault) from to first made texts stream stream' told told'

-- the items whose path none of those has
abbrev pub lacked : List Planned → List Planned → List Planned
lacked there items = filter (λ item. not (is_there there item)) items

-- the texts of the journal of a migration by this rule
abbrev pub journal_texts : NameMap → Path → Path → List Planned → List (List ℕ)
journal_texts names from to items = journal_text (new_journal names from to items) ∷ journal_text (done_of (new_journal names from to items)) ∷ []

abbrev pub texts_in : Phase → List ℕ → List (List ℕ)
texts_in Building text = text ∷ []
texts_in Done text = []

-- the text that a migration may still write that goes on by this journal: that all is done, where that isn't said yet
abbrev pub done_texts : Journal → List (List ℕ)
done_texts journal = texts_in journal.phase (journal_text (done_of journal))

-- by the answer: all of them after Ok, or the first of them
abbrev pub WritesBy : {T : Type 0} → Result T MoveFault → OpenedVault → OpenedVault → List Planned → List (List ℕ) → Option ByteStream → Option ByteStream → Option Told → Option Told → Type 0
WritesBy (Ok value) = WritesAll
WritesBy (Err fault) = WritesFirst fault

-- Between two opened vaults, the items of the source, at their mapped paths, that the target lacks, and these texts by the source's items.
-- Nothing comes to the target unless the stage can be made ready.
pub record WritesLacked {T : Type 0} (texts : List Planned → List (List ℕ)) (result : Result T MoveFault) (names : NameMap) (from to : OpenedVault) (work : Path) (stream stream' : Option ByteStream) (told told' : Option Told) : Type 0 where
  pub items : List Planned
  pub mapped : List Planned
  pub there : List Planned
  pub items_are : IfSeen told (λ v. AreItemsOf from v items)
  pub mapped_are : IsMappedPlan names items mapped
  pub there_are : IfSeen told (λ v. AreItemsOf to v there)
  pub unready : WritesBeside to.root (λ file. ⊥) told told' ⊎ IfSeen told (λ v. Empties v work (Ok tt))
  pub writes : WritesBy result from to (lacked there mapped) (texts items) stream stream' told told'

-- a test refuses
abbrev pub IsRefusal : {T : Type 0} → Result T MoveFault → Type 0
IsRefusal (Ok value) = ⊥
IsRefusal (Err fault) = IsOfTest fault

-- a test refuses: nothing is drawn, and nothing is changed
pub record WritesNothing {T : Type 0} (result : Result T MoveFault) (stream stream' : Option ByteStream) (told told' : Option Told) : Type 0 where
  pub refused : IsRefusal result
  pub undrawn : Draws stream stream' []
  pub still : ChangesNothing told told'

-- where a test refuses nothing is changed
abbrev pub MayWriteBy : {T : Type 0} → (List Planned → List (List ℕ)) → Result T MoveFault → NameMap → OpenedVault → OpenedVault → Path → Option ByteStream → Option ByteStream → Option Told → Option Told → Type 0
MayWriteBy texts result names from to work stream stream' told told' = WritesNothing result stream stream' told told' ⊎ WritesLacked texts result names from to work stream stream' told told'

-- of the vaults that two roots and their passphrases are
pub record WritesTree {T : Type 0} (texts : List Planned → List (List ℕ)) (result : Result T MoveFault) (names : NameMap) (from to work : Path) (from_pass to_pass : List ℕ) (stream stream' : Option ByteStream) (told told' : Option Told) : Type 0 where
  pub source : Vault
  pub target : Vault
  pub opens_source : IfSeen told (λ v. IsVault (under from v) from_pass source)
  pub opens_target : IfSeen told (λ v. IsVault (under to v) to_pass target)
  pub writes : WritesLacked texts result names (opened_in from source) (opened_in to target) work stream stream' told told'

abbrev pub MayWriteTreeBy : {T : Type 0} → (List Planned → List (List ℕ)) → Result T MoveFault → NameMap → (from to work : Path) (from_pass to_pass : List ℕ) → Option ByteStream → Option ByteStream → Option Told → Option Told → Type 0
MayWriteTreeBy texts result names from to work from_pass to_pass stream stream' told told' = WritesNothing result stream stream' told told' ⊎ WritesTree texts result names from to work from_pass to_pass stream stream' told told'

-- with both texts of the journal of a migration that begins
abbrev pub MayWriteTree : {T : Type 0} → Result T MoveFault → NameMap → (from to work : Path) (from_pass to_pass : List ℕ) → Option ByteStream → Option ByteStream → Option Told → Option Told → Type 0
MayWriteTree result names from to = MayWriteTreeBy (journal_texts names from to) result names from to

-- Of those that the journal tells which stands in the work folder. That all is done is the one text that is written, and none where that is
-- said already.
pub record WritesTold {T : Type 0} (result : Result T MoveFault) (work : Path) (from_pass to_pass : List ℕ) (stream stream' : Option ByteStream) (told told' : Option Told) (v : View) : Type 0 where
  pub journal : Journal
  pub is : IsJournal journal
  pub stands : StandsIn work journal v
  pub writes : WritesTree (λ items. done_texts journal) result journal.names journal.source journal.target work from_pass to_pass stream stream' told told'

abbrev pub MayWriteTold : {T : Type 0} → Result T MoveFault → Path → (from_pass to_pass : List ℕ) → Option ByteStream → Option ByteStream → Option Told → Option Told → View → Type 0
MayWriteTold result work from_pass to_pass stream stream' told told' v = WritesNothing result stream stream' told told' ⊎ WritesTold result work from_pass to_pass stream stream' told told' v
