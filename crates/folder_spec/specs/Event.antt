-- The calls that change a folder: when each is allowed, what it changes, and how it can end.
use Rattle.std.specs.Prelude.{◌≡◌, ◌≢◌, ℕ, ◌≤◌, suc, ◌⊎◌, List, [], ◌∷◌, ◌++◌, Option, Some, None, Result, Ok, Err, length, take}
use Rattle.folder_spec.specs.declared.FolderFault.{FolderFault}
use Rattle.folder_spec.specs.declared.FolderFault.TheVariants.{Failed, Refused, NoMemory}
use Rattle.folder_spec.specs.Path.{Part, Path, below, parent, child}
use Rattle.folder_spec.specs.State.{Spot, Nothing, Directory, FileNode, Odd, Table, Node, State, present, put, moved, put_node, HasFile}

pub data Call : Type 0 where
  MakeDir : Path → Call
  Create : Path → Call
  Append : Path → List ℕ → Call
  Sync : Path → Call
  Settle : Call
  Rename : Path → Path → Call
  RemoveFile : Path → Call
  RemoveDir : Path → Call

-- how a call ended: of a failed one, how many bytes it had added
pub data Outcome : Type 0 where
  Done : Outcome
  Fell : ℕ → Outcome
  Denied : Outcome

pub record Event : Type 0 where
  pub call : Call
  pub outcome : Outcome

-- nothing stands there, and a directory stands above it
abbrev pub IsFree : Table → Path → Type 0
IsFree t p = (t p ≡ Nothing) × (t (parent p) ≡ Directory)

-- a file stands there, or may be made there
abbrev pub IsFilePlace : Table → Path → Type 0
IsFilePlace t p = IsFree t p ⊎ HasFile t p

-- a directory without entries
abbrev pub IsEmptyDir : Table → Path → Type 0
IsEmptyDir t p = (t p ≡ Directory) × ((a : Part) → t (child p a) ≡ Nothing)

-- The condition of each call. Where something stands, the paths above it are directories in a sound table.
abbrev pub AllowedIn : Table → Call → Type 0
AllowedIn t (MakeDir p) = IsFree t p
AllowedIn t (Create p) = IsFree t p
AllowedIn t (Append p piece) = HasFile t p
AllowedIn t (Sync p) = HasFile t p
AllowedIn t Settle = Unit {0}
AllowedIn t (Rename old new) =
    (old ≢ []) × (t old ≢ Nothing) × (below old new ≡ None) × (IsFree t new ⊎ (HasFile t old × HasFile t new))
AllowedIn t (RemoveFile p) = HasFile t p
AllowedIn t (RemoveDir p) = (p ≢ []) × IsEmptyDir t p

abbrev pub Allowed : State → Call → Type 0
Allowed s call = AllowedIn (present s) call

-- after a directory change to this table
abbrev pub with_table : State → Table → State
with_table s t = record s { later = s.later ++ t ∷ [] }

-- after a change of the file that stands there
abbrev pub with_file : State → Spot → (Node → Node) → State
with_file s (FileNode n) change = record s { nodes = put_node s.nodes n (change (s.nodes n)) }
with_file s Nothing change = s
with_file s Directory change = s
with_file s Odd change = s

abbrev pub grown : List ℕ → Node → Node
grown piece node = record { now = node.now ++ piece; kept = node.kept }

abbrev pub synced : Node → Node
synced node = record { now = node.now; kept = node.now }

abbrev pub empty_node : Node
empty_node = record { now = []; kept = [] }

-- the state after the call has done its change
abbrev pub changed : State → Call → State
changed s (MakeDir p) = with_table s (put (present s) p Directory)
changed s (Create p) = record {
  nodes = put_node s.nodes s.made empty_node;
  made = suc s.made;
  kept = s.kept;
  later = s.later ++ put (present s) p (FileNode s.made) ∷ [];
}
changed s (Append p piece) = with_file s (present s p) (grown piece)
changed s (Sync p) = with_file s (present s p) synced
changed s Settle = record s { kept = present s; later = [] }
changed s (Rename old new) = with_table s (moved (present s) old new)
changed s (RemoveFile p) = with_table s (put (present s) p Nothing)
changed s (RemoveDir p) = with_table s (put (present s) p Nothing)

-- the state after a call that failed: only an append has changed anything, by the bytes that it added
abbrev pub fallen : State → Call → ℕ → State
fallen s (Append p piece) added = changed s (Append p (take added piece))
fallen s (MakeDir p) added = s
fallen s (Create p) added = s
fallen s (Sync p) added = s
fallen s Settle added = s
fallen s (Rename old new) added = s
fallen s (RemoveFile p) added = s
fallen s (RemoveDir p) added = s

abbrev pub outcome_state : State → Call → Outcome → State
outcome_state s call Done = changed s call
outcome_state s call (Fell added) = fallen s call added
outcome_state s call Denied = s

-- the state after the event
abbrev pub after : State → Event → State
after s e = outcome_state s e.call e.outcome

-- the bytes that a call is to add
abbrev pub piece_of : Call → List ℕ
piece_of (Append p piece) = piece
piece_of (MakeDir p) = []
piece_of (Create p) = []
piece_of (Sync p) = []
piece_of Settle = []
piece_of (Rename old new) = []
piece_of (RemoveFile p) = []
piece_of (RemoveDir p) = []

-- what a folder tells: its state, and each changing call so far that did not want memory
pub record Told : Type 0 where
  pub state : State
  pub log : List Event

-- what is told after the event
abbrev pub told_after : Told → Call → Outcome → Told
told_after a call outcome =
    record { state = outcome_state a.state call outcome; log = a.log ++ record { call = call; outcome = outcome } ∷ [] }

-- what a folder tells after a call by its answer
abbrev pub Steps : Call → Told → Told → Result (Unit {0}) FolderFault → Type 0
Steps call a b (Ok _) = Allowed a.state call × (b ≡ told_after a call Done)
Steps call a b (Err Failed) = Allowed a.state call × ((added : ℕ) × (added ≤ length (piece_of call)) × (b ≡ told_after a call (Fell added)))
Steps call a b (Err Refused) = (¬ Allowed a.state call) × (b ≡ told_after a call Denied)
Steps call a b (Err NoMemory) = b ≡ a

-- R holds of what a folder tells before and after. One that tells nothing before tells nothing afterwards either.
abbrev pub FromTo : (Told → Told → Type 0) → Option Told → Option Told → Type 0
FromTo R None None = Unit {0}
FromTo R (Some a) (Some b) = R a b
FromTo R None (Some b) = ⊥
FromTo R (Some a) None = ⊥

-- a call by its answer, of a folder that may tell nothing
abbrev pub Changes : Call → Option Told → Option Told → Result (Unit {0}) FolderFault → Type 0
Changes call before after result = FromTo (λ a b. Steps call a b result) before after
