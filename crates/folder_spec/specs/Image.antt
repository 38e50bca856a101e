-- What a crash leaves of a state.
use Rattle.std.specs.Prelude.{◌≡◌, ℕ, List, []}
use Rattle.folder_spec.specs.State.{Table, Node, State, present, IsTableOf, IsClean, BeginsWith}

-- a folder after a crash: one name table, and the bytes of each node
pub record Image : Type 0 where
  pub table : Table
  pub bytes : ℕ → List ℕ
  pub made : ℕ

-- a crash may leave these bytes of the node: its own where it is clean, else some that begin with those kept
pub record IsLeftOf (node : Node) (bytes : List ℕ) : Type 0 where
  pub begins : BeginsWith bytes node.kept
  pub whole : IsClean node → bytes ≡ node.now

-- a crash at this state may leave the image
pub record IsImage (s : State) (image : Image) : Type 0 where
  pub table : IsTableOf s image.table
  pub bytes : (n : ℕ) → IsLeftOf (s.nodes n) (image.bytes n)
  pub made : image.made ≡ s.made

-- the image taken as a state: nothing is pending
abbrev pub state_of : Image → State
state_of image = record {
  nodes = λ n. record { now = image.bytes n; kept = image.bytes n };
  made = image.made;
  kept = image.table;
  later = [];
}

-- the folder as a read now sees it
abbrev pub seen_now : State → Image
seen_now s = record { table = present s; bytes = λ n. (s.nodes n).now; made = s.made }
