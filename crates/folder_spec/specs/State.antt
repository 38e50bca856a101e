-- What a folder holds: file nodes, and tables of what stands at each path.
use Rattle.std.specs.Prelude.{◌≡◌, ◌≢◌, ℕ, ◌<◌, ◌⊎◌, Bool, List, [], ◌∷◌, ◌++◌, Option, Some, None, if◌then◌else◌, nat_eq, IsTrue}
use Rattle.folder_spec.specs.declared.Kind.{Kind}
use Rattle.folder_spec.specs.declared.Kind.TheVariants.{Missing, Dir, File, Other}
pub use Rattle.folder_spec.specs.declared.Spot.{Spot}
pub use Rattle.folder_spec.specs.declared.Spot.TheVariants.{Nothing, Directory, FileNode, Odd}
use Rattle.folder_spec.specs.Path.{Part, Path, path_eq, below, child}

abbrev pub kind_of : Spot → Kind
kind_of Nothing = Missing
kind_of Directory = Dir
kind_of (FileNode n) = File
kind_of Odd = Other

-- A name table says of each path what stands there. So each path stands once by its form.
abbrev pub Table : Type 0
Table = Path → Spot

-- a file's bytes as a read sees them, and those of them that no crash takes away
pub record Node : Type 0 where
  pub now : List ℕ
  pub kept : List ℕ

-- the file nodes by number, of which `made` have been made; the table that was kept last; and the tables after each directory
-- change since then, in order
pub record State : Type 0 where
  pub nodes : ℕ → Node
  pub made : ℕ
  pub kept : Table
  pub later : List Table

-- the last of the later tables, or the kept one
abbrev pub last_of : Table → List Table → Table
last_of t [] = t
last_of t (u ∷ us) = last_of u us

-- the table that a call now sees
abbrev pub present : State → Table
present s = last_of s.kept s.later

abbrev pub IsAmong : Table → List Table → Type 0
IsAmong t [] = ⊥
IsAmong t (u ∷ us) = (t ≡ u) ⊎ IsAmong t us

-- t is the kept table or a later one
abbrev pub IsTableOf : State → Table → Type 0
IsTableOf s t = IsAmong t (s.kept ∷ s.later)

-- the table with this at the path
abbrev pub put : Table → Path → Spot → Table
put t p x = λ q. if path_eq p q then x else t q

-- what stands at q after what stood at old and below it went to new: by what of q comes after new, and after old
abbrev pub moved_spot : Table → Path → Path → Option Path → Option Path → Spot
moved_spot t old q (Some rest) under_old = t (old ++ rest)
moved_spot t old q None (Some rest) = Nothing
moved_spot t old q None None = t q

-- the table after all that stands at old and below it went to new at once
abbrev pub moved : Table → Path → Path → Table
moved t old new = λ q. moved_spot t old q (below new q) (below old q)

-- the nodes with this one at that number
abbrev pub put_node : (ℕ → Node) → ℕ → Node → ℕ → Node
put_node nodes n node = λ k. if nat_eq n k then node else nodes k

-- some file stands there
abbrev pub HasFile : Table → Path → Type 0
HasFile t p = (n : ℕ) × (t p ≡ FileNode n)

-- nothing stands there, or a file
abbrev pub IsNothingOrFile : Table → Path → Type 0
IsNothingOrFile t p = (t p ≡ Nothing) ⊎ HasFile t p

abbrev pub IsClean : Node → Type 0
IsClean node = node.now ≡ node.kept

-- bytes begins with front
abbrev pub BeginsWith : List ℕ → List ℕ → Type 0
BeginsWith bytes front = (rest : List ℕ) × (bytes ≡ front ++ rest)

-- The base is a directory, what stands has a directory above it, and no node stands at two paths. A file's node has been made.
pub record IsSoundTable (made : ℕ) (t : Table) : Type 0 where
  pub base : t [] ≡ Directory
  pub parents : (p : Path) (a : Part) → t (child p a) ≢ Nothing → t p ≡ Directory
  pub alone : (p q : Path) (n : ℕ) → t p ≡ FileNode n → t q ≡ FileNode n → p ≡ q
  pub is_made : (p : Path) (n : ℕ) → t p ≡ FileNode n → n < made

-- what holds of every state of a folder
pub record IsSound (s : State) : Type 0 where
  pub tables : (t : Table) → IsTableOf s t → IsSoundTable s.made t
  pub nodes : (n : ℕ) → BeginsWith (s.nodes n).now (s.nodes n).kept

-- no crash can change anything
pub record HasNothingPending (s : State) : Type 0 where
  pub clean : (n : ℕ) → IsClean (s.nodes n)
  pub settled : s.later ≡ []

-- in the region no crash can change anything: all tables agree there, and the files there are clean
pub record HasNothingPendingIn (region : Path → Bool) (s : State) : Type 0 where
  pub agree : (t : Table) (p : Path) → IsTableOf s t → IsTrue (region p) → t p ≡ present s p
  pub clean : (p : Path) (n : ℕ) → IsTrue (region p) → present s p ≡ FileNode n → IsClean (s.nodes n)
