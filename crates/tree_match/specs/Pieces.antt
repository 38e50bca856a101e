-- Words of private contracts: contents that are compared piece by piece, and plans of which the front was passed.
use Rattle.std.specs.Prelude.{◌≡◌, ℕ, ◌+◌, ◌-◌, ◌*◌, List, [], ◌∷◌, ◌++◌, length, if◌then◌else◌, Option, Some, None}
use Rattle.std.specs.List.{concat}
use Rattle.std.specs.Ordering.{match_ordering}
use Rattle.chunk_files.specs.Decoding.{Decoding}
use Rattle.chunk_files.specs.Keys.{Keys}
use Rattle.chunk_files.specs.Reading.{Ending}
use Rattle.folder_spec.specs.Path.{Path}
use Rattle.plain_tree.specs.Names as plain
use Rattle.plain_tree.specs.Order.{path_cmp, path_eq}
use Rattle.vault_read.specs.Contents.{Suits, limited_reading, still}
use Rattle.vault_faults.specs.Limits.{content_limit}
use Rattle.vault_faults.specs.declared.fault.CatFault.{CatFault}
use Rattle.vault_faults.specs.declared.fault.CatFault.TheVariants as cat
use Rattle.vault_spec.specs.Plan.{Planned}
use Rattle.tree_match.specs.Comparing.{Content, IsFault, content_of}
use Rattle.tree_match.specs.declared.answer.MatchFault.{MatchFault}
use Rattle.tree_match.specs.declared.answer.MatchFault.TheVariants.{Damaged, Limit, Failed, NoMemory}

-- the fault of a reader; it neither looks for a path nor writes
abbrev pub of_reader : CatFault → MatchFault
of_reader (cat.Find fault) = Failed
of_reader (cat.Damaged at fault) = Damaged at fault
of_reader (cat.Limit limit) = Limit limit
of_reader cat.Sink = Failed
of_reader cat.Failed = Failed
of_reader cat.NoMemory = NoMemory

-- a content file that is read, and the bytes read of it that weren't compared yet
pub record Opened : Type 0 where
  pub at : Path
  pub decoding : Decoding
  pub ahead : List ℕ

-- what a file with these bytes has still to be compared
abbrev pub uncompared : Opened → List ℕ → Content
uncompared s file = record { at = s.at; bytes = s.ahead ++ concat (still s.decoding file).chunks; ending = (still s.decoding file).ending }

-- nothing was read yet of the content file at a path, of a vault with these keys
pub record IsFresh (vault_values : Keys) (path : Path) (s : Opened) : Type 0 where
  pub at : s.at ≡ path
  pub all : (file : List ℕ) → uncompared s file ≡ content_of path (limited_reading vault_values file)
  pub suits : (file : List ℕ) → Suits s.decoding file

-- no byte, and this ending
abbrev pub nothing_before : Path → Ending → Content
nothing_before at ending = record { at = at; bytes = []; ending = ending }

-- at most so many bytes are still to be compared, by how many chunks may still be given
abbrev pub bytes_left : Opened → ℕ
bytes_left s = 32816 * (content_limit - s.decoding.number) + length s.ahead

-- a fault that comparing may have: of limits only that on the length of a content file
abbrev pub CanFault : MatchFault → Type 0
CanFault fault = IsFault (λ at ending. Unit {0}) fault

-- ---- plans

-- the items from the first on whose path isn't before this one
unfoldable pub from_path : plain.Path → List Planned → List Planned
from_path path [] = []
from_path path (item ∷ items) = match_ordering (path_cmp item.path path) (from_path path items) (item ∷ items) (item ∷ items)

-- the first item, if it has this path
abbrev pub first_with : plain.Path → List Planned → Option Planned
first_with path [] = None
first_with path (item ∷ items) = if path_eq item.path path then Some item else None
