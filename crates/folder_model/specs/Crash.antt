-- The image of a folder in memory that a pick names.
use Rattle.std.specs.Prelude.{ℕ, List, [], ◌∷◌, ◌++◌, slice_index_or, if◌then◌else◌}
use Rattle.std.specs.Str.{bytes_eq}
use Rattle.folder_spec.specs.State.{Table, Node, State, present}
use Rattle.folder_spec.specs.Event.{Told}
use Rattle.folder_spec.specs.Image.{Image}
use Rattle.folder_spec.specs.Image as spec

-- the table of that number, 0 being the kept one; the last one where there are fewer
abbrev pub table_at : State → ℕ → Table
table_at s number = slice_index_or (s.kept ∷ s.later) number (present s)

-- of a clean node its bytes, of another those kept and the tail after them
abbrev pub bytes_left : List ℕ → Node → List ℕ
bytes_left tail node = if bytes_eq node.now node.kept then node.now else node.kept ++ tail

abbrev pub node_left : List ℕ → Node → Node
node_left tail node = record { now = bytes_left tail node; kept = bytes_left tail node }

-- the image with that table and that tail
abbrev pub picked : State → ℕ → List ℕ → Image
picked s number tail = record { table = table_at s number; bytes = λ n. bytes_left tail (s.nodes n); made = s.made }

-- what a folder tells that has just come out of a crash: the image as a state, and no log
abbrev pub told_by : Image → Told
told_by image = record { state = spec.state_of image; log = [] }
