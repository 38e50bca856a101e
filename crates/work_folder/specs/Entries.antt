-- What may stand in a work folder, and what is foreign there.
use Rattle.std.specs.Prelude.{◌≡◌, ◌≢◌, Bool, true, false, ◌&&◌, ◌||◌, not, codes, IsTrue}
use Rattle.std.specs.Str.{bytes_eq}
use Rattle.std.specs.Cmp.Lexicographic.{slice_cmp}
use Rattle.std.specs.Ordering.{nat_cmp}
use Rattle.std.specs.declared.cmp.Ordering.TheVariants.{Less}
use Rattle.folder_spec.specs.declared.Kind.{Kind}
use Rattle.folder_spec.specs.declared.Kind.TheVariants.{Missing, Dir, File, Other}
use Rattle.folder_spec.specs.Path.{Part, Path, child}
use Rattle.folder_spec.specs.View.{View, kind_found}

abbrev pub journal_path : Path → Path
journal_path work = child work (codes "journal")

-- where a journal is written before it is put in its place
abbrev pub new_journal_path : Path → Path
new_journal_path work = child work (codes "journal.new")

-- what is written is staged below it
abbrev pub stage_path : Path → Path
stage_path work = child work (codes "stage")

-- Whether an entry of this name is foreign. `journal` and `journal.new` have their places as files, `stage` as a directory, and
-- where it is said so `old` as one.
abbrev pub is_foreign : Bool → Part → Kind → Bool
is_foreign old name Missing = false
is_foreign old name File = not (bytes_eq name (codes "journal") || bytes_eq name (codes "journal.new"))
is_foreign old name Dir = not (bytes_eq name (codes "stage") || (old && bytes_eq name (codes "old")))
is_foreign old name Other = true

-- what the view shows under the name in the work folder is foreign
abbrev pub IsForeign : Bool → View → Path → Part → Type 0
IsForeign old v work name = IsTrue (is_foreign old name (kind_found (v (child work name))))

abbrev pub HasNoForeign : Bool → View → Path → Type 0
HasNoForeign old v work = (name : Part) → ¬ IsForeign old v work name

-- it is the first one, in byte order of names
pub record IsFirstForeign (old : Bool) (v : View) (work : Path) (name : Part) : Type 0 where
  pub foreign : IsForeign old v work name
  pub first : (other : Part) → IsForeign old v work other → other ≢ name → slice_cmp nat_cmp name other ≡ Less
