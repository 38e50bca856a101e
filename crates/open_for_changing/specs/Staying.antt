-- What a command leaves as it was in its work folder: all but the stage and `journal.new`, and where a test of it fails these too.
use Rattle.std.specs.Prelude.{Bool, true, false, ◌∷◌, [], ◌||◌, not, codes, Option, Some, None, Ok}
use Rattle.std.specs.Str.{bytes_eq}
use Rattle.folder_spec.specs.Path.{Path, below}
use Rattle.folder_spec.specs.Event.{Told}
use Rattle.folder_spec.specs.Moments.{Moments}
use Rattle.folder_spec.specs.Region.{IsAsBefore}
use Rattle.folder_spec.specs.Seen.{IfSeen}
use Rattle.work_folder.specs.Looking.{Tests}

-- at another entry of the work folder than `journal.new` and `stage` or below it, by what comes behind the work folder
abbrev pub is_of_others : Option Path → Bool
is_of_others None = false
is_of_others (Some []) = false
is_of_others (Some (name ∷ rest)) = not (bytes_eq name (codes "journal.new") || bytes_eq name (codes "stage"))

-- the paths in a work folder that commands don't use: the journal, what is foreign, and what isn't there
abbrev pub is_unused : Path → Path → Bool
is_unused work q = is_of_others (below work q)

-- all paths
abbrev pub everywhere : Path → Bool
everywhere q = true

-- a region is as it was at every moment
abbrev pub StaysIn : (Path → Bool) → Option Told → Option Told → Type 0
StaysIn region = Moments (IsAsBefore region) (λ s0 s e. Unit {0})

-- What is foreign in the work folder stays, a journal too, and nothing comes there. Where a test of it fails all stays, there and
-- elsewhere.
pub record Leaves (work : Path) (before after : Option Told) : Type 0 where
  pub unused : StaysIn (is_unused work) before after
  pub unready : IfSeen before (λ v. ¬ Tests v work (Ok tt) → StaysIn everywhere before after)
