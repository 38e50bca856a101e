-- Files that are put in their places.
use Rattle.std.specs.Prelude.{ℕ, List, Option}
use Rattle.folder_spec.specs.Path.{Path}
use Rattle.folder_spec.specs.Event.{Told}
use Rattle.folder_spec.specs.Moments.{Moments}
use Rattle.folder_spec.specs.Region.{StagesOrPuts}
use Rattle.folder_spec.specs.Replace.{IsReplacing}

-- While a file is put in its place: at each moment it is being replaced, and each call stages it, puts it there or settles.
abbrev pub Publishing : Path → Path → List ℕ → Option Told → Option Told → Type 0
Publishing staged at bytes = Moments (IsReplacing staged at bytes) (λ s0 s e. StagesOrPuts staged at s0 s e.call)
