-- How the calls of a folder of the machine heed what is barred, and what they note.
use Rattle.std.specs.Prelude.{◌≡◌, Bool, Result, Err, OnOk, IsTrue}
use Rattle.folder_spec.specs.Path.{Path, parent}
use Rattle.host_places.specs.Noted.{Dirs, Sees, has}
use Rattle.host_ports.specs.Ground.{Ground, IsStopped, KeepsBars}
use Rattle.host_places.specs.Places.{names_entries}

-- a call notes nothing where it is barred: it answers that another run holds what it would change
abbrev pub IsHeld : {T E : Type 0} → E → Ground → Ground → Result T E → Type 0
IsHeld held old new result = (result ≡ Err held) × (new.dirs ≡ old.dirs)

-- a call that changes something fails where changes are barred, and bars nothing itself
abbrev pub HeedsBar : {T E : Type 0} → E → Ground → Ground → Result T E → Type 0
HeedsBar held old new result = (new.barred ≡ old.barred) × (IsTrue old.barred.changes → IsHeld held old new result)

-- so does a settle, where settles are barred
abbrev pub HeedsStop : {T E : Type 0} → E → Ground → Ground → Result T E → Type 0
HeedsStop held old new result = (new.barred ≡ old.barred) × (IsTrue old.barred.settles → IsHeld held old new result)

-- so does a call that looks or reads, where reading is barred
abbrev pub HeedsBlind : {T E : Type 0} → E → Ground → Ground → Result T E → Type 0
HeedsBlind held old new result = (new.barred ≡ old.barred) × (IsTrue old.barred.reads → IsHeld held old new result)

-- the same as the folder's caller sees it: a call that fails may bar others, and takes no bar back
abbrev pub HeedsBars : {T E : Type 0} → E → Ground → Ground → Result T E → Type 0
HeedsBars failed old new result = KeepsBars old.barred new.barred × (IsTrue old.barred.changes → IsHeld failed old new result)

-- of a call that makes changes last and heeds this bar: where it fails, all later changes and settles do
abbrev pub StopsBars : {T E : Type 0} → E → Bool → Ground → Ground → Result T E → Type 0
StopsBars failed barred old new result = KeepsBars old.barred new.barred × (IsTrue barred → IsHeld failed old new result) × (result ≡ Err failed → IsStopped new.barred)

-- of a call that looks or reads
abbrev pub HeedsReads : {T E : Type 0} → E → Ground → Ground → Result T E → Type 0
HeedsReads failed old new result = KeepsBars old.barred new.barred × (IsTrue old.barred.reads → IsHeld failed old new result)

-- a call at a path works only where each part names an entry, and notes what it sees
abbrev pub LooksAt : {T E : Type 0} → Path → Dirs → Dirs → Result T E → Type 0
LooksAt at old new result = OnOk result (IsTrue (names_entries at)) × Sees old new

-- a call that changes an entry notes the directory above it too
abbrev pub ChangesAt : {T E : Type 0} → Path → Dirs → Dirs → Result T E → Type 0
ChangesAt at old new result = LooksAt at old new result × OnOk result (IsTrue (has new.changed (parent at)))
