-- What a reader sees of a folder as it stands, what each call makes of that, and when a call may be made.
use Rattle.std.specs.Prelude.{◌≡◌, ◌≢◌, ◌⊎◌, List, [], ◌++◌, ℕ, Option, Some, None, if◌then◌else◌}
use Rattle.folder_spec.specs.Path.{Part, Path, path_eq, below, parent, child}
use Rattle.folder_spec.specs.State.{State, present}
use Rattle.folder_spec.specs.Event.{Call, MakeDir, Create, Append, Sync, Settle, Rename, RemoveFile, RemoveDir, Told}
use Rattle.folder_spec.specs.View.{Found, NoEntry, Folder, FileOf, Special, View, view_in}

-- what a view shows at a root and below it
abbrev pub under : Path → View → View
under root v = λ rest. v (root ++ rest)

-- what a read sees now
abbrev pub seen : State → View
seen s = view_in s (present s)

-- a folder that tells its state shows this; one that tells nothing shows no view
abbrev pub IsSeen : Option Told → View → Type 0
IsSeen (Some a) v = v ≡ seen a.state
IsSeen None v = ⊥

-- what holds of each view that is shown
abbrev pub IfSeen : Option Told → (View → Type 0) → Type 0
IfSeen told Holds = (v : View) → IsSeen told v → Holds v

-- the view with this at the path
abbrev pub put_found : View → Path → Found → View
put_found v p x = λ q. if path_eq p q then x else v q

-- what is seen at q after what stood at old and below it went to new
abbrev pub moved_found : View → Path → Path → Option Path → Option Path → Found
moved_found v old q (Some rest) under_old = v (old ++ rest)
moved_found v old q None (Some rest) = NoEntry
moved_found v old q None None = v q

-- the view after all at old and below it went to new
abbrev pub moved_view : View → Path → Path → View
moved_view v old new = λ q. moved_found v old q (below new q) (below old q)

-- a file with these bytes added
abbrev pub appended : List ℕ → Found → Found
appended piece (FileOf bytes) = FileOf (bytes ++ piece)
appended piece NoEntry = NoEntry
appended piece Folder = Folder
appended piece Special = Special

-- what is seen after a call that is done
abbrev pub seen_after : View → Call → View
seen_after v (MakeDir p) = put_found v p Folder
seen_after v (Create p) = put_found v p (FileOf [])
seen_after v (Append p piece) = put_found v p (appended piece (v p))
seen_after v (Sync p) = v
seen_after v Settle = v
seen_after v (Rename old new) = moved_view v old new
seen_after v (RemoveFile p) = put_found v p NoEntry
seen_after v (RemoveDir p) = put_found v p NoEntry

-- a file is seen there
abbrev pub ShowsFile : View → Path → Type 0
ShowsFile v p = (bytes : List ℕ) × (v p ≡ FileOf bytes)

-- nothing is seen there, and a directory above it
abbrev pub ShowsFree : View → Path → Type 0
ShowsFree v p = (v p ≡ NoEntry) × (v (parent p) ≡ Folder)

-- nothing is seen there, or a file
abbrev pub ShowsNothingOrFile : View → Path → Type 0
ShowsNothingOrFile v p = (v p ≡ NoEntry) ⊎ ShowsFile v p

-- a file is seen there, or may be made there
abbrev pub ShowsFilePlace : View → Path → Type 0
ShowsFilePlace v p = ShowsFree v p ⊎ ShowsFile v p

-- the condition of each call, by what is seen
abbrev pub MayCall : View → Call → Type 0
MayCall v (MakeDir p) = ShowsFree v p
MayCall v (Create p) = ShowsFree v p
MayCall v (Append p piece) = ShowsFile v p
MayCall v (Sync p) = ShowsFile v p
MayCall v Settle = Unit {0}
MayCall v (Rename old new) = (old ≢ []) × (v old ≢ NoEntry) × (below old new ≡ None) × (ShowsFree v new ⊎ (ShowsFile v old × ShowsFile v new))
MayCall v (RemoveFile p) = ShowsFile v p
MayCall v (RemoveDir p) = (p ≢ []) × (v p ≡ Folder) × ((a : Part) → v (child p a) ≡ NoEntry)
