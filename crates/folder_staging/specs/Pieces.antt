-- A new file that is written piece by piece, where nothing else looks.
use Rattle.std.specs.Prelude.{ℕ, List, [], ◌++◌, Option, Result, OnOk}
use Rattle.folder_spec.specs.declared.FolderFault.{FolderFault}
use Rattle.folder_spec.specs.Path.{Path}
use Rattle.folder_spec.specs.State.{present}
use Rattle.folder_spec.specs.Event.{Told, FromTo}
use Rattle.folder_spec.specs.Moments.{Moments}
use Rattle.folder_spec.specs.Region.{StagesAt}
use Rattle.folder_spec.specs.Written.{IsFrontOfOne}
use Rattle.folder_spec.specs.Replace.{IsNewNode, IsNewFile, IsStaging}

-- While one of these files is staged at the path: each call works there alone, and writes no file of then.
abbrev pub Stages : List (List ℕ) → Path → Option Told → Option Told → Type 0
Stages files at = Moments (IsStaging files at) (λ s0 s e. StagesAt at s0 s e.call)

-- So far, it has these bytes, which are not yet synced.
pub record IsWriting (files : List (List ℕ)) (at : Path) (bytes : List ℕ) (before now : Option Told) : Type 0 where
  pub stages : Stages files at before now
  pub file : FromTo (λ a b. IsNewNode (record { now = bytes; kept = [] }) a.state b.state (present b.state at)) before now

-- a call begins a file
abbrev pub Begins : Path → Option Told → Option Told → Result (Unit {0}) FolderFault → Type 0
Begins at old new result = (files : List (List ℕ)) → IsFrontOfOne files [] → Stages files at old new × OnOk result (IsWriting files at [] old new)

-- A call adds a piece to the file, since whenever it has been written, as long as that makes a front part of one of the files.
abbrev pub Adds : Path → List ℕ → Option Told → Option Told → Result (Unit {0}) FolderFault → Type 0
Adds at piece old new result =
    (before : Option Told) (files : List (List ℕ)) (bytes : List ℕ) → IsFrontOfOne files (bytes ++ piece) → IsWriting files at bytes before old
    → Stages files at before new × OnOk result (IsWriting files at (bytes ++ piece) before new)

-- a call makes it last
abbrev pub Finishes : Path → Option Told → Option Told → Result (Unit {0}) FolderFault → Type 0
Finishes at old new result =
    (before : Option Told) (files : List (List ℕ)) (bytes : List ℕ) → IsWriting files at bytes before old
    → Stages files at before new × OnOk result (FromTo (λ a b. IsNewFile bytes a.state b.state (present b.state at)) before new)
