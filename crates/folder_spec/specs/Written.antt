-- What the files hold that have been made since a state.
use Rattle.std.specs.Prelude.{◌≡◌, ℕ, ◌<◌, ◌≤◌, List, [], ◌++◌, Contains}
use Rattle.folder_spec.specs.declared.Spot.TheVariants.{FileNode}
use Rattle.folder_spec.specs.State.{State, present, BeginsWith}
use Rattle.folder_spec.specs.Event.{Call, MakeDir, Create, Append, Sync, Settle, Rename, RemoveFile, RemoveDir}

-- the bytes are a front part of one of these files
pub record IsFrontOfOne (files : List (List ℕ)) (bytes : List ℕ) : Type 0 where
  pub file : List ℕ
  pub among : Contains files file
  pub front : BeginsWith file bytes

-- each file node made since s0 holds a front part of one of these files
abbrev pub HoldFronts : List (List ℕ) → State → State → Type 0
HoldFronts files s0 s = (n : ℕ) → s0.made ≤ n → n < s.made → IsFrontOfOne files (s.nodes n).now

-- what the call makes of a file is a front part of one of these
abbrev pub WritesFronts : List (List ℕ) → State → Call → Type 0
WritesFronts files s (Create p) = IsFrontOfOne files []
WritesFronts files s (Append p piece) = (n : ℕ) → present s p ≡ FileNode n → IsFrontOfOne files ((s.nodes n).now ++ piece)
WritesFronts files s (MakeDir p) = Unit {0}
WritesFronts files s (Sync p) = Unit {0}
WritesFronts files s Settle = Unit {0}
WritesFronts files s (Rename old new) = Unit {0}
WritesFronts files s (RemoveFile p) = Unit {0}
WritesFronts files s (RemoveDir p) = Unit {0}
