-- Removing all that stands at a path or below it, the deepest first.
use Rattle.std.specs.Prelude.{◌≡◌, ◌≢◌, ℕ, ◌<◌, ◌≤◌, ◌⊎◌, ◌++◌, length, Option, Result, Ok, Err, OnOk}
use Rattle.port_model.specs.Counts.{CountRose}
use Rattle.folder_spec.specs.declared.FolderFault.{FolderFault}
use Rattle.folder_spec.specs.declared.FolderFault.TheVariants as folder
use Rattle.folder_spec.specs.declared.Spot.TheVariants.{Nothing, Odd}
use Rattle.folder_spec.specs.Path.{Path}
use Rattle.folder_spec.specs.State.{Table, State, present, IsTableOf}
use Rattle.folder_spec.specs.Event.{Call, MakeDir, Create, Append, Sync, Settle, Rename, RemoveFile, RemoveDir, Told}
use Rattle.folder_spec.specs.Moments.{Moments}
use Rattle.folder_spec.specs.View.{NoEntry, Special, View}
use Rattle.folder_spec.specs.Seen.{IfSeen}
use Rattle.folder_staging.specs.declared.removal.RemovalFault.{RemovalFault}
use Rattle.folder_staging.specs.declared.removal.RemovalFault.TheVariants.{Depth, Other, Failed, NoMemory}

-- how many parts below a path a removal goes down to
abbrev pub deepest : ℕ
deepest = 128

-- the paths that come by at least and at most so many parts below one
pub record Reach : Type 0 where
  pub at : Path
  pub least : ℕ
  pub most : ℕ

-- a path and all below it, down to so many parts
abbrev pub from : Path → ℕ → Reach
from at most = record { at = at; least = 0; most = most }

-- all below a path
abbrev pub below_only : Path → ℕ → Reach
below_only at most = record { at = at; least = 1; most = most }

pub record IsWithin (r : Reach) (q : Path) : Type 0 where
  pub rest : Path
  pub is : q ≡ r.at ++ rest
  pub least : r.least ≤ length rest
  pub most : length rest ≤ r.most

-- The first table has what the second one had, or nothing where a file or a directory stood within the reach.
abbrev pub IsThinned : Reach → Table → Table → Type 0
IsThinned r t u = (q : Path) → (t q ≡ u q) ⊎ (IsWithin r q × (t q ≡ Nothing) × (u q ≢ Odd))

-- Since s0 files and directories within the reach may have been removed. Each table has elsewhere what a table of s0 had, and
-- there that or nothing. No file was written or made.
pub record IsRemoving (r : Reach) (s0 s : State) : Type 0 where
  pub tables : (t : Table) → IsTableOf s t → (u : Table) × IsTableOf s0 u × IsThinned r t u
  pub seen : IsThinned r (present s) (present s0)
  pub nodes : s.nodes ≡ s0.nodes
  pub made : s.made ≡ s0.made

-- the call removes a file or a directory within the reach
abbrev pub RemovesWithin : Reach → Call → Type 0
RemovesWithin r (RemoveFile p) = IsWithin r p
RemovesWithin r (RemoveDir p) = IsWithin r p
RemovesWithin r (MakeDir p) = ⊥
RemovesWithin r (Create p) = ⊥
RemovesWithin r (Append p piece) = ⊥
RemovesWithin r (Sync p) = ⊥
RemovesWithin r Settle = ⊥
RemovesWithin r (Rename old new) = ⊥

-- nothing is seen within the reach, or deeper
abbrev pub IsBare : Reach → View → Type 0
IsBare r v = (rest : Path) → r.least ≤ length rest → v (r.at ++ rest) ≡ NoEntry

-- What a removal answers, by what was seen at its entry: it is done only where all that stood there was a file or a directory
-- and nothing stood deeper, and else names what it met.
abbrev pub RemovesAs : Reach → View → Result (Unit {0}) RemovalFault → Type 0
RemovesAs r v (Ok done) = (rest : Path) → r.least ≤ length rest → (v (r.at ++ rest) ≢ Special) × (r.most < length rest → v (r.at ++ rest) ≡ NoEntry)
RemovesAs r v (Err Depth) = (rest : Path) × (r.most < length rest) × (v (r.at ++ rest) ≢ NoEntry)
RemovesAs r v (Err (Other p)) = IsWithin r p × (v p ≡ Special)
RemovesAs r v (Err Failed) = Unit {0}
RemovesAs r v (Err NoMemory) = Unit {0}

-- A removal within the reach, from what a folder told and its count of faults before to those afterwards.
pub record Removes (r : Reach) (before after : Option Told) (old new : ℕ) (result : Result (Unit {0}) RemovalFault) : Type 0 where
  pub moments : Moments (IsRemoving r) (λ s0 s e. RemovesWithin r e.call) before after
  pub bare : OnOk result (IfSeen after (λ v. IsBare r v))
  pub answer : IfSeen before (λ v. RemovesAs r v result)
  pub grows : old ≤ new
  pub failed : result ≡ Err Failed → CountRose old new

-- the fault of a folder, as a removal tells it
abbrev pub fault_of : FolderFault → RemovalFault
fault_of folder.Failed = Failed
fault_of folder.Refused = Failed
fault_of folder.NoMemory = NoMemory

abbrev pub ended_as : Result (Unit {0}) FolderFault → Result (Unit {0}) RemovalFault
ended_as (Ok done) = Ok done
ended_as (Err fault) = Err (fault_of fault)
