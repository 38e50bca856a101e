-- A file is begun, written and made to last, call by call.
use Rattle.std.proofs.Common.{◌≡◌, ℕ, List, [], ◌++◌, Option, Some, None, Result, Ok, Err, ap, ◌∙◌, subst}
use Rattle.folder_spec.specs.declared.FolderFault.{FolderFault}
use Rattle.folder_spec.specs.Path.{Path}
use Rattle.folder_spec.specs.State.{Node, present}
use Rattle.folder_spec.specs.Event.{Create, Append, Sync, IsFree, Allowed, Told, Changes, FromTo}
use Rattle.folder_spec.specs.View.{FileOf, found}
use Rattle.folder_spec.specs.Seen.{IfSeen, ShowsFile, seen}
use Rattle.folder_spec.specs.Replace.{IsNewNode, IsNewFile}
use Rattle.folder_spec.proofs.Tellings.{from_to_both, from_to_more}
use Rattle.folder_spec.proofs.Seen.{has_file_seen, seen_of}
use Rattle.folder_spec.proofs.Stages.{Staging, IsStagedAs, creating_from, created_from, appending_from, appended_from, syncing_from, synced_from, staging_of_none}
use Rattle.folder_staging.specs.Pieces.{IsWriting, Begins, Adds, Finishes}

as_staged : (files : List (List ℕ)) (at : Path) (bytes : List ℕ) (t u : Option Told) → IsWriting files at bytes t u → FromTo (IsStagedAs files at (record { now = bytes; kept = [] })) t u
as_staged files at bytes t u h =
    from_to_both (Staging files at) (λ a b. IsNewNode (record { now = bytes; kept = [] }) a.state b.state (present b.state at)) t u h.stages h.file

as_writing : (files : List (List ℕ)) (at : Path) (bytes : List ℕ) (t u : Option Told) → FromTo (IsStagedAs files at (record { now = bytes; kept = [] })) t u → IsWriting files at bytes t u
as_writing files at bytes t u h = record {
  stages = from_to_more (IsStagedAs files at (record { now = bytes; kept = [] })) (Staging files at) t u (λ a b is k. k.0) h;
  file = from_to_more (IsStagedAs files at (record { now = bytes; kept = [] })) (λ a b. IsNewNode (record { now = bytes; kept = [] }) a.state b.state (present b.state at)) t u
      (λ a b is k. k.1) h;
}

-- where the place was not cleared
pub begins_nothing : (at : Path) (t u : Option Told) (fault : FolderFault) → FromTo (Staging [] at) t u → Begins at t u (Err fault)
begins_nothing at t u fault cleared files empty = (staging_of_none files at t u cleared, tt)

pub begins_from : (at : Path) (t0 t1 t2 : Option Told) (result : Result (Unit {0}) FolderFault) → FromTo (Staging [] at) t0 t1 → Changes (Create at) t1 t2 result
    → Begins at t0 t2 result
begins_from at t0 t1 t2 (Err fault) cleared changes files empty =
    (creating_from files at t0 t1 t2 (Err fault) empty (staging_of_none files at t0 t1 cleared) changes, tt)
begins_from at t0 t1 t2 (Ok done) cleared changes files empty = (
  creating_from files at t0 t1 t2 (Ok done) empty (staging_of_none files at t0 t1 cleared) changes,
  as_writing files at [] t0 t2 (created_from files at t0 t1 t2 empty (staging_of_none files at t0 t1 cleared) changes),
)

pub adds_from : (at : Path) (piece : List ℕ) (t u : Option Told) (result : Result (Unit {0}) FolderFault) → Changes (Append at piece) t u result → Adds at piece t u result
adds_from at piece t u (Err fault) changes before files bytes front h =
    (appending_from files at before t u (Err fault) piece (record { now = bytes; kept = [] }) front (as_staged files at bytes before t h) changes, tt)
adds_from at piece t u (Ok done) changes before files bytes front h = (
  appending_from files at before t u (Ok done) piece (record { now = bytes; kept = [] }) front (as_staged files at bytes before t h) changes,
  as_writing files at (bytes ++ piece) before u (appended_from files at before t u piece (record { now = bytes; kept = [] }) front (as_staged files at bytes before t h) changes),
)

pub finishes_from : (at : Path) (t u : Option Told) (result : Result (Unit {0}) FolderFault) → Changes (Sync at) t u result → Finishes at t u result
finishes_from at t u (Err fault) changes before files bytes h =
    (syncing_from files at before t u (Err fault) (record { now = bytes; kept = [] }) (as_staged files at bytes before t h) changes, tt)
finishes_from at t u (Ok done) changes before files bytes h = (
  syncing_from files at before t u (Ok done) (record { now = bytes; kept = [] }) (as_staged files at bytes before t h) changes,
  from_to_more (IsStagedAs files at (record { now = bytes; kept = bytes })) (λ a b. IsNewFile bytes a.state b.state (present b.state at)) before u (λ a b is k. k.1)
      (synced_from files at before t u (record { now = bytes; kept = [] }) (as_staged files at bytes before t h) changes),
)

-- a new file is seen
pub new_file_seen : (at : Path) (node : Node) (before now : Option Told) → FromTo (λ a b. IsNewNode node a.state b.state (present b.state at)) before now
    → IfSeen now (λ v. v at ≡ FileOf node.now)
new_file_seen at node (Some a) (Some b) file v is =
    ap (λ w. w at) is ∙ ap (found (λ n. (b.state.nodes n).now)) file.is ∙ ap (λ (x : Node). FileOf x.now) file.holds
new_file_seen at node None (Some b) file v is = absurd file
new_file_seen at node before None file v is = absurd is

pub writing_seen : (files : List (List ℕ)) (at : Path) (bytes : List ℕ) (before now : Option Told) → IsWriting files at bytes before now → IfSeen now (λ v. v at ≡ FileOf bytes)
writing_seen files at bytes before now h v is = new_file_seen at (record { now = bytes; kept = [] }) before now h.file v is

-- so a call on it is allowed
pub file_allowed : (t : Option Told) (at : Path) → IfSeen t (λ v. ShowsFile v at) → (a : Told) → t ≡ Some a → Allowed a.state (Sync at)
file_allowed t at shown a is = has_file_seen a.state at (shown (seen a.state) (seen_of t a is))

pub free_allowed : (at : Path) (t u : Option Told) → FromTo (λ a b. IsFree (present b.state) at) t u → (a : Told) → u ≡ Some a → Allowed a.state (Create at)
free_allowed at (Some a) (Some b) free c is = let same : b ≡ c = cc is in subst (λ (d : Told). IsFree (present d.state) at) same free
free_allowed at None (Some b) free c is = absurd free
free_allowed at t None free c is = cc is
