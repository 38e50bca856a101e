-- Words of private contracts: what stands in a work folder that is removed, and what its removal and that of the source change.
use Rattle.std.specs.Prelude.{◌≡◌, ◌≢◌, ◌⊎◌, codes, None, Option, IsTrue}
use Rattle.folder_spec.specs.Path.{Part, Path, below, child}
use Rattle.folder_spec.specs.Event.{Call, MakeDir, Create, Append, Sync, Settle, Rename, RemoveFile, RemoveDir, FromTo, Told}
use Rattle.folder_spec.specs.Moments.{Moments, Went}
use Rattle.folder_spec.specs.Region.{IsAsBefore, apart_from, apart_from_both, at_or_below}
use Rattle.folder_spec.specs.Seen.{IfSeen, IsSeen, ShowsFile, seen}
use Rattle.folder_spec.specs.State.{State, present}
use Rattle.folder_spec.specs.View.{Folder, NoEntry, View}
use Rattle.migration_spec.specs.Guard.{old_path}
use Rattle.work_folder.specs.Entries.{journal_path}
use Rattle.retire_core.specs.Retiring.{Retiring, IsHeld, StandsBesideOld}

-- the work folder has a journal, and beside it only what has its place there
pub record IsInOrder (v : View) (work : Path) : Type 0 where
  pub folder : v work ≡ Folder
  pub journal : ShowsFile v (journal_path work)
  pub others : (name : Part) → name ≢ codes "journal" → name ≢ codes "journal.new" → name ≢ codes "stage" → name ≢ codes "old" → v (child work name) ≡ NoEntry

-- it has nothing but the journal
pub record HasOnlyJournal (v : View) (work : Path) : Type 0 where
  pub folder : v work ≡ Folder
  pub journal : ShowsFile v (journal_path work)
  pub others : (name : Part) → name ≢ codes "journal" → v (child work name) ≡ NoEntry

-- The call removes something at a path or below it, where that was there when the calls began.
abbrev pub ClearsAt : Path → State → Call → Type 0
ClearsAt at s0 (RemoveFile p) = IsTrue (at_or_below at p) × (seen s0 at ≢ NoEntry)
ClearsAt at s0 (RemoveDir p) = IsTrue (at_or_below at p) × (seen s0 at ≢ NoEntry)
ClearsAt at s0 (MakeDir p) = ⊥
ClearsAt at s0 (Create p) = ⊥
ClearsAt at s0 (Append p piece) = ⊥
ClearsAt at s0 (Sync p) = ⊥
ClearsAt at s0 Settle = ⊥
ClearsAt at s0 (Rename old new) = ⊥

-- The call removes something in the work folder or the work folder itself, and nothing of `old`; or it settles.
abbrev pub ClearsBeside : Path → Call → Type 0
ClearsBeside work (RemoveFile p) = IsTrue (at_or_below work p) × (below (old_path work) p ≡ None)
ClearsBeside work (RemoveDir p) = IsTrue (at_or_below work p) × (below (old_path work) p ≡ None)
ClearsBeside work Settle = Unit {0}
ClearsBeside work (MakeDir p) = ⊥
ClearsBeside work (Create p) = ⊥
ClearsBeside work (Append p piece) = ⊥
ClearsBeside work (Sync p) = ⊥
ClearsBeside work (Rename old new) = ⊥

-- The call clears so, or it clears `old`.
abbrev pub Clears : Path → State → Call → Type 0
Clears work s0 call = ClearsAt (old_path work) s0 call ⊎ ClearsBeside work call

-- at every moment all that isn't at the path or below it is as it was, and each call only clears
abbrev pub ClearsEntry : Path → Option Told → Option Told → Type 0
ClearsEntry at = Moments (IsAsBefore (apart_from at)) (λ s0 s e. ClearsAt at s0 e.call)

abbrev pub ClearsRest : Path → Option Told → Option Told → Type 0
ClearsRest work = Moments (IsAsBefore (apart_from work)) (λ s0 s e. ClearsBeside work e.call)

abbrev pub ClearsOnly : Path → Option Told → Option Told → Type 0
ClearsOnly work = Moments (IsAsBefore (apart_from work)) (λ s0 s e. Clears work s0 e.call)

-- what isn't at a path or below it is seen as before
abbrev pub Leaves : Path → Option Told → Option Told → Type 0
Leaves at before after = (v w : View) → IsSeen before v → IsSeen after w → (q : Path) → below at q ≡ None → w q ≡ v q

-- nothing is seen at the path
abbrev pub IsGone : Path → Option Told → Type 0
IsGone at told = IfSeen told (λ v. v at ≡ NoEntry)

-- The call moves the source to `old`, as it was seen when the calls began; or it settles.
abbrev pub MovesAway : Path → Path → State → State → Call → Type 0
MovesAway from work s0 s (Rename old new) = (old ≡ from) × (new ≡ old_path work) × (seen s ≡ seen s0)
MovesAway from work s0 s Settle = Unit {0}
MovesAway from work s0 s (MakeDir p) = ⊥
MovesAway from work s0 s (Create p) = ⊥
MovesAway from work s0 s (Append p piece) = ⊥
MovesAway from work s0 s (Sync p) = ⊥
MovesAway from work s0 s (RemoveFile p) = ⊥
MovesAway from work s0 s (RemoveDir p) = ⊥

-- at every moment all but the source and the work folder is as it was, and each call only moves the source
abbrev pub MovesOnly : Path → Path → Option Told → Option Told → Type 0
MovesOnly from work = Moments (IsAsBefore (apart_from_both from work)) (λ s0 s e. MovesAway from work s0 s e.call)

-- where the target holds it
abbrev pub MovesHeld : Retiring → State → State → Call → Type 0
MovesHeld r s0 s call = MovesAway r.from r.work s0 s call × IsHeld r (seen s0)

abbrev pub MovesHeldOnly : Retiring → Option Told → Option Told → Type 0
MovesHeldOnly r = Moments (IsAsBefore (apart_from_both r.from r.work)) (λ s0 s e. MovesHeld r s0 s e.call)

-- Since s0 the journal stands beside `old`, and it stands there now.
pub record StandsStill (work : Path) (s0 s : State) : Type 0 where
  pub beside : StandsBesideOld work s0 s
  pub now : present s (journal_path work) ≡ present s0 (journal_path work)

-- where it was so, since whichever state, it is so at each moment
abbrev pub KeepsJournal : Path → Option Told → Option Told → Type 0
KeepsJournal work = FromTo (λ a b. (s0 : State) → StandsStill work s0 a.state → Went (StandsStill work s0) (λ s e. Unit {0}) a b)

-- and in the end the journal may go too
abbrev pub KeepsBeside : Path → Option Told → Option Told → Type 0
KeepsBeside work = FromTo (λ a b. (s0 : State) → StandsStill work s0 a.state → Went (StandsBesideOld work s0) (λ s e. Unit {0}) a b)
