-- How a migration whose source is retired goes on from call to call.
use Rattle.std.proofs.Common.{◌≡◌, ◌≢◌, ℕ, List, [], ◌∷◌, ◌++◌, Option, Some, Result, refl, sym, ap, ◌∙◌, inl, inr, subst, append_assoc, codes, is_some, IsTrue}
use Rattle.folder_spec.proofs.Moments.{went_by_call, went_more, went_on, went_to}
use Rattle.folder_spec.proofs.Paths.{append-cancel, below-append}
use Rattle.folder_spec.proofs.Seen.{none_seen}
use Rattle.folder_spec.proofs.Sound.{changed_sound}
use Rattle.folder_spec.proofs.Tables.{present_is_table}
use Rattle.folder_spec.proofs.Tellings.{from_to_more, from_to_on}
use Rattle.folder_spec.specs.declared.FolderFault.{FolderFault}
use Rattle.folder_spec.specs.declared.Spot.TheVariants.{Nothing}
use Rattle.folder_spec.specs.Event.{Call, MakeDir, Create, Append, Sync, Settle, Rename, RemoveFile, RemoveDir, Outcome, Done, Fell, Denied, Event, Allowed, Changes, Steps, Told, after, changed, outcome_state}
use Rattle.folder_spec.specs.Moments.{EachEvent, EachState, WasAllowed, WasAllowedBy, Went}
use Rattle.folder_spec.specs.Path.{Part, Path, child}
use Rattle.folder_spec.specs.Region.{at_or_below}
use Rattle.folder_spec.specs.Seen.{seen}
use Rattle.folder_spec.specs.State.{State, present}
use Rattle.folder_spec.specs.View.{NoEntry}
use Rattle.folder_staging.specs.Removal.{IsRemoving, IsWithin, Reach, Removes, RemovesWithin, deepest, from}
use Rattle.folder_staging.specs.declared.removal.RemovalFault.{RemovalFault}
use Rattle.migration_spec.proofs.Along.{nothing_each}
use Rattle.migration_spec.proofs.Guards.{ImagesShow, RootsAreAlike}
use Rattle.migration_spec.specs.Alone.{StaysGuarded}
use Rattle.migration_spec.specs.Guard.{Migration, Guarded, old_path}
use Rattle.work_folder.specs.Entries.{journal_path}
use Rattle.retire_core.proofs.RetiredTables.{removing, retiring_guarded, same_nodes}
use Rattle.retire_core.specs.Guarding.{IsAtRest, IsDoneAtRest, IsRetiredTable, IsRetiring, KeepsDone, KeepsFromRest, KeepsRetiring}
use Rattle.migration_spec.proofs.Settling.{still_guarded}

-- ---- one after the other

abbrev pub StaysRetiring : Migration → Told → Told → Type 0
StaysRetiring g = Went (IsRetiring g) (λ s e. Unit {0})

pub retiring_then : (g : Migration) (t u w : Option Told) → KeepsRetiring g t u → KeepsRetiring g u w → KeepsRetiring g t w
retiring_then g t u w first second =
    from_to_on (λ a b. IsRetiring g a.state → StaysRetiring g a b) (λ a b. IsRetiring g a.state → StaysRetiring g a b) (λ a b. IsRetiring g a.state → StaysRetiring g a b) t u w
    (λ a b c one two is.
    let went : StaysRetiring g a b = one is in
    went_on (IsRetiring g) (λ s e. Unit {0}) a b c went (two (went_to (IsRetiring g) (λ s e. Unit {0}) a b went))) first second

-- it is guarded meanwhile
pub retiring_stays : RootsAreAlike → ImagesShow → (g : Migration) (a b : Told) → StaysRetiring g a b → StaysGuarded g a b
retiring_stays alike shown g a b went = went_more (IsRetiring g) (Guarded g) (λ s e. Unit {0}) (λ s e. Unit {0}) a b (λ s is. retiring_guarded alike shown g s is) (λ s e is. tt) went

pub rest_same : (g : Migration) (t u : Option Told) → u ≡ t → KeepsFromRest g t u
rest_same g t u = still_guarded (IsAtRest g) g t u (λ s at. at.guarded)

pub done_same : (g : Migration) (t u : Option Told) → u ≡ t → KeepsDone g t u
done_same g t u = still_guarded (IsDoneAtRest g) g t u (λ s at. at.rest.guarded)

-- ---- one call

-- a call that does nothing where it fails
abbrev pub IsWhole : Call → Type 0
IsWhole (Append p piece) = ⊥
IsWhole (MakeDir p) = Unit {0}
IsWhole (Create p) = Unit {0}
IsWhole (Sync p) = Unit {0}
IsWhole Settle = Unit {0}
IsWhole (Rename old new) = Unit {0}
IsWhole (RemoveFile p) = Unit {0}
IsWhole (RemoveDir p) = Unit {0}

pub fallen_same : (P : State → Type 0) (s : State) (call : Call) (added : ℕ) → IsWhole call → P s → P (outcome_state s call (Fell added))
fallen_same P s (Append p piece) added whole here = absurd whole
fallen_same P s (MakeDir p) added whole here = here
fallen_same P s (Create p) added whole here = here
fallen_same P s (Sync p) added whole here = here
fallen_same P s Settle added whole here = here
fallen_same P s (Rename old new) added whole here = here
fallen_same P s (RemoveFile p) added whole here = here
fallen_same P s (RemoveDir p) added whole here = here

pub retiring_call : (g : Migration) (call : Call) (t u : Option Told) (result : Result (Unit {0}) FolderFault) → IsWhole call
    → ((a : Told) → t ≡ Some a → Allowed a.state call → IsRetiring g a.state → IsRetiring g (changed a.state call)) → Changes call t u result → KeepsRetiring g t u
retiring_call g call t u result whole goes changes =
    from_to_more (λ a b. Steps call a b result) (λ a b. IsRetiring g a.state → StaysRetiring g a b) t u
    (λ a b at steps is. went_by_call (IsRetiring g) (λ s e. Unit {0}) call a b result is (λ allowed. goes a at allowed is)
    (λ added allowed. fallen_same (IsRetiring g) a.state call added whole is) (λ outcome. tt) steps) changes

-- a settle leaves the present table alone
pub settled_retiring : (g : Migration) (s : State) → IsRetiring g s → IsRetiring g (changed s Settle)
settled_retiring g s is = record {
  sound = changed_sound s Settle is.sound tt;
  separate = is.separate;
  tables = λ t among. elim among as (λ _. IsRetiredTable g (changed s Settle) t) [
    | inl same ↦ same_nodes g s (changed s Settle) t refl (subst (IsRetiredTable g s) (sym same) (is.tables (present s) (present_is_table s)))
    | inr none ↦ absurd none
  ];
}

-- what is in the work folder
pub behind_inside : (work : Path) (rest : Path) → IsTrue (at_or_below work (work ++ rest))
behind_inside work rest = ap is_some (below-append work rest)

pub nothing_seen : (s : State) (q : Path) → seen s q ≡ NoEntry → present s q ≡ Nothing
nothing_seen s q none = none_seen (λ n. (s.nodes n).now) (present s q) none

-- a file or a directory in the work folder is removed
pub removed_file : RootsAreAlike → (g : Migration) (s : State) (p : Path) → IsTrue (at_or_below g.work p) → (p ≡ journal_path g.work → present s (old_path g.work) ≡ Nothing)
    → Allowed s (RemoveFile p) → IsRetiring g s → IsRetiring g (changed s (RemoveFile p))
removed_file alike g s p inside last allowed is = removing alike g s p is inside last (changed_sound s (RemoveFile p) is.sound allowed)

pub removed_dir : RootsAreAlike → (g : Migration) (s : State) (p : Path) → IsTrue (at_or_below g.work p) → (p ≡ journal_path g.work → present s (old_path g.work) ≡ Nothing)
    → Allowed s (RemoveDir p) → IsRetiring g s → IsRetiring g (changed s (RemoveDir p))
removed_dir alike g s p inside last allowed is = removing alike g s p is inside last (changed_sound s (RemoveDir p) is.sound allowed)

-- ---- a removal of an entry other than the journal

module _ (alike : RootsAreAlike) (g : Migration) (name : Part) (other : name ≢ codes "journal") where
  abbrev r : Reach
  r = from (child g.work name) deepest

  within_inside : (p : Path) → IsWithin r p → IsTrue (at_or_below g.work p)
  within_inside p within = subst (λ q. IsTrue (at_or_below g.work q)) (sym (within.is ∙ append_assoc g.work (name ∷ []) within.rest)) (behind_inside g.work (name ∷ within.rest))

  not_journal : (p : Path) → IsWithin r p → p ≡ journal_path g.work → ⊥
  not_journal p within is =
      other (first (append-cancel g.work (name ∷ within.rest) (codes "journal" ∷ []) (sym (within.is ∙ append_assoc g.work (name ∷ []) within.rest) ∙ is)))
    where
      first : {rest : Path} → name ∷ rest ≡ codes "journal" ∷ [] → name ≡ codes "journal"
      first e = cc e

  step : (s : State) (call : Call) (outcome : Outcome) → RemovesWithin r call → WasAllowedBy s call outcome → IsRetiring g s → IsRetiring g (outcome_state s call outcome)
  step s (RemoveFile p) Done within allowed is = removed_file alike g s p (within_inside p within) (λ same. absurd (not_journal p within same)) allowed is
  step s (RemoveDir p) Done within allowed is = removed_dir alike g s p (within_inside p within) (λ same. absurd (not_journal p within same)) allowed is
  step s (RemoveFile p) (Fell added) within allowed is = is
  step s (RemoveDir p) (Fell added) within allowed is = is
  step s (RemoveFile p) Denied within allowed is = is
  step s (RemoveDir p) Denied within allowed is = is
  step s (MakeDir p) outcome within allowed is = absurd within
  step s (Create p) outcome within allowed is = absurd within
  step s (Append p piece) outcome within allowed is = absurd within
  step s (Sync p) outcome within allowed is = absurd within
  step s Settle outcome within allowed is = absurd within
  step s (Rename old new) outcome within allowed is = absurd within

  retiring_along : (s : State) (es : List Event) → IsRetiring g s → EachEvent (λ s e. RemovesWithin r e.call) s es → EachEvent WasAllowed s es → EachState (IsRetiring g) s es
  retiring_along s [] is within allowed = is
  retiring_along s (e ∷ es) is within allowed = (is, retiring_along (after s e) es (step s e.call e.outcome within.0 allowed.0 is) within.1 allowed.1)

  pub removal_retiring : (a b : Told) → Went (IsRemoving r a.state) (λ s e. RemovesWithin r e.call) a b → IsRetiring g a.state → StaysRetiring g a b
  removal_retiring a b went is = record {
    events = went.events;
    log = went.log;
    state = went.state;
    states = retiring_along a.state went.events is went.each went.allowed;
    each = nothing_each a.state went.events;
    allowed = went.allowed;
  }

pub removes_retiring : RootsAreAlike → (g : Migration) (work : Path) (name : Part) → name ≢ codes "journal" → g.work ≡ work → (t u : Option Told) (n m : ℕ) (result : Result (Unit {0}) RemovalFault)
    → Removes (from (child work name) deepest) t u n m result → KeepsRetiring g t u
removes_retiring alike g work name other same t u n m result removes =
    let reach = from (child g.work name) deepest in
    from_to_more (λ a b. Went (IsRemoving reach a.state) (λ s e. RemovesWithin reach e.call) a b) (λ a b. IsRetiring g a.state → StaysRetiring g a b) t u
    (λ a b is went retiring. removal_retiring alike g name other a b went retiring) (subst (λ w. Removes (from (child w name) deepest) t u n m result) (sym same) removes).moments
