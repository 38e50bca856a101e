-- Calls that change nothing, one after another; and calls that do so unless their tests pass.
use Rattle.std.proofs.Common.{◌≡◌, ◌∙◌, ◌⊎◌, Option, Result, inl, inr, refl, subst, sym}
use Rattle.folder_spec.proofs.Moments.{went_by_call, went_nowhere, went_on}
use Rattle.folder_spec.proofs.Tellings.{from_to_more, from_to_on, from_to_same}
use Rattle.folder_spec.specs.Event.{Changes, Event, Settle, Steps, Told}
use Rattle.folder_spec.specs.Moments.{Went}
use Rattle.folder_spec.specs.Seen.{IfSeen, IsSeen}
use Rattle.folder_spec.specs.State.{State}
use Rattle.folder_spec.specs.View.{View}
use Rattle.folder_spec.specs.declared.FolderFault.{FolderFault}
use Rattle.migration_sides.specs.Unchanged.{ChangesNothing}

abbrev Any : State → Type 0
Any s = Unit {0}

abbrev Settles : State → Event → Type 0
Settles s e = e.call ≡ Settle

pub unchanged : (t u : Option Told) → u ≡ t → ChangesNothing t u
unchanged t u is = from_to_same (λ a b. Went Any Settles a b) t u is (λ a. went_nowhere Any Settles a tt)

pub unchanged_settled : (t u : Option Told) (result : Result (Unit {0}) FolderFault) → Changes Settle t u result → ChangesNothing t u
unchanged_settled t u result changes =
    from_to_more (λ a b. Steps Settle a b result) (λ a b. Went Any Settles a b) t u
    (λ a b is steps. went_by_call Any Settles Settle a b result tt (λ allowed. tt) (λ added allowed. tt) (λ outcome. refl) steps) changes

pub unchanged_on : (t u w : Option Told) → ChangesNothing t u → ChangesNothing u w → ChangesNothing t w
unchanged_on t u w first later =
    from_to_on (λ a b. Went Any Settles a b) (λ a b. Went Any Settles a b) (λ a b. Went Any Settles a b) t u w (λ a b c p q. went_on Any Settles a b c p q) first later

-- ---- unless tests pass

module _ (t u w : Option Told) (P : View → Type 0) (tested : (w ≡ u) ⊎ IfSeen u P) where
  -- behind a call that changes nothing
  pub tested_on : (Q : View → Type 0) → u ≡ t → ((v : View) → IsSeen t v → P v → Q v) → (w ≡ t) ⊎ IfSeen t Q
  tested_on Q same more = elim tested [
    | inl unchanged ↦ inl (unchanged ∙ same)
    | inr passed ↦ inr (λ v is. more v is (passed v (subst (λ t. IsSeen t v) (sym same) is)))
  ]

  -- behind settling
  pub tested_settled : ChangesNothing t u → IfSeen t (λ v. IsSeen u v) → ChangesNothing t w ⊎ IfSeen t P
  tested_settled settled known = elim tested [
    | inl same ↦ inl (unchanged_on t u w settled (unchanged u w same))
    | inr passed ↦ inr (λ v is. passed v (known v is))
  ]

-- of what is seen at first
pub tested_seen : (t u : Option Told) (P : View → Type 0) (v : View) → IsSeen t v → ChangesNothing t u ⊎ IfSeen t P → ChangesNothing t u ⊎ P v
tested_seen t u P v is (inl still) = inl still
tested_seen t u P v is (inr passed) = inr (passed v is)
