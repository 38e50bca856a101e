-- A migration between its steps: how far it has come, where no change is pending of what stands in both vaults and at the journal.
use Rattle.std.specs.Prelude.{[], ◌∷◌, Option}
use Rattle.folder_spec.specs.Event.{Told, FromTo}
use Rattle.folder_spec.specs.Moments.{Went}
use Rattle.folder_spec.specs.State.{State, IsSound}
use Rattle.folder_spec.specs.View.{View, ShowsAmong}
use Rattle.migration_spec.specs.Guard.{Migration, Guarded, IsNotBegun, IsBuilding, IsDone, is_kept}

-- how far a migration has come whose source is still there
pub data Progress : Type 0 where
  Unbegun : Progress
  Begun : Progress
  Finished : Progress

abbrev pub IsIn : Migration → Progress → View → Type 0
IsIn g Unbegun v = IsNotBegun g v
IsIn g Begun v = IsBuilding g v
IsIn g Finished v = IsDone g v

-- The migration is guarded and has come so far, and one view alone is shown of what stands in both vaults and at the journal.
pub record IsAlone (g : Migration) (progress : Progress) (s : State) : Type 0 where
  pub sound : IsSound s
  pub guarded : Guarded g s
  pub view : View
  pub alone : ShowsAmong (is_kept g) s (view ∷ [])
  pub holds : IsIn g progress view

-- at each moment the migration is guarded
abbrev pub StaysGuarded : Migration → Told → Told → Type 0
StaysGuarded g = Went (Guarded g) (λ s e. Unit {0})

-- at each moment it has come so far, and one view alone is shown
abbrev pub StaysAlone : Migration → Progress → Told → Told → Type 0
StaysAlone g progress = Went (IsAlone g progress) (λ s e. Unit {0})

-- a migration that is guarded when a call begins is guarded at each moment of it
abbrev pub KeepsGuarded : Migration → Option Told → Option Told → Type 0
KeepsGuarded g = FromTo (λ a b. Guarded g a.state → StaysGuarded g a b)
