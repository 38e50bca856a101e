-- How a call leads a migration on: guarded at each moment, and after Ok as far as it is to come.
use Rattle.std.specs.Prelude.{◌≡◌, Option, Result, IfOk}
use Rattle.folder_spec.specs.Event.{Told, FromTo}
use Rattle.folder_spec.specs.Path.{Path}
use Rattle.folder_spec.specs.Seen.{seen}
use Rattle.folder_spec.specs.State.{State, IsSound}
use Rattle.move_journal.specs.declared.journal.Journal.{Journal}
use Rattle.move_journal.specs.declared.journal.Phase.{Phase}
use Rattle.move_journal.specs.declared.journal.Phase.TheVariants as phase
use Rattle.migration_spec.specs.Alone.{Progress, Begun, Finished, IsAlone, IsIn, StaysGuarded}
use Rattle.migration_spec.specs.Guard.{Migration, Guarded, HoldsAll, Tells}
use Rattle.plain_tree.specs.declared.name_map.NameMap.{NameMap}
use Rattle.vault_spec.specs.Opened.{OpenedVault}
use Rattle.migrate_core.specs.Sides.{AreSides}

-- the migration is guarded, and where no change is pending of what stands in both vaults and at the journal
pub record IsSettled (g : Migration) (s : State) : Type 0 where
  pub sound : IsSound s
  pub guarded : Guarded g s
  pub alone : (p : Progress) → IsIn g p (seen s) → IsAlone g p s

abbrev pub KeepsSettled : Migration → Option Told → Option Told → Type 0
KeepsSettled g = FromTo (λ a b. IsSettled g a.state → StaysGuarded g a b)

-- where the migration had come so far, it is guarded at each moment
abbrev pub Guards : Migration → Progress → Option Told → Option Told → Type 0
Guards g p = FromTo (λ a b. IsAlone g p a.state → StaysGuarded g a b)

-- and then it has come that far
abbrev pub Leads : Migration → Progress → Progress → Option Told → Option Told → Type 0
Leads g p q = FromTo (λ a b. IsAlone g p a.state → IsAlone g q b.state)

-- the one at each moment of a call, and the other after Ok
abbrev pub Goes : {T E : Type 0} → Migration → Progress → Progress → Option Told → Option Told → Result T E → Type 0
Goes g p q told told' result = Guards g p told told' × IfOk result (λ value. Leads g p q told told')

-- each migration of these vaults through this work folder
abbrev pub LeadsEach : {T E : Type 0} → NameMap → OpenedVault → OpenedVault → Path → Progress → Progress → Option Told → Option Told → Result T E → Type 0
LeadsEach rule from to through p q told told' result = (g : Migration) → AreSides g rule from to through → Goes g p q told told' result

-- the same without an answer
abbrev pub HasLed : NameMap → OpenedVault → OpenedVault → Path → Progress → Progress → Option Told → Option Told → Type 0
HasLed rule from to through p q told told' = (g : Migration) → AreSides g rule from to through → Guards g p told told' × Leads g p q told told'

-- each of which this journal tells
abbrev pub LeadsTold : {T E : Type 0} → OpenedVault → OpenedVault → Path → Journal → Progress → Progress → Option Told → Option Told → Result T E → Type 0
LeadsTold from to through journal p q told told' result = (g : Migration) → AreSides g journal.names from to through → Tells g journal → Goes g p q told told' result

-- how far a migration has come whose journal is in this phase
abbrev pub progress_of : Phase → Progress
progress_of phase.Building = Begun
progress_of phase.Done = Finished

-- Once the target holds all that the source held, each migration that the journal tells is guarded at each moment; and after Ok it has
-- finished.
abbrev pub FinishesFrom : {T E : Type 0} → Migration → Progress → Option Told → Option Told → Result T E → Type 0
FinishesFrom g p told told' result =
    FromTo (λ a b. IsAlone g p a.state → HoldsAll g (seen a.state) → StaysGuarded g a b) told told'
    × IfOk result (λ value. FromTo (λ a b. IsAlone g p a.state → HoldsAll g (seen a.state) → IsAlone g Finished b.state) told told')

abbrev pub FinishesEach : {T E : Type 0} → Path → Journal → Option Told → Option Told → Result T E → Type 0
FinishesEach work journal told told' result = (g : Migration) → work ≡ g.work → Tells g journal → FinishesFrom g (progress_of journal.phase) told told' result
