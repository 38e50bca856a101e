-- Words of private contracts: how a guarded migration goes on while its source is retired.
use Rattle.std.specs.Prelude.{◌≡◌, ℕ, [], Option, IsTrue}
use Rattle.folder_spec.specs.declared.Spot.TheVariants.{FileNode}
use Rattle.folder_spec.specs.Event.{FromTo, Told}
use Rattle.folder_spec.specs.Moments.{Went}
use Rattle.folder_spec.specs.Path.{Path}
use Rattle.folder_spec.specs.Seen.{seen}
use Rattle.folder_spec.specs.State.{State, Table, IsClean, IsSound, IsTableOf}
use Rattle.folder_spec.specs.View.{view_in}
use Rattle.migration_spec.specs.Alone.{StaysGuarded}
use Rattle.migration_spec.specs.Guard.{Migration, Guarded, IsDone, IsRetired, IsSeparate, IsWork, has_old_by, is_kept, kinds_in}

-- the migration is guarded, and no directory change is pending
pub record IsAtRest (g : Migration) (s : State) : Type 0 where
  pub sound : IsSound s
  pub guarded : Guarded g s
  pub settled : s.later ≡ []

abbrev pub KeepsFromRest : Migration → Option Told → Option Told → Type 0
KeepsFromRest g = FromTo (λ a b. IsAtRest g a.state → StaysGuarded g a b)

-- and it is done, with its source still there
pub record IsDoneAtRest (g : Migration) (s : State) : Type 0 where
  pub rest : IsAtRest g s
  pub done : IsDone g (seen s)

abbrev pub KeepsDone : Migration → Option Told → Option Told → Type 0
KeepsDone g = FromTo (λ a b. IsDoneAtRest g a.state → StaysGuarded g a b)

-- a table in which the source is retired, with the journal or without it
pub record IsRetiredTable (g : Migration) (s : State) (t : Table) : Type 0 where
  pub clean : (q : Path) (n : ℕ) → IsTrue (is_kept g q) → t q ≡ FileNode n → IsClean (s.nodes n)
  pub retired : IsRetired g (view_in s t)
  pub work : IsWork (has_old_by g (view_in s t) retired.journal) (kinds_in (view_in s t)) g.work

-- in each table the source is retired
pub record IsRetiring (g : Migration) (s : State) : Type 0 where
  pub sound : IsSound s
  pub separate : IsSeparate g
  pub tables : (t : Table) → IsTableOf s t → IsRetiredTable g s t

-- it stays so at each moment
abbrev pub KeepsRetiring : Migration → Option Told → Option Told → Type 0
KeepsRetiring g = FromTo (λ a b. IsRetiring g a.state → Went (IsRetiring g) (λ s e. Unit {0}) a b)

-- it is so after a call
abbrev pub ComesToRetiring : Migration → Option Told → Option Told → Type 0
ComesToRetiring g = FromTo (λ a b. IsAtRest g a.state → IsRetiring g b.state)

abbrev pub ComesFromDone : Migration → Option Told → Option Told → Type 0
ComesFromDone g = FromTo (λ a b. IsDoneAtRest g a.state → IsRetiring g b.state)
