-- What may come and go: directories at some places where nothing stood, and files and directories at others.
use Rattle.std.specs.Prelude.{◌≡◌, ◌≢◌, ◌⊎◌, Option}
use Rattle.folder_spec.specs.declared.Spot.TheVariants.{Nothing, Directory, Odd}
use Rattle.folder_spec.specs.Path.{Path}
use Rattle.folder_spec.specs.State.{Table, State, present, IsTableOf}
use Rattle.folder_spec.specs.Event.{Call, MakeDir, Create, Append, Sync, Settle, Rename, RemoveFile, RemoveDir, Told}
use Rattle.folder_spec.specs.Moments.{Moments}
use Rattle.folder_spec.specs.Region.{IsAsBefore, SparesOld, apart_from}

-- The first table has what the second one had, or a directory where one may come and nothing stood, or nothing where something
-- may go and a file or a directory stood.
abbrev pub IsChanged : (Path → Type 0) → (Path → Type 0) → Table → Table → Type 0
IsChanged Comes Goes t u =
    (q : Path) → (t q ≡ u q) ⊎ ((Comes q × (t q ≡ Directory) × (u q ≡ Nothing)) ⊎ (Goes q × (t q ≡ Nothing) × (u q ≢ Odd)))

-- Since s0 only this has come and gone: each table is a table of s0 changed so. No file was written or made.
pub record IsChanging (Comes Goes : Path → Type 0) (s0 s : State) : Type 0 where
  pub tables : (t : Table) → IsTableOf s t → (u : Table) × IsTableOf s0 u × IsChanged Comes Goes t u
  pub seen : IsChanged Comes Goes (present s) (present s0)
  pub nodes : s.nodes ≡ s0.nodes
  pub made : s.made ≡ s0.made

-- And this is all at a root or below it: all else is as it was.
pub record IsChangingAt (root : Path) (Comes Goes : Path → Type 0) (s0 s : State) : Type 0 where
  pub changing : IsChanging Comes Goes s0 s
  pub others : IsAsBefore (apart_from root) s0 s

-- the call makes a directory where one may come, or removes what may go
abbrev pub ChangesOnly : (Path → Type 0) → (Path → Type 0) → Call → Type 0
ChangesOnly Comes Goes (MakeDir p) = Comes p
ChangesOnly Comes Goes (RemoveFile p) = Goes p
ChangesOnly Comes Goes (RemoveDir p) = Goes p
ChangesOnly Comes Goes (Create p) = ⊥
ChangesOnly Comes Goes (Append p piece) = ⊥
ChangesOnly Comes Goes (Sync p) = ⊥
ChangesOnly Comes Goes Settle = ⊥
ChangesOnly Comes Goes (Rename old new) = ⊥

-- At every moment only this has come and gone, and each call spares all that is not at the root or below it.
abbrev pub ChangesAt : Path → (Path → Type 0) → (Path → Type 0) → Option Told → Option Told → Type 0
ChangesAt root Comes Goes = Moments (IsChangingAt root Comes Goes) (λ s0 s e. ChangesOnly Comes Goes e.call × SparesOld (apart_from root) s0 s e.call)

-- the same without a root (private contracts only)
abbrev pub Alters : (Path → Type 0) → (Path → Type 0) → Option Told → Option Told → Type 0
Alters Comes Goes = Moments (IsChanging Comes Goes) (λ s0 s e. ChangesOnly Comes Goes e.call)
