-- What contracts see of a folder of the machine: which directories a settle has to sync, which calls are barred, what was asked for, and its
-- count of faults.
use Rattle.std.specs.Prelude.{◌≡◌, ℕ, Bool, false, List, IsTrue}
use Rattle.host_places.specs.Noted.{Dirs}
use Rattle.host_places.specs.declared.claims.Wanted.{Wanted}

-- which calls fail from here on: those that change something, settles, and those that look and read
pub record Bars : Type 0 where
  pub changes : Bool
  pub settles : Bool
  pub reads : Bool

-- no call is barred
abbrev pub no_bars : Bars
no_bars = record { changes = false; settles = false; reads = false }

-- what is barred stays so
pub record KeepsBars (old new : Bars) : Type 0 where
  pub changes : IsTrue old.changes → IsTrue new.changes
  pub settles : IsTrue old.settles → IsTrue new.settles
  pub reads : IsTrue old.reads → IsTrue new.reads

-- nothing is changed and nothing settled any more
abbrev pub IsStopped : Bars → Type 0
IsStopped bars = IsTrue bars.changes × IsTrue bars.settles

-- the directories; which calls are barred; which paths were asked for, and how each is to be held; and how many calls failed
pub record Ground : Type 0 where
  pub dirs : Dirs
  pub barred : Bars
  pub asked : List Wanted
  pub faults : ℕ
