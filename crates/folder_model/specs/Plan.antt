-- Which calls of a folder in memory are to fail.
use Rattle.std.specs.Prelude.{ℕ, ◌+◌, ◌-◌, ◌^◌, ◌==◌, min, Bool, true, false, List, [], ◌∷◌, ◌++◌, Option, Some, None, Result, Ok, Err, IsTrue, IsFalse, nat_le, if◌then◌else◌}
use Rattle.folder_spec.specs.declared.FolderFault.{FolderFault}
use Rattle.folder_spec.specs.declared.FolderFault.TheVariants.{Failed, Refused, NoMemory}
use Rattle.folder_model.specs.declared.mem.plan.Failing.{Failing}
use Rattle.folder_model.specs.declared.mem.plan.CallPlan.{CallPlan}

-- How many calls there were, and how many of them were to change the folder. Then the calls that are to fail, by their numbers
-- from 1 on, each with the bytes that it adds where it is an append; and the number of the changing call from which on all fail.
pub record Plan : Type 0 where
  pub calls : ℕ
  pub changes : ℕ
  pub fails : List Failing
  pub stop : Option ℕ

abbrev pub plan_in : CallPlan → Plan
plan_in p = record { calls = p.calls; changes = p.changes; fails = p.fails.items; stop = p.stop }

-- no call yet, and none that is to fail
abbrev pub new_plan : Plan
new_plan = record { calls = 0; changes = 0; fails = []; stop = None }

-- a number so many further on. Numbers end at 2^64-1.
abbrev pub further : ℕ → ℕ → ℕ
further count place = min (count + place) (2 ^ 64 - 1)

-- the later call at that place, from 1 on, is to fail as well. Where it is an append it adds the first `added` bytes of its piece.
abbrev pub with_append_failing : Plan → ℕ → ℕ → Plan
with_append_failing plan place added =
    record plan { fails = plan.fails ++ record { call = further plan.calls place; added = added } ∷ [] }

-- the same of one that adds nothing
abbrev pub with_failing : Plan → ℕ → Plan
with_failing plan place = with_append_failing plan place 0

abbrev pub earlier : Option ℕ → ℕ → ℕ
earlier None number = number
earlier (Some stop) number = min stop number

-- all calls are to fail from the later changing call at that place, from 1 on, if they are not to fail before
abbrev pub with_stop : Plan → ℕ → Plan
with_stop plan place = record plan { stop = Some (earlier plan.stop (further plan.changes place)) }

-- after one more call that changes nothing
abbrev pub counted : Plan → Plan
counted plan = record plan { calls = further plan.calls 1 }

-- after one more changing call
abbrev pub counted_change : Plan → Plan
counted_change plan = record plan { calls = further plan.calls 1; changes = further plan.changes 1 }

-- what the call of that number adds where it is an append, if it is among them: by the first that has its number
abbrev pub added_for : List Failing → ℕ → Option ℕ
added_for [] call = None
added_for (f ∷ fails) call = if f.call == call then Some f.added else added_for fails call

-- nothing, if all calls fail by now
abbrev pub added_by_stop : Option ℕ → ℕ → Option ℕ
added_by_stop None changes = None
added_by_stop (Some stop) changes = if nat_le stop changes then Some 0 else None

abbrev pub due_by_stop : Plan → Option ℕ
due_by_stop plan = added_by_stop plan.stop plan.changes

abbrev pub due_or : Option ℕ → Option ℕ → Option ℕ
due_or (Some added) other = Some added
due_or None other = other

-- If the call that was counted last is to fail, what it adds where it is an append. One that is told to fail by its number adds
-- what was told then.
abbrev pub due : Plan → Option ℕ
due plan = due_or (added_for plan.fails plan.calls) (due_by_stop plan)

abbrev pub is_due : Option ℕ → Bool
is_due None = false
is_due (Some added) = true

abbrev pub added_due : Option ℕ → ℕ
added_due None = 0
added_due (Some added) = added

-- whether the next call is to fail, if it changes nothing
abbrev pub fails_next : Plan → Bool
fails_next plan = is_due (due (counted plan))

-- the same of a changing call
abbrev pub change_fails_next : Plan → Bool
change_fails_next plan = is_due (due (counted_change plan))

-- the bytes that the next changing call adds, if it is an append that is to fail
abbrev pub added_next : Plan → ℕ
added_next plan = added_due (due (counted_change plan))

-- A call fails where it is to, and only there. One that is refused or wants memory does not come to it.
abbrev pub FailsAs : {T : Type 0} → Bool → Result T FolderFault → Type 0
FailsAs due (Ok value) = IsFalse due
FailsAs due (Err Failed) = IsTrue due
FailsAs due (Err Refused) = Unit {0}
FailsAs due (Err NoMemory) = Unit {0}
