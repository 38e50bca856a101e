-- A chain of what is needed, one after the other: what follows where each is there, and else the fault of the first that isn't.
use Rattle.std.specs.Prelude.{ℕ, List, Option, Some, None, Result, Err}
use Rattle.serde_json.specs.Data.{Data}

-- what follows where there is a value, and else a fault
abbrev pub need : {A B F : Type 0} → F → Option A → (A → Result B F) → Result B F
need fault None next = Err fault
need fault (Some value) next = next value

-- what follows what stands at a name, and else the fault of that name
abbrev pub field : {A B F : Type 0} → (List ℕ → F) → (List ℕ → Data → Option A) → List ℕ → Data → (A → Result B F) → Result B F
field wrong at name d next = need (wrong name) (at name d) next
