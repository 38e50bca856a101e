-- A folder in memory keeps a table, and those after it as the steps that made them.
use Rattle.std.specs.Prelude.{◌≡◌, ◌≢◌, ℕ, List, [], ◌∷◌, length, take, drop, slice_index_or, Contains}
use Rattle.folder_spec.specs.declared.Spot.{Spot}
use Rattle.folder_spec.specs.declared.Spot.TheVariants.{Nothing, Directory}
use Rattle.folder_spec.specs.Path.{Part, Path, child}
use Rattle.folder_spec.specs.State.{Table, Node, State, IsAmong, IsSoundTable, put, moved}
use Rattle.folder_spec.specs.Event.{empty_node}
use Rattle.folder_model.specs.declared.mem.step.Step.{Step}
use Rattle.folder_model.specs.declared.mem.step.Step.TheVariants.{Put, Move}
use Rattle.folder_model.specs.declared.mem.step.Looked.{Looked}
use Rattle.folder_model.specs.declared.mem.step.Looked.TheVariants.{Here, Before}

-- nothing but the base
abbrev pub base_table : Table
base_table [] = Directory
base_table (a ∷ p) = Nothing

abbrev pub step_table : Table → Step → Table
step_table t (Put p x) = put t p x
step_table t (Move old new) = moved t old new

-- the table after these steps
abbrev pub replay : Table → List Step → Table
replay t [] = t
replay t (step ∷ steps) = replay (step_table t step) steps

-- the tables after each of them
abbrev pub tables_after : Table → List Step → List Table
tables_after t [] = []
tables_after t (step ∷ steps) = step_table t step ∷ tables_after (step_table t step) steps

-- the table after the steps that are kept
abbrev pub kept_table : Table → List Step → ℕ → Table
kept_table base steps kept = replay base (take kept steps)

-- the state by its nodes, a table, the steps from there and how many of them are kept
abbrev pub state_from : List Node → Table → List Step → ℕ → State
state_from nodes base steps kept = record {
  nodes = λ n. slice_index_or nodes n empty_node;
  made = length nodes;
  kept = kept_table base steps kept;
  later = tables_after (kept_table base steps kept) (drop kept steps);
}

-- each table is sound
abbrev pub AreSoundTables : ℕ → Table → List Step → Type 0
AreSoundTables made base steps = (t : Table) → IsAmong t (base ∷ tables_after base steps) → IsSoundTable made t

-- what stands at a path after a step: this, or what stood at some path before it
abbrev pub looked_in : Table → Looked → Spot
looked_in t (Here x) = x
looked_in t (Before p) = t p

-- the path at which the step may have made an entry
abbrev pub target : Step → Path
target (Put p x) = p
target (Move old new) = new

-- a name of an entry at the path after the step is the name that the step made, or one of those at the other path before it
abbrev pub KeepsEntries : Step → Path → Path → Type 0
KeepsEntries step at before =
    (t : Table) (a : Part) → target step ≢ child at a → step_table t step (child at a) ≢ Nothing → t (child before a) ≢ Nothing

-- among the names are those of before and the one that the step may have made
pub record GainsEntry (step : Step) (at : Path) (before now : List Part) : Type 0 where
  pub others : (a : Part) → Contains before a → Contains now a
  pub made : (a : Part) → target step ≡ child at a → Contains now a
