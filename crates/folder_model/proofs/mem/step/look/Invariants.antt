use Rattle.std.proofs.Common.{◌≡◌, ◌≤◌, take, length}
use Rattle.folder_model.specs.Steps.{replay}
use Rattle.folder_model.specs.Tables.{names_of}
use Rattle.folder_model.proofs.mem.step.look.Given as goal

-- what stands at the path after the steps that are left stands at `at` after all of them
abbrev pub invariant-loop-left : goal.invariant-loop-left
invariant-loop-left l = (replay (names_of l.base) (take l.left l.steps) l.path ≡ replay (names_of l.base) l.steps l.at) × (l.left ≤ length l.steps)

abbrev pub decreases-loop-left : goal.decreases-loop-left
decreases-loop-left l = l.left
