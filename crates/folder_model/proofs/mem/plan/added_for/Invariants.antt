use Rattle.std.proofs.Common.{◌≡◌, drop}
use Rattle.folder_model.specs.Plan.{added_for}
use Rattle.folder_model.proofs.mem.plan.added_for.Given as goal

-- none so far has the number
abbrev pub invariant-loop-failing : goal.invariant-loop-failing
invariant-loop-failing l = added_for (drop l.failing-index l.fails) l.call ≡ added_for l.fails l.call
