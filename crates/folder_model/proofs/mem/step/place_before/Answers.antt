use Rattle.std.proofs.Common.{◌∙◌, sym}
use Rattle.folder_model.proofs.StepLemmas.{put_keeps, move_keeps, move_keeps_here}
use Rattle.folder_model.proofs.mem.step.place_before.Goals as goal

pub returns-in-Put : goal.returns-in-Put
returns-in-Put c = rw c.in-Put.is (put_keeps _ _ c.args.at)

pub returns-in-Some : goal.returns-in-Some
returns-in-Some c = rw c.in-Move.is (move_keeps _ _ c.args.at c.in-Some.before (sym c.in-Some.is ∙ c.in_ok-before-in-Move.ensures))

pub returns-in-None : goal.returns-in-None
returns-in-None c = rw c.in-Move.is (move_keeps_here _ _ c.args.at (sym c.in-None.is ∙ c.in_ok-before-in-Move.ensures))
