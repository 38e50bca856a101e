use Rattle.std.proofs.Common.{◌≡◌, ◌++◌, ◌+◌, length, drop}
use Rattle.port_model.proofs.Draws.{Draws-front}
use Rattle.port_model.proofs.Moves.{moved_whole}
use Rattle.port_model.proofs.list_randoms.ListRandomsRandoms.fill.Goals as goal

pub returns-clause-drawn : goal.returns-clause-drawn
returns-clause-drawn c =
    let bytes : c.deref.result.now ≡ c.self.inside.bytes.items = c.deref.ensures.value in
    let left : drop c.self.inside.at c.deref.result.now ≡ c.copy_from_slice.new.self ++ drop (c.self.inside.at + length c.args.out.now) c.deref.result.now =
    moved_whole c.deref.result.now c.copy_from_slice.new.self c.self.inside.at (length c.args.out.now) c.copy_from_slice.ensures.after in
    Draws-front c.args.self.now.left _ _ (rw (← c.self.view_is, ← bytes) left)
