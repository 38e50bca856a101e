use Rattle.std.proofs.Common.{◌+◌, ◌≤◌, ℕ, List, length, take, Result, Ok, Err, IfOk, arith, length-take, rules}
use Rattle.reading_commands.specs.Inputs.{input_limit}
use Rattle.reading_commands.proofs.decrypting.feed_piece.Goals as goal

-- the front of a piece is no longer than was asked for
within : (size before most : ℕ) (piece : List ℕ) → before + size ≤ most → before + length (take size piece) ≤ most
within size before most piece fits = omega (arith, length-take {A = ℕ} size piece)

at_most : {E : Type 0} (result : Result ℕ E) (size most : ℕ) (piece : List ℕ) → size ≤ most → IfOk result (λ n. n ≤ length (take size piece)) → IfOk result (λ n. n ≤ most)
at_most (Ok n) size most piece fits is = omega (arith, length-take {A = ℕ} size piece)
at_most (Err fault) size most piece fits is = tt

pub feed_from-requires-clause-room : goal.feed_from-requires-clause-room
feed_from-requires-clause-room g c = within c.min-size.result (length c.args.decoder.now.held) 32816 _ (search rules)

pub feed_from-requires-clause-within : goal.feed_from-requires-clause-within
feed_from-requires-clause-within g c = within c.min-size.result c.args.decoder.now.taken input_limit _ (search rules)

pub returns-clause-most : goal.returns-clause-most
returns-clause-most g c = at_most c.feed_from.result c.min-size.result c.args.most _ (search rules) c.feed_from.ensures.most
