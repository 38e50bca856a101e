-- Words of private contracts: a chunk of a file of a vault is read, of which the bytes are given piece by piece.
use Rattle.std.specs.Prelude.{◌≡◌, List, ℕ, [], Result, Ok, Err}
use Rattle.item_making.specs.Ending.{Whole, Damaged, TooLong}
use Rattle.content_writing.specs.Content.{Coming, ends}
use Rattle.item_making.specs.declared.fault.PutFault.{PutFault}
use Rattle.item_making.specs.declared.fault.PutFault.TheVariants as puts

-- As much is to come after a chunk was read as before. No bytes are held then only at the end.
abbrev pub Refills : List ℕ → Coming → Coming → Result (Unit {0}) PutFault → Type 0
Refills held before after (Ok _) = (after ≡ before) × (held ≡ [] → before ≡ ends Whole)
Refills held before after (Err (puts.Damaged at fault)) = (after ≡ before) × (before ≡ ends (Damaged at fault))
Refills held before after (Err (puts.Limit limit)) = (after ≡ before) × (before ≡ ends (TooLong limit))
Refills held before after (Err puts.Failed) = after ≡ before
Refills held before after (Err puts.NoMemory) = after ≡ before
Refills held before after (Err puts.Source) = ⊥
Refills held before after (Err (puts.Find fault)) = ⊥
Refills held before after (Err (puts.NotAllowed path)) = ⊥
Refills held before after (Err (puts.Taken at)) = ⊥
Refills held before after (Err puts.ZeroRandom) = ⊥
Refills held before after (Err puts.Random) = ⊥
