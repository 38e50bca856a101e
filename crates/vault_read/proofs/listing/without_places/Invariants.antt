use Rattle.std.proofs.Common.{◌≡◌}
use Rattle.vault_read.specs.Listing.{items_of}
use Rattle.vault_read.proofs.listing.without_places.Given as goal

-- those so far without their places
abbrev pub invariant-loop-one : goal.invariant-loop-one
invariant-loop-one l = l.items.items ≡ items_of l.yielded
