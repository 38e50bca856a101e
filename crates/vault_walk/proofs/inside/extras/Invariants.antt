use Rattle.std.proofs.Common.{◌≡◌, take}
use Rattle.folder_spec.specs.Listing.{IsListing}
use Rattle.folder_spec.specs.View.{View}
use Rattle.vault_read.specs.Items.{item_of}
use Rattle.vault_spec.specs.Cryptomator.{inner_role}
use Rattle.vault_walk.specs.Extras.{extras}
use Rattle.vault_walk.proofs.inside.extras.Given as goal

-- these are the extras of the entries so far
abbrev pub invariant-loop-entry : goal.invariant-loop-entry
invariant-loop-entry l =
    (v : View) → IsListing v l.at l.entries → l.found.items ≡ extras (inner_role l.long (item_of l.item)) v l.at (take l.entry-index l.entries)
