use Rattle.std.proofs.Common.{take}
use Rattle.std.specs.Prelude.{Contains}
use Rattle.folder_spec.specs.Listing.{Item, IsListing}
use Rattle.folder_spec.specs.Path.{child}
use Rattle.folder_spec.specs.View.{View}
use Rattle.vault_walk.specs.Apart.{HaveRoles, IsLevelAt, IsPlaced}
use Rattle.vault_walk.proofs.apart.placed.Given as goal

-- the entries so far are placed, each with its role
abbrev pub invariant-loop-entry : goal.invariant-loop-entry
invariant-loop-entry l = record {
  roles : (v : View) → IsListing v l.at l.entries → IsLevelAt l.level l.at → HaveRoles v l.places.items;
  all : (entry : Item) → Contains (take l.entry-index l.entries) entry → IsPlaced l.places.items (child l.at entry.name);
}
