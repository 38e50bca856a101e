use Rattle.std.proofs.Common.{◌≡◌, ℕ, ◌<◌, slice_index_or}
use Rattle.std.specs.Cmp.Lexicographic.{slice_cmp}
use Rattle.std.specs.Ordering.{nat_cmp}
use Rattle.std.specs.declared.cmp.Ordering.TheVariants.{Less}
use Rattle.folder_spec.specs.Listing.{Item}
use Rattle.folder_model.proofs.mem.list.place_of.Given as goal

-- all names so far are lower
abbrev pub invariant-loop-i : goal.invariant-loop-i
invariant-loop-i l = (k : ℕ) (d : Item) → k < l.i → slice_cmp nat_cmp (slice_index_or l.entries k d).name l.name ≡ Less
