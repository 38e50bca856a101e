use Rattle.std.proofs.Common.{rules}
use Rattle.std.specs.Cmp.Lexicographic.{slice_cmp}
use Rattle.std.specs.Ordering.{is_lt, nat_cmp}
use Rattle.std.proofs.lemmas.Cmp.{nat_list_cmp_total}
use Rattle.std.proofs.lemmas.List.Sorted.{answers_always, ranks_by}
use Rattle.folder_spec.specs.Listing.{Item}
use Rattle.host_places.proofs.listing.sort.Goals as goal

pub returns : goal.returns
returns c =
    c.sort_unstable_by.ensures.sorted (λ (x y : Item). is_lt (slice_cmp nat_cmp x.name y.name)) (ranks_by nat_list_cmp_total (λ (entry : Item). entry.name))
    (answers_always _ _ _ (λ f a r g h. search rules))
