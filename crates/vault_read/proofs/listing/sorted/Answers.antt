use Rattle.std.proofs.Common.{rules}
use Rattle.std.proofs.lemmas.List.Sorted.{answers_always}
use Rattle.vault_read.proofs.ListedOrder.{before, before_orders, sorted_by_names}
use Rattle.vault_read.proofs.listing.sorted.Goals as goal

pub returns : goal.returns
returns c = record {
  same = c.sort_unstable_by.ensures.permutation;
  ordered = sorted_by_names c.args.found.items c.sort_unstable_by.new.self.items c.sort_unstable_by.ensures.permutation
      (c.sort_unstable_by.ensures.sorted before before_orders (answers_always _ _ _ (λ f a r f' k. search rules)));
}
