use Rattle.std.proofs.Common.{◌∙◌, rules}
use Rattle.std.proofs.lemmas.Fn.{always_returns_same}
use Rattle.plain_tree.specs.Order.{path_cmp}
use Rattle.vault_spec.specs.Plan.{Planned}
use Rattle.migrate_core.proofs.Searched.{found_is}
use Rattle.migrate_core.proofs.placing.stands.Goals as goal

pub returns : goal.returns
returns c = λ ordered.
    let key = λ (other : Planned). path_cmp other.path c.args.item.now.path in
    c.is_ok.ensures.value
    ∙ found_is c.args.item.now c.args.there.now c.binary_search_by.result ordered c.binary_search_by.ensures.bound (c.binary_search_by.ensures.position key (always_returns_same _ _ _ (λ a r f' k. search rules)))
