use Rattle.plain_tree.proofs.Mapping.{same_found}
use Rattle.plain_tree.proofs.name_map.map_name.Goals as goal

pub returns-in_ok-copy-in-Same : goal.returns-in_ok-copy-in-Same
returns-in_ok-copy-in-Same c =
    same_found c.args.names c.args.name.now c.in_ok-copy-in-Same.field-0 c.in-Same.is c.in_ok-copy-in-Same.ensures.named c.in_ok-copy-in-Same.ensures.value
