use Rattle.std.proofs.Common.{sym, ◌∙◌}
use Rattle.plain_tree.proofs.Mapping.{all_named, named_more, unnamed}
use Rattle.plain_tree.proofs.name_map.map_names.Goals as goal

pub returns-in-None : goal.returns-in-None
returns-in-None c =
    unnamed c.args.names c.args.path.now c.loop-name.name-index c.name-item.result c.loop-name-test.true c.name-item.is (sym c.in-None.is ∙ c.in_ok-new.ensures)

pub loop-name-preserved : goal.loop-name-preserved
loop-name-preserved c =
    let more = named_more c.args.names c.args.path.now c.loop-name.mapped.items _ c.loop-name.name-index c.name-item.result c.in-Some.new c.loop-name-test.true c.name-item.is
    (sym c.in-Some.is ∙ c.in_ok-new.ensures) c.loop-name.invariant.mapped c.loop-name.invariant.named c.in_ok-push-in-Some.ensures.items in
    record { mapped = more.0; named = more.1 }

pub returns : goal.returns
returns c = all_named c.args.names c.args.path.now c.loop-name.mapped.items c.loop-name.name-index c.loop-name-test.false c.loop-name.invariant.mapped c.loop-name.invariant.named
