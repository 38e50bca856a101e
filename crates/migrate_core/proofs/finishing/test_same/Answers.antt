use Rattle.tree_match.specs.Trees.{match_of, side_of}
use Rattle.migrate_core.proofs.Planned.{mapped_files}
use Rattle.migrate_core.proofs.Compared.{match_stops}
use Rattle.migrate_core.proofs.Limits.{by_match, source_first}
use Rattle.migrate_core.specs.Limits.{PassesLimit}
use Rattle.migrate_core.proofs.finishing.test_same.Goals as goal
use Rattle.migration_sides.proofs.Chains.{fault_as}

pub holds_all-requires-clause-a : goal.holds_all-requires-clause-a
holds_all-requires-clause-a g c v is = record {
  ordered = c.requires.source.mapped.ordered;
  files = mapped_files c.args.sides.now.names c.args.sides.now.source c.args.mapped.now.items (g.F.Folder.told c.args.folder.now) c.requires.source v is;
}

pub returns-in_err-holds_all-clause-moving : goal.returns-in_err-holds_all-clause-moving
returns-in_err-holds_all-clause-moving g c =
    let from = c.args.sides.now.source in
    let to = c.args.sides.now.target in
    fault_as _ c.from_residual.result c.from_residual.ensures.1
    (λ v is. match_stops (match_of v (side_of from c.args.mapped.now.items) (side_of to c.args.target.now.items)) c.in_err-holds_all.field-0.0 (c.in_err-holds_all.ensures.answers v is))

pub returns-in_err-holds_all-clause-limit : goal.returns-in_err-holds_all-clause-limit
returns-in_err-holds_all-clause-limit g c =
    let from = c.args.sides.now.source in
    let to = c.args.sides.now.target in
    let items = c.args.mapped.now.items in
    let others = c.args.target.now.items in
    let rule = c.args.sides.now.names in
    let told = g.F.Folder.told c.args.folder.now in
    fault_as _ c.from_residual.result c.from_residual.ensures.1
    (λ v is. by_match (PassesLimit rule from to v) (match_of v (side_of from items) (side_of to others)) c.in_err-holds_all.field-0.0 (c.in_err-holds_all.ensures.answers v is)
    (source_first rule from to items others told v c.requires.source c.requires.target is))

pub holds_all-requires-clause-b : goal.holds_all-requires-clause-b
holds_all-requires-clause-b g c v is = record { ordered = c.requires.target.ordered v is; files = c.requires.target.files v is }
