use Rattle.std.proofs.Common.{sym, ◌∙◌}
use Rattle.vault_walk.proofs.FullNames.{entry_stripped}
use Rattle.vault_walk.proofs.names.entry_of_full.Goals as goal

pub returns-then-is_full-clause-full : goal.returns-then-is_full-clause-full
returns-then-is_full-clause-full c =
    entry_stripped c.args.kind c.args.name.now c.strip_suffix.result c.strip_suffix.ensures.cases c.in-Gocryptfs.is (sym c.is_full.ensures ∙ c.if-is_full.true)
