use Rattle.std.proofs.Common.{ℕ, ◌<◌, get_or}
use Rattle.vault_spec.specs.Plan.{Planned}
use Rattle.vault_spec.specs.Vault.{format_of}
use Rattle.migrate_core.specs.Sides.{AllowsMappedLast}
use Rattle.migrate_core.proofs.names.test_names.Given as goal

-- those that were gone through are allowed
abbrev pub invariant-loop-item : goal.invariant-loop-item
invariant-loop-item l = (k : ℕ) → k < l.item-index → (other : Planned) → AllowsMappedLast l.names (format_of l.vault.vault) (get_or l.items k other).path
