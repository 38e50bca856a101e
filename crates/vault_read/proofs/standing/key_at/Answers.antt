use Rattle.std.proofs.Common.{◌++◌, ◌∙◌, ap}
use Rattle.folder_spec.specs.Seen.{under}
use Rattle.vault_read.specs.Looking.{small_file}
use Rattle.vault_read.proofs.Keys.{key_read}
use Rattle.vault_read.proofs.standing.key_at.Goals as goal

pub returns-clause-key : goal.returns-clause-key
returns-clause-key g c v is =
    c.key_in.ensures
    ∙ key_read c.args.vault.now.vault c.args.at.now (under c.args.vault.now.root v) c.kind-kind.result c.key_file.result.now c.key_limit.result c.in_ok-path.path c.in_ok-file.file
    c.kind-kind.ensures c.key_file.ensures c.key_limit.ensures c.in_ok-path.ensures (c.in_ok-file.ensures.file v is ∙ ap (λ root. small_file c.key_limit.result (v (root ++ c.in_ok-path.path))) c.root.ensures)
