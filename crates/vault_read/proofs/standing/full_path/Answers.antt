use Rattle.std.proofs.Common.{◌≡◌, ◌++◌, ap, ◌∙◌}
use Rattle.std.proofs.lemmas.Result.{IfOk-weaker}
use Rattle.folder_spec.specs.Path.{child}
use Rattle.vault_spec.specs.Cryptomator.{full_file}
use Rattle.vault_spec.specs.Vault.{format_of}
use Rattle.vault_read.proofs.Keys.{full_in_entry}
use Rattle.vault_read.proofs.standing.full_path.Goals as goal

pub returns-in_ok-entry-in-Cryptomator : goal.returns-in_ok-entry-in-Cryptomator
returns-in_ok-entry-in-Cryptomator c =
    let vault = c.args.vault.now.vault in
    let at = c.args.at.now in
    let name = c.args.name.now in
    IfOk-weaker c.child-in-Cryptomator-2.result (λ path. path ≡ child c.in_ok-entry-in-Cryptomator.entry full_file) (λ path. path ≡ at ++ (format_of vault).full_at name)
    (λ path e. full_in_entry vault at path name c.in-Cryptomator.ensures (e ∙ ap (λ p. child p full_file) c.in_ok-entry-in-Cryptomator.ensures))
    c.child-in-Cryptomator-2.ensures
