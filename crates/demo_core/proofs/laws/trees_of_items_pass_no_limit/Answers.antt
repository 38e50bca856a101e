use Rattle.vault_spec.specs.Vault.{format_of}
use Rattle.demo_core.proofs.Within.{within}
use Rattle.demo_core.proofs.laws.trees_of_items_pass_no_limit.Goals as goal

pub returns : goal.returns
returns c = λ vault v seed count few has. within c.what_stands_is_found_step_by_step.ensures.behind (format_of vault) v (c.files_have_their_contents.ensures vault v) seed count few has
