use Rattle.std.proofs.Common.{◌∙◌}
use Rattle.vault_names.proofs.Groups.{base32-groups}
use Rattle.vault_names.proofs.base32.base32_of.Goals as goal

pub returns : goal.returns
returns c =
    rw (c.group_text.ensures, c.group_text-2.ensures, c.group_text-3.ensures, c.group_text-4.ensures) at c.joined.ensures
    ∙ base32-groups c.args.hash.now c.as_chunks.result.0.now c.told-hash c.as_chunks.ensures.front
