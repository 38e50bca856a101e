use Rattle.std.proofs.Common.{sym, ◌∙◌, subst}
use Rattle.std.specs.Str.{IsUtf8}
use Rattle.vault_names.proofs.Groups.{utf8-base32}
use Rattle.vault_names.proofs.cryptomator.folder_under.Goals as goal

pub unwrap-requires : goal.unwrap-requires
unwrap-requires c =
    c.from_utf8.ensures.succeeds (subst IsUtf8 (sym (c.in_ok-from_slice.ensures.items ∙ c.base32_of-text.ensures)) (utf8-base32 _))
