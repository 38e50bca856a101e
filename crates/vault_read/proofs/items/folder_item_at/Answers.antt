use Rattle.std.proofs.Common.{sym, ◌∙◌, subst}
use Rattle.folder_spec.specs.Seen.{IsSeen, under}
use Rattle.vault_read.specs.Items.{item_of}
use Rattle.vault_read.proofs.FolderItems.{by_files}
use Rattle.vault_read.proofs.items.folder_item_at.Goals as goal

pub returns-clause-item : goal.returns-clause-item
returns-clause-item g c v is =
    by_files c.args.long (under c.args.at.now (under c.args.root.now v)) c.in_ok-content.content c.in_ok-id.id c.in_ok-symlink.symlink
    (item_of c.folder_item.result) c.folder_item.ensures
    (c.in_ok-content.ensures.file v is)
    (c.in_ok-id.ensures.file v (subst (λ t. IsSeen t v) (sym c.in_ok-content.ensures.told) is))
    (c.in_ok-symlink.ensures.file v (subst (λ t. IsSeen t v) (sym (c.in_ok-id.ensures.told ∙ c.in_ok-content.ensures.told)) is))
