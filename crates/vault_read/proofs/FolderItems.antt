-- What a folder is, by what was seen of its three files.
use Rattle.std.proofs.Common.{◌≡◌, Bool, ap, ◌∙◌}
use Rattle.folder_spec.specs.View.{View}
use Rattle.vault_spec.specs.Format.{Item}
use Rattle.vault_spec.specs.Cryptomator.{content_file, id_file, symlink_file, folder_item, has_file}
use Rattle.vault_read.specs.Items.{folder_item_in}

pub by_files : (long : Bool) (v : View) (content id symlink : Bool) (item : Item) → item ≡ folder_item long content id symlink
    → content ≡ has_file v content_file → id ≡ has_file v id_file → symlink ≡ has_file v symlink_file → item ≡ folder_item_in long v
by_files long v content id symlink item e p q r =
    e ∙ ap (λ x. folder_item long x id symlink) p ∙ ap (λ x. folder_item long (has_file v content_file) x symlink) q
    ∙ ap (λ x. folder_item long (has_file v content_file) (has_file v id_file) x) r
