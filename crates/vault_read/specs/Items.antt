-- What an entry is, as the code answers it.
use Rattle.std.specs.Prelude.{Bool, [], ◌∷◌}
use Rattle.folder_spec.specs.View.{View}
use Rattle.vault_spec.specs.Cryptomator.{content_file, id_file, symlink_file, folder_item, has_file}
use Rattle.vault_spec.specs.Format as spec
use Rattle.vault_read.specs.declared.items.EntryItem.{EntryItem}
use Rattle.vault_read.specs.declared.items.EntryItem.TheVariants as item

abbrev pub item_of : EntryItem → spec.Item
item_of item.Nothing = spec.Nothing
item_of item.EntryFile = spec.FileItem []
item_of item.ContentFile = spec.FileItem (content_file ∷ [])
item_of item.Directory = spec.DirectoryItem
item_of (item.NoItem finding) = spec.NoItem finding

-- what a folder is, by which of the three files are found in it
abbrev pub folder_item_in : Bool → View → spec.Item
folder_item_in long v = folder_item long (has_file v content_file) (has_file v id_file) (has_file v symlink_file)
