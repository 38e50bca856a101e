-- The regular files at a vault's root, of either format, that belong to the vault and are never read: copies of a configuration,
-- and readmes.
use Rattle.std.specs.Prelude.{ℕ, Bool, ◌||◌, List, codes, nat_eq}
use Rattle.std.specs.List.{ends_with}
use Rattle.std.specs.Str.{bytes_eq}
use Rattle.folder_spec.specs.Path.{Part}

-- a name has this ending
abbrev pub has_ending : List ℕ → Part → Bool
has_ending ending name = ends_with nat_eq name ending

abbrev pub is_root_file : Part → Bool
is_root_file name = bytes_eq name (codes "gocryptfs.conf.bak") || has_ending (codes ".rtf") name || has_ending (codes ".bkup") name
