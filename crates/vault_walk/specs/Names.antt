-- The names that have a place in a vault, by its kind.
use Rattle.std.specs.Prelude.{Bool, false}
use Rattle.folder_spec.specs.Path.{Part, Path}
use Rattle.folder_spec.specs.View.{Found}
use Rattle.std.specs.Prelude.{codes}
use Rattle.std.specs.Str.{bytes_eq}
use Rattle.vault_spec.specs.Cryptomator.{cm_unnamed}
use Rattle.vault_spec.specs.Format as spec
use Rattle.vault_spec.specs.Gocryptfs.{go_unnamed, is_fixed_name, is_full_name}
use Rattle.vault_spec.specs.declared.Finding.{Finding}
use Rattle.vault_read.specs.declared.vault.VaultKind.{VaultKind}
use Rattle.vault_read.specs.declared.vault.VaultKind.TheVariants as kind
use Rattle.vault_walk.specs.declared.names.Role.{Role}
use Rattle.vault_walk.specs.declared.names.Role.TheVariants as role

abbrev pub is_fixed_by : VaultKind → Path → Part → Bool
is_fixed_by kind.Gocryptfs folder name = is_fixed_name folder name
is_fixed_by kind.Cryptomator folder name = bytes_eq name (codes "dirid.c9r")

abbrev pub is_full_by : VaultKind → Part → Bool
is_full_by kind.Gocryptfs name = is_full_name name
is_full_by kind.Cryptomator name = false

abbrev pub unnamed_by : VaultKind → Part → Found → Finding
unnamed_by kind.Gocryptfs name there = go_unnamed name there
unnamed_by kind.Cryptomator name there = cm_unnamed name there

abbrev pub role_of : Role → spec.Role
role_of role.Expected = spec.Expected
role_of role.Shelf = spec.Shelf
role_of role.ContentFolder = spec.ContentFolder
role_of role.Extra = spec.Extra
