-- The plan of a vault of either format is its tree.
use Rattle.std.proofs.Common.{◌≡◌, Bool, List, [], refl}
use Rattle.folder_spec.specs.Path.{Path}
use Rattle.folder_spec.specs.Seen.{ShowsFile}
use Rattle.folder_spec.specs.View.{View}
use Rattle.vault_spec.specs.Format.{FileItem}
use Rattle.vault_spec.specs.Opens.{tree, AreItems}
use Rattle.vault_spec.specs.Plan.{Planned, IsPlan, paths_of}
use Rattle.vault_spec.specs.Vault.{Vault, Gocryptfs, Cryptomator, format_of}
use Rattle.vault_spec.proofs.CmVault as cryptomator
use Rattle.vault_spec.proofs.GoVault.{go_content}
use Rattle.vault_spec.proofs.Plans.{plan_is_tree, has_contents}

contents : (vault : Vault) (long : Bool) (v : View) (rest : Path) → (format_of vault).item long v ≡ FileItem rest → ShowsFile v rest
contents (Gocryptfs keys) long v rest item = go_content v rest item
contents (Cryptomator vault) long v rest item = cryptomator.content_is long v (v []) refl rest item

pub vault_plan : (vault : Vault) (v : View) (plan : List Planned) → IsPlan (format_of vault) v plan → AreItems (tree (format_of vault) v) (paths_of plan)
vault_plan vault v plan = plan_is_tree (format_of vault) v plan (has_contents (format_of vault) v (contents vault))
