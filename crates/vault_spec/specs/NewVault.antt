-- What stands at the root of a new vault, and at no other path below it.
use Rattle.std.specs.Prelude.{ℕ, List, [], ◌∷◌, codes}
use Rattle.cryptomator_conf.specs.declared.conf.CmDraw.{CmDraw}
use Rattle.cryptomator_conf.specs.declared.conf.Combo.{Combo}
use Rattle.cryptomator_conf.specs.Text as cryptomator
use Rattle.folder_spec.specs.Path.{Part}
use Rattle.folder_spec.specs.View.{View}
use Rattle.folder_spec.specs.Edit.{directory_edit, folder_view, view_after}
use Rattle.gocrypt_conf.specs.declared.conf.GoDraw.{GoDraw}
use Rattle.gocrypt_conf.specs.Text as gocryptfs
use Rattle.kdf_suite.specs.ScryptCost.{Cost}
use Rattle.vault_names.specs.Cryptomator.{cm_folder_of}
use Rattle.vault_spec.specs.Cryptomator.{top, shelf_named, folder_named}
use Rattle.vault_spec.specs.Gocryptfs.{key_file}

-- the files of a new gocryptfs vault: its configuration and the key of its root
abbrev pub go_files : List ℕ → Cost → GoDraw → List ℕ → List (Part × List ℕ)
go_files pass cost drawn key = (codes "gocryptfs.conf", gocryptfs.conf_text (gocryptfs.made_conf pass cost drawn)) ∷ (key_file, key) ∷ []

-- the files of a new Cryptomator vault with these ciphers: its two configuration files
abbrev pub cm_files : List ℕ → Cost → Combo → CmDraw → List (Part × List ℕ)
cm_files pass cost combo drawn =
    (codes "masterkey.cryptomator", cryptomator.master_text (cryptomator.made_master pass cost drawn) (cryptomator.version_mac drawn.mac cryptomator.version_bytes))
    ∷ (codes "vault.cryptomator", cryptomator.vault_text combo drawn)
    ∷ []

abbrev pub new_go_vault : List ℕ → Cost → GoDraw → List ℕ → View
new_go_vault pass cost drawn key = folder_view (go_files pass cost drawn key)

-- beside its files, `d` and the content folder of the root's id
abbrev pub new_cm_vault : List ℕ → Cost → Combo → CmDraw → View
new_cm_vault pass cost combo drawn =
    let text : List ℕ = cm_folder_of (cryptomator.keys_of drawn) [] in
    view_after (folder_view (cm_files pass cost combo drawn))
    (directory_edit (top ∷ []) ∷ directory_edit (shelf_named text) ∷ directory_edit (folder_named text) ∷ [])
