-- That the directories of a vault have folders of their own.
use Rattle.folder_spec.specs.View.{View}
use Rattle.vault_spec.specs.Reached.{HaveOwnFolders}
use Rattle.vault_spec.specs.Vault.{Vault, Gocryptfs, Cryptomator, format_of}

-- what a vault is to have so that one path leads to each of its directories: in Cryptomator, no two ids with one folder
abbrev pub HasOwnFolders : Vault → View → Type 0
HasOwnFolders (Gocryptfs keys) v = Unit {0}
HasOwnFolders (Cryptomator cm) v = HaveOwnFolders (format_of (Cryptomator cm)) v
