-- What stands in a vault, as the code answers it.
use Rattle.std.specs.Prelude.{ℕ, Bool, false, ◌==◌, ◌&&◌, not, List, length, Option, Some, None, nat_le, if◌then◌else◌, Result, IfOk}
use Rattle.vault_spec.specs.declared.Lack.{Lack}
use Rattle.std.specs.Str.{bytes_eq}
use Rattle.chunk_files.specs.Zeros.{is_all_zero}
use Rattle.folder_spec.specs.Path.{Part, child}
use Rattle.folder_spec.specs.View.{View}
use Rattle.vault_spec.specs.Cryptomator.{id_file}
use Rattle.vault_spec.specs.Format as spec
use Rattle.vault_spec.specs.Format.{is_bytes}
use Rattle.vault_spec.specs.Standing as stands
use Rattle.vault_spec.specs.Vault.{Vault}
use Rattle.vault_spec.specs.Gocryptfs.{key_file}
use Rattle.vault_names.specs.declared.entry.Stored.{Stored}
use Rattle.vault_read.specs.Opened.{FitsKey}
use Rattle.vault_read.specs.declared.looking.SmallFile.{SmallFile}
use Rattle.vault_read.specs.declared.looking.SmallFile.TheVariants.{Missing, Other, TooLarge, Whole}
use Rattle.vault_read.specs.declared.vault.VaultKind.{VaultKind}
use Rattle.vault_read.specs.declared.vault.VaultKind.TheVariants as kind
use Rattle.vault_read.specs.declared.standing.Standing.{Standing}
use Rattle.vault_read.specs.declared.standing.Standing.TheVariants as standing

abbrev pub standing_of : Standing → stands.Standing
standing_of standing.Absent = stands.Absent
standing_of (standing.Strange at) = stands.Strange at
standing_of (standing.File at) = stands.File at
standing_of (standing.Dir at directory) = stands.Dir at directory

-- where a directory is entered, its key is of the size that names are stored under
abbrev pub FitsDirectory : Vault → Result spec.Directory Lack → Type 0
FitsDirectory vault directory = IfOk directory (λ dir. FitsKey vault dir.key)

abbrev pub EntersFit : Vault → Standing → Type 0
EntersFit vault standing.Absent = Unit {0}
EntersFit vault (standing.Strange at) = Unit {0}
EntersFit vault (standing.File at) = Unit {0}
EntersFit vault (standing.Dir at directory) = FitsDirectory vault directory

-- what stands at the entry of what is stored of a name
abbrev pub standing_at : spec.Format → View → spec.Directory → Stored → stands.Standing
standing_at f v dir s = stands.standing_of f v (child dir.folder s.name) (stands.holds_full f v dir s) (stands.item_at f v dir s)

-- the name of a directory's key file, and the most bytes of its key
abbrev pub key_file_by : VaultKind → Part
key_file_by kind.Gocryptfs = key_file
key_file_by kind.Cryptomator = id_file

abbrev pub key_limit : VaultKind → ℕ
key_limit kind.Gocryptfs = 16
key_limit kind.Cryptomator = 1000

-- whether bytes, no more than the most, are a directory's key
abbrev pub is_key : VaultKind → List ℕ → Bool
is_key kind.Gocryptfs bytes = is_bytes bytes && (length bytes == 16) && not (is_all_zero bytes)
is_key kind.Cryptomator bytes = is_bytes bytes && nat_le 1 (length bytes)

abbrev pub key_by : VaultKind → SmallFile → Option (List ℕ)
key_by kind Missing = None
key_by kind Other = None
key_by kind TooLarge = None
key_by kind (Whole bytes) = if is_key kind bytes then Some bytes else None

-- the file holds just this text
abbrev pub is_small_file_of : SmallFile → List ℕ → Bool
is_small_file_of Missing text = false
is_small_file_of Other text = false
is_small_file_of TooLarge text = false
is_small_file_of (Whole bytes) text = bytes_eq bytes text
