-- What is stored of a name is told by its text.
use Rattle.std.proofs.Common.{◌≡◌, List, ℕ, ap}
use Rattle.vault_names.specs.Cryptomator.{cm_entry_of, cm_stored}
use Rattle.vault_names.specs.Gocryptfs.{entry_of, stored}
use Rattle.vault_spec.specs.Vault.{Vault, Gocryptfs, Cryptomator, format_of}
use Rattle.vault_read.specs.Listing.{IsNameOf, stored_by}

pub by_text : (vault : Vault) (key name text : List ℕ) → IsNameOf vault key name text → (format_of vault).stored key name ≡ stored_by vault text
unfolding stored cm_stored
by_text (Gocryptfs keys) key name text is = ap (λ (t : List ℕ). entry_of t) is.encrypts
by_text (Cryptomator vault) key name text is = ap (λ (t : List ℕ). cm_entry_of vault.threshold t) is.encrypts
