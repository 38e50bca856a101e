-- The keys of directories, by what stands at their files.
use Rattle.std.proofs.Common.{◌≡◌, ℕ, ◌==◌, ◌&&◌, ◌∷◌, [], List, Bool, true, false, cond, Some, None, IsTrue, length, get_or, refl, sym, ap, ◌∙◌, arith, ◌<◌, nat_lt, nat_le, not, Fits, w8, zero, suc, option_and_then, append_assoc, ◌++◌}
use Rattle.std.proofs.lemmas.Bool.{leb-false, lt-ltb, ne_eqb, eq-eqb, le-leb}
use Rattle.chunk_files.specs.Zeros.{is_all_zero}
use Rattle.folder_spec.specs.Path.{Part, Path, child}
use Rattle.folder_spec.specs.View.{Found, NoEntry, Folder, FileOf, Special, View}
use Rattle.plain_tree.specs.Names.{is_name}
use Rattle.vault_names.specs.declared.entry.Stored.{Stored}
use Rattle.vault_spec.specs.Cryptomator.{full_file}
use Rattle.folder_spec.specs.Seen.{under}
use Rattle.vault_spec.specs.Format.{Format, Directory, file_bytes, is_bytes, key_of}
use Rattle.vault_spec.specs.Standing.{Absent, standing_in}
use Rattle.vault_spec.specs.Vault.{Vault, Gocryptfs, Cryptomator, format_of}
use Rattle.vault_read.specs.Looking.{small_file}
use Rattle.vault_read.specs.Opened.{kind_of}
use Rattle.vault_read.specs.Stands.{is_key, key_by, key_limit, key_file_by, standing_at}
use Rattle.vault_read.specs.declared.looking.SmallFile.{SmallFile}
use Rattle.vault_read.specs.declared.looking.SmallFile.TheVariants.{Whole, TooLarge}
use Rattle.vault_read.specs.declared.vault.VaultKind.{VaultKind}
use Rattle.vault_read.specs.declared.vault.VaultKind.TheVariants as kind

byte_is : (x : ℕ) → Fits w8 x → nat_lt x 256 ≡ true
byte_is x fits = lt-ltb x 256 (omega (arith, fits))

-- bytes are each below 256
pub bytes_are : (bytes : List ℕ) → ((i : ℕ) → Fits w8 (get_or bytes i 0)) → is_bytes bytes ≡ true
bytes_are [] fits = refl
bytes_are (x ∷ xs) fits = ap (λ b. b && is_bytes xs) (byte_is x (fits 0)) ∙ bytes_are xs (λ i. fits (suc i))

not_zero : (n : ℕ) → suc n ≡ 0 → ⊥
not_zero n e = omega (arith, e)

not_none : (n : ℕ) → not (n == 0) ≡ nat_le 1 n
not_none zero = refl
not_none (suc n) = ap not (ne_eqb (suc n) 0 (not_zero n)) ∙ sym (le-leb 1 (suc n) (omega arith))

-- what is tested of bytes
pub go_key : (k : VaultKind) (bytes : List ℕ) → k ≡ kind.Gocryptfs → ((i : ℕ) → Fits w8 (get_or bytes i 0)) → length bytes ≡ 16 → not (is_all_zero bytes) ≡ is_key k bytes
go_key kind.Gocryptfs bytes is fits size =
    sym (ap (λ b. b && (length bytes == 16) && not (is_all_zero bytes)) (bytes_are bytes fits) ∙ ap (λ b. b && not (is_all_zero bytes)) (eq-eqb (length bytes) 16 size))
go_key kind.Cryptomator bytes is fits size = cc

pub cm_key : (k : VaultKind) (bytes : List ℕ) → k ≡ kind.Cryptomator → ((i : ℕ) → Fits w8 (get_or bytes i 0)) → not (length bytes == 0) ≡ is_key k bytes
cm_key kind.Cryptomator bytes is fits = not_none (length bytes) ∙ sym (ap (λ b. b && nat_le 1 (length bytes)) (bytes_are bytes fits))
cm_key kind.Gocryptfs bytes is fits = cc

both_false : (a c : Bool) → ((a && false) && c) ≡ false
both_false true c = refl
both_false false c = refl

and_true : (a : Bool) → (a && true) ≡ a
and_true true = refl
and_true false = refl

and_false : (a : Bool) → (a && false) ≡ false
and_false true = refl
and_false false = refl

-- the key that a file of at most so many bytes holds is the one that the format takes of all that stands there
pub key_found : (vault : Vault) (there : Found) → key_by (kind_of vault) (small_file (key_limit (kind_of vault)) there) ≡ option_and_then (format_of vault).key_in (file_bytes there)
key_found (Gocryptfs go) NoEntry = refl
key_found (Gocryptfs go) Folder = refl
key_found (Gocryptfs go) Special = refl
key_found (Gocryptfs go) (FileOf bytes) = by_size (nat_le (length bytes) 16) refl
  where
    not_so : length bytes ≡ 16 → 16 < length bytes → ⊥
    not_so same more = omega (arith, same, more)

    by_size : (small : Bool) → nat_le (length bytes) 16 ≡ small
        → key_by kind.Gocryptfs (cond small (Whole bytes) TooLarge) ≡ cond ((is_bytes bytes && (length bytes == 16)) && not (is_all_zero bytes)) (Some bytes) None
    by_size true is = refl
    by_size false is =
        let other : (length bytes == 16) ≡ false = ne_eqb (length bytes) 16 (λ same. not_so same (leb-false (length bytes) 16 is)) in
        sym (ap (λ b. cond ((is_bytes bytes && b) && not (is_all_zero bytes)) (Some bytes) None) other ∙ ap (λ b. cond b (Some bytes) None) (both_false (is_bytes bytes) (not (is_all_zero bytes))))
key_found (Cryptomator cm) NoEntry = refl
key_found (Cryptomator cm) Folder = refl
key_found (Cryptomator cm) Special = refl
key_found (Cryptomator cm) (FileOf bytes) = by_size (nat_le (length bytes) 1000)
  where
    by_size : (small : Bool)
        → key_by kind.Cryptomator (cond small (Whole bytes) TooLarge) ≡ cond ((is_bytes bytes && nat_le 1 (length bytes)) && small) (Some bytes) None
    by_size true = sym (ap (λ b. cond b (Some bytes) None) (and_true (is_bytes bytes && nat_le 1 (length bytes))))
    by_size false = sym (ap (λ b. cond b (Some bytes) None) (and_false (is_bytes bytes && nat_le 1 (length bytes))))

own_key_file : (vault : Vault) → key_file_by (kind_of vault) ≡ (format_of vault).key_file
own_key_file (Gocryptfs go) = refl
own_key_file (Cryptomator cm) = refl

-- so the key is read right
pub key_read : (vault : Vault) (at : Path) (w : View) (k : VaultKind) (name : Part) (limit : ℕ) (path : Path) (file : SmallFile)
    → k ≡ kind_of vault → name ≡ key_file_by k → limit ≡ key_limit k → path ≡ child at name → file ≡ small_file limit (w path)
    → key_by k file ≡ key_of (format_of vault) (under at w)
key_read vault at w k name limit path file is_kind is_name is_limit is_path is_file =
    ap (key_by k) (is_file ∙ ap (λ n. small_file n (w path)) is_limit ∙ ap (λ p. small_file (key_limit k) (w p)) (is_path ∙ ap (child at) is_name))
    ∙ ap (λ x. key_by x (small_file (key_limit x) (w (child at (key_file_by x))))) is_kind
    ∙ ap (λ n. key_by (kind_of vault) (small_file (key_limit (kind_of vault)) (w (child at n)))) (own_key_file vault)
    ∙ key_found vault (w (child at (format_of vault).key_file))

-- the path of a long name's file in its entry
pub full_in_entry : (vault : Vault) (at path : Path) (name : Part) → kind.Cryptomator ≡ kind_of vault → path ≡ child (child at name) full_file → path ≡ at ++ (format_of vault).full_at name
full_in_entry (Cryptomator cm) at path name is e = e ∙ append_assoc at (name ∷ []) (full_file ∷ [])
full_in_entry (Gocryptfs go) at path name is e = cc

-- what stands at the entry of a name stands under it
pub at_name : (f : Format) (v : View) (dir : Directory) (name : List ℕ) (stored : Stored) → IsTrue (is_name name) → stored ≡ f.stored dir.key name
    → standing_at f v dir stored ≡ standing_in f v dir name
unfolding standing_in
at_name f v dir name stored named e = ap (standing_at f v dir) e ∙ ap (λ b. cond b (standing_at f v dir (f.stored dir.key name)) Absent) (sym named)
