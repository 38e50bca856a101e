-- The characters of texts and of long names.
use Rattle.std.proofs.Common.{◌≡◌, ◌==◌, ℕ, ◌+◌, ◌*◌, ◌/◌, List, length, take, drop, IsTrue, codes, refl, ap, ◌∙◌, arith, length-append}
use Rattle.std.specs.List.{list_all}
use Rattle.std.proofs.lemmas.Bool.{and_from}
use Rattle.std.proofs.lemmas.List.{take_at, drop_at}
use Rattle.std.proofs.lemmas.Slice.Eq.{bytes_eq-Decides}
use Rattle.sha2.specs.Sha256.{sha256}
use Rattle.base64.specs.GeneralPurpose.{IsBytes}
use Rattle.json_fields.specs.Base64.{is_base64url}
use Rattle.eme_mode.specs.Eme.{eme256}
use Rattle.plain_tree.specs.Names.{is_name}
use Rattle.vault_names.specs.Gocryptfs.{padded_bytes, blocks_of, bytes_of, base64url, go_text, is_long_name, long_name}
use Rattle.vault_names.proofs.Blocks.{IsBytes-bytes_of, length-bytes_of}
use Rattle.vault_names.proofs.Encryption.{AreEme, AreBlocksOf-text, length-encrypted}

-- the characters and the size of base64 for URLs
pub record IsOfAlphabet : Type 0 where
  pub characters : (bytes : List ℕ) → IsBytes bytes → IsTrue (list_all is_base64url (base64url bytes))
  pub size : (bytes : List ℕ) → length (base64url bytes) ≡ (4 * length bytes + 2) / 3

-- the size of SHA-256's digests, which are bytes
pub record AreDigests : Type 0 where
  pub size : (text : List ℕ) → length (sha256 text) ≡ 32
  pub bytes : (text : List ℕ) → IsBytes (sha256 text)

-- the text of a name
pub length-text : IsOfAlphabet → (key iv name : List ℕ) → AreEme key iv → IsTrue (is_name name) → length (go_text key iv name) ≡ (64 * (length name / 16 + 1) + 2) / 3
length-text alphabet key iv name eme named =
    let are = AreBlocksOf-text key iv name (go_text key iv name) eme (record { named = named; encrypts = refl }) in
    let size : length (bytes_of (eme256 key iv (blocks_of (padded_bytes name)))) ≡ 16 * (length name / 16 + 1) =
    length-bytes_of _ are.each ∙ ap (λ n. 16 * n) (length-encrypted key iv name eme) in
    ap length are.encoded ∙ alphabet.size _ ∙ omega (arith, size)

pub characters-text : IsOfAlphabet → (key iv name : List ℕ) → AreEme key iv → IsTrue (is_name name) → IsTrue (list_all is_base64url (go_text key iv name))
characters-text alphabet key iv name eme named =
    let are = AreBlocksOf-text key iv name (go_text key iv name) eme (record { named = named; encrypts = refl }) in
    ap (list_all is_base64url) are.encoded ∙ alphabet.characters _ (IsBytes-bytes_of _ are.each)

-- a long name
pub length-long_name : IsOfAlphabet → AreDigests → (text : List ℕ) → length (long_name text) ≡ 62
unfolding long_name
length-long_name alphabet digests text =
    let size : length (base64url (sha256 text)) ≡ 43 = alphabet.size (sha256 text) ∙ ap (λ n. (4 * n + 2) / 3) (digests.size text) in
    length-append (codes "gocryptfs.longname.") (base64url (sha256 text)) ∙ ap (λ n. 19 + n) size

pub take-long_name : (text : List ℕ) → take 19 (long_name text) ≡ codes "gocryptfs.longname."
unfolding long_name
take-long_name text = take_at (codes "gocryptfs.longname.") (base64url (sha256 text)) 19 refl

pub characters-long_name : IsOfAlphabet → AreDigests → (text : List ℕ) → IsTrue (list_all is_base64url (drop 19 (long_name text)))
unfolding long_name
characters-long_name alphabet digests text =
    ap (list_all is_base64url) (drop_at (codes "gocryptfs.longname.") (base64url (sha256 text)) 19 refl)
    ∙ alphabet.characters (sha256 text) (digests.bytes text)

pub form-long_name : IsOfAlphabet → AreDigests → (text : List ℕ) → IsTrue (is_long_name (long_name text))
form-long_name alphabet digests text =
    and_from _ _
    (and_from _ _ (ap (λ n. n == 62) (length-long_name alphabet digests text)) ((bytes_eq-Decides (take 19 (long_name text)) (codes "gocryptfs.longname.")).1 (take-long_name text)))
    (characters-long_name alphabet digests text)
