-- The sizes and characters of Cryptomator's texts.
use Rattle.std.proofs.Common.{◌≡◌, ◌==◌, ℕ, zero, suc, ◌+◌, ◌*◌, ◌/◌, true, List, [], ◌∷◌, ◌++◌, length, take, drop, replicate, codes, IsTrue, refl, sym, ap, ◌∙◌, arith, lit<, length-append, append-nil, append_assoc}
use Rattle.std.specs.List.{list_all}
use Rattle.std.specs.Prelude.{slice_index}
use Rattle.std.specs.Int.{bytes_high_first}
use Rattle.std.proofs.lemmas.Bool.{and_from, and_parts, or_left}
use Rattle.std.proofs.lemmas.List.{length-replicate, take_at, drop_at}
use Rattle.std.proofs.lemmas.List.Folds.{list_all-append}
use Rattle.std.proofs.lemmas.Slice.Eq.{bytes_eq-Decides}
use Rattle.sha1.specs.Sha1.{sha1, digest_bytes}
use Rattle.base64.specs.Engines.{url_safe}
use Rattle.base64.specs.GeneralPurpose.{IsBytes}
use Rattle.base64.specs.Rfc4648.{encode_symbols, padding_len}
use Rattle.json_fields.specs.Base64.{is_base64url}
use Rattle.vault_names.specs.Gocryptfs.{base64url}
use Rattle.vault_names.specs.Cryptomator.{cm_folder_of, cm_long_name, cm_text, is_cm_long_name, siv_under, padded_base64url, is_padded_base64url, IsPlainUpTo}
use Rattle.vault_values.specs.declared.keys.CmKeys.{CmKeys}
use Rattle.vault_names.specs.Base32.{is_base32}
use Rattle.vault_names.proofs.Blocks.{IsBytes-append}
use Rattle.vault_names.proofs.Groups.{characters-base32, length-base32}
use Rattle.vault_names.proofs.Characters.{IsOfAlphabet}

-- base64url with padding is that without, and then the padding
padding_of : List ℕ → List ℕ
padding_of bytes = replicate (padding_len (length bytes)) 61

padded-is : (bytes : List ℕ) → padded_base64url bytes ≡ base64url bytes ++ padding_of bytes
unfolding padding_of
padded-is bytes = ap (λ symbols. symbols ++ replicate (padding_len (length bytes)) 61) (sym (append-nil (encode_symbols url_safe.encode_table bytes)))

length-padded_base64url : IsOfAlphabet → (bytes : List ℕ) → length (padded_base64url bytes) ≡ 4 * ((length bytes + 2) / 3)
unfolding padding_of
length-padded_base64url alphabet bytes =
    ap length (padded-is bytes) ∙ length-append (base64url bytes) (padding_of bytes)
    ∙ omega (arith, alphabet.size bytes, length-replicate {A = ℕ} (padding_len (length bytes)) 61)

-- and of its characters
still_plain : (text : List ℕ) → list_all is_base64url text ≡ true → list_all is_padded_base64url text ≡ true
still_plain [] is = refl
still_plain (c ∷ text) is =
    let parts = and_parts (is_base64url c) (list_all is_base64url text) is in
    and_from _ _ (or_left _ _ parts.0) (still_plain text parts.1)

plain-padding : (n : ℕ) → list_all is_padded_base64url (replicate n 61) ≡ true
plain-padding zero = refl
plain-padding (suc n) = plain-padding n

plain-padded_base64url : IsOfAlphabet → (bytes : List ℕ) → IsBytes bytes → IsTrue (list_all is_padded_base64url (padded_base64url bytes))
unfolding padding_of
plain-padded_base64url alphabet bytes are =
    ap (list_all is_padded_base64url) (padded-is bytes)
    ∙ list_all-append is_padded_base64url (base64url bytes) (padding_of bytes)
    ∙ and_from _ _ (still_plain (base64url bytes) (alphabet.characters bytes are)) (plain-padding (padding_len (length bytes)))

-- the base64url of bytes, and then an ending
plain-ended : IsOfAlphabet → (bytes ending text : List ℕ) → IsBytes bytes → text ≡ padded_base64url bytes ++ ending → IsPlainUpTo ending text
plain-ended alphabet bytes ending text are is =
    record { front = padded_base64url bytes; plain = plain-padded_base64url alphabet bytes are; ended = is }

length-ended : IsOfAlphabet → (bytes ending : List ℕ) → length (padded_base64url bytes ++ ending) ≡ 4 * ((length bytes + 2) / 3) + length ending
length-ended alphabet bytes ending =
    length-append (padded_base64url bytes) ending ∙ ap (λ n. n + length ending) (length-padded_base64url alphabet bytes)

-- a digest is twenty bytes
length-high_first : (i n : ℕ) → length (bytes_high_first i n) ≡ i
length-high_first zero n = refl
length-high_first (suc i) n = ap suc (length-high_first i n)

length-digest : (h : List ℕ) (n : ℕ) → length (digest_bytes h n) ≡ 4 * n
unfolding digest_bytes
length-digest h zero = refl
length-digest h (suc n) =
    length-append (digest_bytes h n) (bytes_high_first 4 (slice_index h n))
    ∙ omega (arith, length-digest h n, length-high_first 4 (slice_index h n))

IsBytes-high_first : (i n : ℕ) → IsBytes (bytes_high_first i n)
IsBytes-high_first zero n k = lit< tt
IsBytes-high_first (suc zero) n zero = omega arith
IsBytes-high_first (suc (suc i)) n zero = omega arith
IsBytes-high_first (suc i) n (suc k) = IsBytes-high_first i n k

IsBytes-digest : (h : List ℕ) (n : ℕ) → IsBytes (digest_bytes h n)
unfolding digest_bytes
IsBytes-digest h zero = λ k. lit< tt
IsBytes-digest h (suc n) = IsBytes-append _ _ (IsBytes-digest h n) (IsBytes-high_first 4 (slice_index h n))

length-sha1 : (text : List ℕ) → length (sha1 text) ≡ 20
unfolding sha1
length-sha1 text = length-digest _ 5

IsBytes-sha1 : (text : List ℕ) → IsBytes (sha1 text)
unfolding sha1
IsBytes-sha1 text = IsBytes-digest _ 5

-- a text, where sealing adds sixteen bytes and gives bytes
pub length-cm_text : IsOfAlphabet → (keys : CmKeys) (id name : List ℕ) → length (siv_under keys (id ∷ []) name) ≡ 16 + length name
    → length (cm_text keys id name) ≡ 4 * ((length name + 16 + 2) / 3) + 4
unfolding cm_text
length-cm_text alphabet keys id name longer =
    length-ended alphabet (siv_under keys (id ∷ []) name) (codes ".c9r") ∙ ap (λ n. 4 * ((n + 2) / 3) + 4) longer ∙ omega arith

pub plain-cm_text : IsOfAlphabet → (keys : CmKeys) (id name : List ℕ) → IsBytes (siv_under keys (id ∷ []) name)
    → IsPlainUpTo (codes ".c9r") (cm_text keys id name)
unfolding cm_text
plain-cm_text alphabet keys id name sealed = plain-ended alphabet (siv_under keys (id ∷ []) name) (codes ".c9r") _ sealed refl

-- a long name
pub length-cm_long_name : IsOfAlphabet → (text : List ℕ) → length (cm_long_name text) ≡ 32
unfolding cm_long_name
length-cm_long_name alphabet text =
    length-ended alphabet (sha1 text) (codes ".c9s") ∙ ap (λ n. 4 * ((n + 2) / 3) + 4) (length-sha1 text)

pub plain-cm_long_name : IsOfAlphabet → (text : List ℕ) → IsPlainUpTo (codes ".c9s") (cm_long_name text)
unfolding cm_long_name
plain-cm_long_name alphabet text = plain-ended alphabet (sha1 text) (codes ".c9s") _ (IsBytes-sha1 text) refl

-- as the digest has twenty bytes, one `=` stands behind its characters
cm_long_name-is : (text : List ℕ) → cm_long_name text ≡ base64url (sha1 text) ++ codes "=.c9s"
unfolding cm_long_name padding_of
cm_long_name-is text = ap (λ padded. padded ++ codes ".c9s") (padded-is (sha1 text) ∙ ap (λ n. base64url (sha1 text) ++ replicate (padding_len n) 61) (length-sha1 text))
    ∙ append_assoc (base64url (sha1 text)) (codes "=") (codes ".c9s")

pub form-cm_long_name : IsOfAlphabet → (text : List ℕ) → IsTrue (is_cm_long_name (cm_long_name text))
form-cm_long_name alphabet text =
    and_from _ _
    (and_from _ _ (ap (λ n. n == 32) (length-cm_long_name alphabet text)) (ap (list_all is_base64url) digest ∙ alphabet.characters (sha1 text) (IsBytes-sha1 text)))
    ((bytes_eq-Decides (drop 27 (cm_long_name text)) (codes "=.c9s")).1 end)
  where
    size : length (base64url (sha1 text)) ≡ 27
    size = alphabet.size (sha1 text) ∙ ap (λ n. (4 * n + 2) / 3) (length-sha1 text)

    digest : take 27 (cm_long_name text) ≡ base64url (sha1 text)
    digest = ap (take 27) (cm_long_name-is text) ∙ take_at (base64url (sha1 text)) (codes "=.c9s") 27 size

    end : drop 27 (cm_long_name text) ≡ codes "=.c9s"
    end = ap (drop 27) (cm_long_name-is text) ∙ drop_at (base64url (sha1 text)) (codes "=.c9s") 27 size

-- a folder
pub length-cm_folder_of : (keys : CmKeys) (id : List ℕ) → length (cm_folder_of keys id) ≡ 32
unfolding cm_folder_of
length-cm_folder_of keys id = length-base32 _ ∙ ap (λ n. 8 * (n / 5)) (length-sha1 _)

pub characters-cm_folder_of : (keys : CmKeys) (id : List ℕ) → IsTrue (list_all is_base32 (cm_folder_of keys id))
unfolding cm_folder_of
characters-cm_folder_of keys id = characters-base32 _
