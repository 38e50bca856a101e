-- Texts of Cryptomator, and what they open to.
use Rattle.std.proofs.Common.{◌≡◌, ℕ, List, [], ◌∷◌, ◌++◌, codes, Ok, IsTrue, sym, ap, ◌∙◌, refl}
use Rattle.std.specs.List.{All}
use Rattle.std.proofs.lemmas.List.{append_cancel_right}
use Rattle.std.proofs.lemmas.List.Elements.{All-nil, All-cons}
use Rattle.aes_lanes.specs.BlockCipher.{AreInverse}
use Rattle.aes_lanes.specs.Cipher.{aes, aes256, inverse_aes}
use Rattle.aes_lanes.specs.Laws.Cipher.{length-aes}
use Rattle.base64.specs.Engines.{url_safe}
use Rattle.base64.specs.GeneralPurpose.{IsBytes, decode_of}
use Rattle.base64.proofs.EngineFacts.{decode_of-encode_of}
use Rattle.vault_values.specs.declared.keys.CmKeys.{CmKeys}
use Rattle.plain_tree.specs.Names.{is_name}
use Rattle.siv_mode.specs.Siv.{AreImages, siv_encrypt}
use Rattle.vault_names.specs.Cryptomator.{cm_text, siv_under, padded_base64url, IsCmTextOf}
use Rattle.vault_names.proofs.Encryption.{IsBytes-name}

-- the images of AES under a key of 32 bytes
pub images : ((key_words : ℕ) (key : List ℕ) → AreInverse (aes key_words key) (inverse_aes key_words key)) → (key : List ℕ) → AreImages (aes256 key)
images inverse key = record { sixteen = length-aes 8 key; block = (inverse 8 key).block }

-- what is sealed of a name is of bytes
abbrev SealsBytes : Type 0
SealsBytes = (mac ctr : List ℕ → List ℕ) → AreImages mac → AreImages ctr → (strings : List (List ℕ)) (plain : List ℕ) → All IsBytes strings → IsBytes plain → IsBytes (siv_encrypt mac ctr strings plain)

pub sealed-bytes : ((key_words : ℕ) (key : List ℕ) → AreInverse (aes key_words key) (inverse_aes key_words key)) → SealsBytes
    → (keys : CmKeys) (id name : List ℕ) → IsBytes id → IsTrue (is_name name) → IsBytes (siv_under keys (id ∷ []) name)
sealed-bytes inverse seals keys id name id_bytes named =
    seals (aes256 keys.mac) (aes256 keys.enc) (images inverse keys.mac) (images inverse keys.enc) (id ∷ []) name (All-cons IsBytes id [] id_bytes (All-nil IsBytes)) (IsBytes-name name named)

-- a text is that of bytes at most once
pub sealed-once : (a b text : List ℕ) → IsBytes a → IsBytes b → padded_base64url a ++ codes ".c9r" ≡ text → padded_base64url b ++ codes ".c9r" ≡ text → a ≡ b
sealed-once a b text a_bytes b_bytes one two =
    let same : padded_base64url a ≡ padded_base64url b = append_cancel_right (padded_base64url a) (padded_base64url b) (codes ".c9r") (one ∙ sym two) in
    let decoded : Ok a ≡ Ok b =
    sym (decode_of-encode_of url_safe a refl a_bytes) ∙ ap (decode_of url_safe) same ∙ decode_of-encode_of url_safe b refl b_bytes in
    cc

-- the sealed bytes behind the text of a name
pub sealed-text : (keys : CmKeys) (id name text : List ℕ) → IsCmTextOf keys id name text → padded_base64url (siv_under keys (id ∷ []) name) ++ codes ".c9r" ≡ text
unfolding cm_text
sealed-text keys id name text is = is.encrypts

pub text-sealed : (keys : CmKeys) (id name text sealed : List ℕ) → IsTrue (is_name name) → siv_under keys (id ∷ []) name ≡ sealed → padded_base64url sealed ++ codes ".c9r" ≡ text
    → IsCmTextOf keys id name text
unfolding cm_text
text-sealed keys id name text sealed named seals is =
    record { named = named; encrypts = ap (λ bytes. padded_base64url bytes ++ codes ".c9r") seals ∙ is }
