-- A stored text that was opened is the encrypted text, encrypted again; and where its tag is right.
use Rattle.std.proofs.Common.{◌≡◌, ◌+◌, ◌-◌, Bool, true, false, List, ℕ, length, take, drop, sym, ap, ◌∙◌, arith, refl}
use Rattle.std.proofs.lemmas.Bool.{false_from_ne_true}
use Rattle.std.proofs.lemmas.List.{take_rest}
use Rattle.std.proofs.lemmas.Slice.Eq.{bytes_eq-Decides}
use Rattle.std.specs.Str.{bytes_eq}
use Rattle.aes_lanes.specs.Cipher.{aes256}
use Rattle.gcm_mode.specs.Gcm.{encrypted, tag_of, Sealed, Opens}
use Rattle.chunk_files.specs.Sealed.{is_tag_right, plain_text, nonce_of, text_of, tag_in}

-- the parts of what is stored that stand in buffers of their own
pub record HasParts (n : ℕ) (stored text tag : List ℕ) : Type 0 where
  pub text_is : text ≡ take (length stored - 16 - n) (drop n stored)
  pub tag_is : tag ≡ take (length stored - (length stored - 16)) (drop (length stored - 16) stored)

module _ (key associated : List ℕ) (n : ℕ) (stored text tag : List ℕ) (parts : HasParts n stored text tag) where
  text-is : text ≡ text_of n stored
  text-is =
      let size : length stored - 16 - n ≡ length stored - (n + 16) = omega arith in
      parts.text_is ∙ ap (λ (m : ℕ). take m (drop n stored)) size

  tag-is : tag ≡ tag_in stored
  tag-is = parts.tag_is ∙ take_rest stored (length stored - 16)

  pub right-tag : tag ≡ tag_of (aes256 key) (nonce_of n stored) associated text → is_tag_right key associated n stored ≡ true
  unfolding is_tag_right
  right-tag right =
      (bytes_eq-Decides (tag_in stored) (tag_of (aes256 key) (nonce_of n stored) associated (text_of n stored))).1
      (sym tag-is ∙ right ∙ ap (tag_of (aes256 key) (nonce_of n stored) associated) text-is)

  pub wrong-tag : (tag ≡ tag_of (aes256 key) (nonce_of n stored) associated text → ⊥) → is_tag_right key associated n stored ≡ false
  unfolding is_tag_right
  wrong-tag wrong =
      let test : Bool = bytes_eq (tag_in stored) (tag_of (aes256 key) (nonce_of n stored) associated (text_of n stored)) in
      let equal : test ≡ true → ⊥ = λ same. wrong (tag-is
      ∙ (bytes_eq-Decides (tag_in stored) (tag_of (aes256 key) (nonce_of n stored) associated (text_of n stored))).0 same
      ∙ ap (tag_of (aes256 key) (nonce_of n stored) associated) (sym text-is)) in
      false_from_ne_true test equal

  pub plain-opened : (plain : List ℕ)
      → ((iv ad : List ℕ) (s : Sealed) (plain : List ℕ) → Opens (aes256 key) iv ad s plain → encrypted (aes256 key) iv s.text ≡ plain)
      → Opens (aes256 key) (nonce_of n stored) associated (record { text = text; tag = tag }) plain → plain ≡ plain_text key n stored
  unfolding plain_text
  plain-opened plain decrypted opens =
      sym (decrypted (nonce_of n stored) associated (record { text = text; tag = tag }) plain opens)
      ∙ ap (encrypted (aes256 key) (nonce_of n stored)) text-is
