-- A text that is stored sealed is opened to itself, and what opens is the text sealed.
use Rattle.std.proofs.Common.{◌≡◌, ℕ, ◌+◌, ◌-◌, ◌≤◌, Bool, true, false, cond, List, ◌++◌, length, take, drop, None, Some, refl, sym, ap, ◌∙◌, arith, length-append}
use Rattle.std.proofs.lemmas.List.{take_at, drop_at, append_assoc, length-take, take-append-drop}
use Rattle.std.proofs.lemmas.Slice.Eq.{bytes_eq-Decides}
use Rattle.std.proofs.Math.Seq.{take-add}
use Rattle.std.specs.Str.{bytes_eq}
use Rattle.aes_lanes.specs.Cipher.{aes256}
use Rattle.gcm_mode.specs.Gcm.{Opens, Sealed, encrypted, tag_of, sealed}
use Rattle.chunk_files.specs.Sealed.{sealed_text, nonce_of, text_of, tag_in, is_tag_right, plain_text, opened_text}

-- what the laws of GCM say of sealing
pub record GcmLaws : Type 0 where
  pub as_long : (key iv ad plain : List ℕ) → length (sealed (aes256 key) iv ad plain).text ≡ length plain
  pub sixteen : (key iv ad plain : List ℕ) → length (sealed (aes256 key) iv ad plain).tag ≡ 16
  pub decrypted : (key iv ad : List ℕ) (s : Sealed) (plain : List ℕ) → Opens (aes256 key) iv ad s plain → encrypted (aes256 key) iv s.text ≡ plain

-- the nonce at the front of what is stored
pub nonce-sealed_text : (key associated nonce text : List ℕ) (n : ℕ) → length nonce ≡ n → take n (sealed_text key associated nonce text) ≡ nonce
unfolding sealed_text
nonce-sealed_text key associated nonce text n size =
    let sealed_so = sealed (aes256 key) nonce associated text in
    ap (take n) (append_assoc nonce sealed_so.text sealed_so.tag) ∙ take_at nonce (sealed_so.text ++ sealed_so.tag) n size

-- the three parts of what is stored, by their lengths
record IsSplit (n : ℕ) (stored nonce text tag : List ℕ) : Type 0 where
  pub parts : stored ≡ nonce ++ text ++ tag
  pub nonce_length : length nonce ≡ n
  pub tag_length : length tag ≡ 16

module _ (n : ℕ) (stored nonce text tag : List ℕ) (split : IsSplit n stored nonce text tag) where
  split-length : length stored ≡ n + 16 + length text
  split-length =
      omega (arith, ap length split.parts, length-append (nonce ++ text) tag, length-append nonce text, split.nonce_length, split.tag_length)

  split-nonce : nonce_of n stored ≡ nonce
  split-nonce = ap (take n) (split.parts ∙ append_assoc nonce text tag) ∙ take_at nonce (text ++ tag) n split.nonce_length

  split-text : text_of n stored ≡ text
  split-text =
      let behind : drop n stored ≡ text ++ tag = ap (drop n) (split.parts ∙ append_assoc nonce text tag) ∙ drop_at nonce (text ++ tag) n split.nonce_length in
      let size : length text ≡ length stored - (n + 16) = omega (arith, split-length) in
      ap (take (length stored - (n + 16))) behind ∙ take_at text tag (length stored - (n + 16)) size

  split-tag : tag_in stored ≡ tag
  split-tag =
      let size : length (nonce ++ text) ≡ length stored - 16 = omega (arith, split-length, length-append nonce text, split.nonce_length) in
      ap (drop (length stored - 16)) split.parts ∙ drop_at (nonce ++ text) tag (length stored - 16) size

module _ (laws : GcmLaws) (key associated : List ℕ) (n : ℕ) where
  length-encrypted : (nonce text : List ℕ) → length (encrypted (aes256 key) nonce text) ≡ length text
  unfolding sealed
  length-encrypted nonce text = laws.as_long key nonce associated text

  encrypted-twice : (nonce text : List ℕ) → encrypted (aes256 key) nonce (encrypted (aes256 key) nonce text) ≡ text
  unfolding sealed
  encrypted-twice nonce text = laws.decrypted key nonce associated (sealed (aes256 key) nonce associated text) text refl

  sealed-split : (nonce text : List ℕ) → length nonce ≡ n
      → IsSplit n (sealed_text key associated nonce text) nonce (encrypted (aes256 key) nonce text)
      (tag_of (aes256 key) nonce associated (encrypted (aes256 key) nonce text))
  unfolding sealed sealed_text
  sealed-split nonce text size = record {
    parts = refl;
    nonce_length = size;
    tag_length = laws.sixteen key nonce associated text;
  }

  pub length-sealed_text : (nonce text : List ℕ) → length nonce ≡ n → length (sealed_text key associated nonce text) ≡ n + 16 + length text
  length-sealed_text nonce text size =
      split-length n _ _ _ _ (sealed-split nonce text size) ∙ ap (λ (m : ℕ). n + 16 + m) (length-encrypted nonce text)

  pub opened-sealed_text : (nonce text : List ℕ) → length nonce ≡ n → opened_text key associated n (sealed_text key associated nonce text) ≡ Some text
  unfolding opened_text is_tag_right plain_text
  opened-sealed_text nonce text size =
      let image : List ℕ → List ℕ = aes256 key in
      let cipher : List ℕ = encrypted image nonce text in
      let tag : List ℕ = tag_of image nonce associated cipher in
      let split = sealed-split nonce text size in
      let right : bytes_eq tag tag ≡ true = (bytes_eq-Decides tag tag).1 refl in
      rw (split-nonce n _ _ _ _ split, split-text n _ _ _ _ split, split-tag n _ _ _ _ split, right)
      (ap Some (encrypted-twice nonce text))

  -- what is stored is its three parts
  parts-of : (stored : List ℕ) → n + 16 ≤ length stored → stored ≡ nonce_of n stored ++ text_of n stored ++ tag_in stored
  parts-of stored long =
      let size : n + (length stored - (n + 16)) ≡ length stored - 16 = omega arith in
      let front : nonce_of n stored ++ text_of n stored ≡ take (length stored - 16) stored =
      sym (take-add n (length stored - (n + 16)) stored) ∙ ap (λ (m : ℕ). take m stored) size in
      sym (ap (λ (f : List ℕ). f ++ tag_in stored) front ∙ take-append-drop (length stored - 16) stored)

  sealed-tested : (stored plain : List ℕ) (right : Bool) → n + 16 ≤ length stored → is_tag_right key associated n stored ≡ right
      → cond right (Some (plain_text key n stored)) None ≡ Some plain → stored ≡ sealed_text key associated (take n stored) plain
  unfolding is_tag_right plain_text sealed sealed_text
  sealed-tested stored plain false long test is = cc
  sealed-tested stored plain true long test is =
      let image : List ℕ → List ℕ = aes256 key in
      let same : encrypted image (nonce_of n stored) (text_of n stored) ≡ plain = cc in
      let text : encrypted image (nonce_of n stored) plain ≡ text_of n stored =
      ap (encrypted image (nonce_of n stored)) (sym same) ∙ encrypted-twice (nonce_of n stored) (text_of n stored) in
      let tag : tag_of image (nonce_of n stored) associated (encrypted image (nonce_of n stored) plain) ≡ tag_in stored =
      ap (tag_of image (nonce_of n stored) associated) text
      ∙ sym ((bytes_eq-Decides (tag_in stored) (tag_of image (nonce_of n stored) associated (text_of n stored))).0 test) in
      rw (tag, text) (parts-of stored long)

  pub sealed-opened_text : (stored plain : List ℕ) → n + 16 ≤ length stored → opened_text key associated n stored ≡ Some plain
      → stored ≡ sealed_text key associated (take n stored) plain
  unfolding opened_text
  sealed-opened_text stored plain long opens = sealed-tested stored plain (is_tag_right key associated n stored) long refl opens

  -- the plain text is as long as the encrypted one
  pub length-plain_text : (stored plain : List ℕ) → n + 16 ≤ length stored → opened_text key associated n stored ≡ Some plain
      → length stored ≡ n + 16 + length plain
  length-plain_text stored plain long opens =
      ap length (sealed-opened_text stored plain long opens)
      ∙ length-sealed_text (take n stored) plain (omega (arith, length-take n stored))
