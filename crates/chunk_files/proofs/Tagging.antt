-- A text that is stored with a tag of 32 bytes is opened to itself, and what opens is the text stored so.
use Rattle.std.proofs.Common.{◌≡◌, ℕ, ◌+◌, ◌-◌, ◌≤◌, Bool, true, false, cond, List, ◌++◌, length, take, drop, None, Some, refl, sym, ap, ◌∙◌, arith, length-append}
use Rattle.std.proofs.lemmas.Bool.{false_from_ne_true}
use Rattle.std.proofs.lemmas.List.{take_at, drop_at, append_assoc, length-take, take-append-drop, take-take}
use Rattle.std.proofs.lemmas.Slice.Eq.{bytes_eq-Decides}
use Rattle.std.specs.Prelude.{IsTrue, ◌↔◌}
use Rattle.std.specs.Str.{bytes_eq}
use Rattle.aes_lanes.specs.Cipher.{aes256}
use Rattle.aes_lanes.specs.Counter.{ctr128, increment128}
use Rattle.aes_lanes.specs.Laws.Cipher.{length-aes}
use Rattle.aes_lanes.specs.Laws.Counter.{counter_mode-twice, length-counter_mode}
use Rattle.kdf_suite.specs.Hmac.{hmac_sha256}
use Rattle.chunk_files.specs.Tagged.{before_tag, is_long_tag_right, long_tag, opened_tagged, restored_text, streamed_text, tagged_text}
use Rattle.chunk_files.proofs.Sealing.{GcmLaws}

-- a tag has 32 bytes
abbrev pub HasTagSize : Type 0
HasTagSize = (key text : List ℕ) → length (hmac_sha256 key text) ≡ 32

-- what the laws of the ciphers say of sealing
pub record SealLaws : Type 0 where
  pub gcm : GcmLaws
  pub tag_size : HasTagSize

pub length-ctr128 : (key nonce text : List ℕ) → length (ctr128 (aes256 key) nonce text) ≡ length text
length-ctr128 key nonce text = length-counter_mode (aes256 key) increment128 (length-aes 8 key) nonce text

ctr128-twice : (key nonce text : List ℕ) → ctr128 (aes256 key) nonce (ctr128 (aes256 key) nonce text) ≡ text
ctr128-twice key nonce text = counter_mode-twice (aes256 key) increment128 (length-aes 8 key) nonce text

-- the two parts of what is stored
module _ (body tag : List ℕ) (size : length tag ≡ 32) where
  long-body : length body ≡ length (body ++ tag) - 32
  long-body = omega (arith, size, length-append body tag)

  before-tag : before_tag (body ++ tag) ≡ body
  before-tag = take_at body tag (length (body ++ tag) - 32) long-body

  tag-behind : long_tag (body ++ tag) ≡ tag
  tag-behind = drop_at body tag (length (body ++ tag) - 32) long-body

-- the nonce at the front of what is stored
pub nonce-tagged_text : (key mac associated nonce text : List ℕ) → length nonce ≡ 16 → take 16 (tagged_text key mac associated nonce text) ≡ nonce
unfolding tagged_text streamed_text
nonce-tagged_text key mac associated nonce text size =
    let cipher : List ℕ = ctr128 (aes256 key) nonce text in
    let tag : List ℕ = hmac_sha256 mac (associated ++ (nonce ++ cipher)) in
    ap (take 16) (append_assoc nonce cipher tag) ∙ take_at nonce (cipher ++ tag) 16 size

module _ (law : HasTagSize) (key mac associated : List ℕ) where
  pub length-tagged_text : (nonce text : List ℕ) → length nonce ≡ 16 → length (tagged_text key mac associated nonce text) ≡ 48 + length text
  unfolding tagged_text streamed_text
  length-tagged_text nonce text size =
      let cipher : List ℕ = ctr128 (aes256 key) nonce text in
      let tag : List ℕ = hmac_sha256 mac (associated ++ (nonce ++ cipher)) in
      omega (arith, size, length-append (nonce ++ cipher) tag, length-append nonce cipher, length-ctr128 key nonce text, law mac (associated ++ (nonce ++ cipher)))

  pub opened-tagged_text : (nonce text : List ℕ) → length nonce ≡ 16 → opened_tagged key mac associated (tagged_text key mac associated nonce text) ≡ Some text
  unfolding opened_tagged is_long_tag_right restored_text tagged_text streamed_text
  opened-tagged_text nonce text size =
      let cipher : List ℕ = ctr128 (aes256 key) nonce text in
      let body : List ℕ = nonce ++ cipher in
      let tag : List ℕ = hmac_sha256 mac (associated ++ body) in
      let long : length tag ≡ 32 = law mac (associated ++ body) in
      let right : bytes_eq tag tag ≡ true = (bytes_eq-Decides tag tag).1 refl in
      let front : take 16 (body ++ tag) ≡ nonce = ap (take 16) (append_assoc nonce cipher tag) ∙ take_at nonce (cipher ++ tag) 16 size in
      rw (before-tag body tag long, tag-behind body tag long, right, front, drop_at nonce cipher 16 size)
      (ap Some (ctr128-twice key nonce text))

  -- a plain text, encrypted again, is what stands before the tag
  streamed-restored : (stored : List ℕ) → 48 ≤ length stored → streamed_text key (take 16 stored) (restored_text key stored) ≡ before_tag stored
  unfolding streamed_text restored_text
  streamed-restored stored long =
      let nonce : List ℕ = take 16 stored in
      let front : take 16 (before_tag stored) ≡ nonce = take-take 16 (length stored - 32) stored (omega (arith, long)) in
      ap (λ (cipher : List ℕ). nonce ++ cipher) (ctr128-twice key nonce (drop 16 (before_tag stored)))
      ∙ ap (λ (n : List ℕ). n ++ drop 16 (before_tag stored)) (sym front)
      ∙ take-append-drop 16 (before_tag stored)

  tagged-tested : (stored plain : List ℕ) (right : Bool) → 48 ≤ length stored → is_long_tag_right mac associated stored ≡ right
      → cond right (Some (restored_text key stored)) None ≡ Some plain → stored ≡ tagged_text key mac associated (take 16 stored) plain
  unfolding is_long_tag_right tagged_text
  tagged-tested stored plain false long test is = cc
  tagged-tested stored plain true long test is =
      let same : restored_text key stored ≡ plain = cc in
      let body : streamed_text key (take 16 stored) plain ≡ before_tag stored =
      ap (streamed_text key (take 16 stored)) (sym same) ∙ streamed-restored stored long in
      let tag : long_tag stored ≡ hmac_sha256 mac (associated ++ before_tag stored) =
      (bytes_eq-Decides (long_tag stored) (hmac_sha256 mac (associated ++ before_tag stored))).0 test in
      rw (body, ← tag) (sym (take-append-drop (length stored - 32) stored))

  pub tagged-opened_text : (stored plain : List ℕ) → 48 ≤ length stored → opened_tagged key mac associated stored ≡ Some plain
      → stored ≡ tagged_text key mac associated (take 16 stored) plain
  unfolding opened_tagged
  tagged-opened_text stored plain long opens = tagged-tested stored plain (is_long_tag_right mac associated stored) long refl opens

  -- the plain text is as long as the encrypted one
  pub length-restored_text : (stored plain : List ℕ) → 48 ≤ length stored → opened_tagged key mac associated stored ≡ Some plain
      → length stored ≡ 48 + length plain
  length-restored_text stored plain long opens =
      ap length (tagged-opened_text stored plain long opens)
      ∙ length-tagged_text (take 16 stored) plain (omega (arith, long, length-take 16 stored))

-- ---- a tag that is tested

-- whether the tag is the one that was computed tells whether it is right
pub tag-told : (told : Bool) (mac associated stored behind tag : List ℕ) → behind ≡ long_tag stored → tag ≡ hmac_sha256 mac (associated ++ before_tag stored)
    → IsTrue told ↔ (behind ≡ tag) → told ≡ is_long_tag_right mac associated stored
unfolding is_long_tag_right
tag-told true mac associated stored behind tag place is same =
    sym ((bytes_eq-Decides (long_tag stored) (hmac_sha256 mac (associated ++ before_tag stored))).1 (sym place ∙ same.0 refl ∙ is))
tag-told false mac associated stored behind tag place is same =
    let test : Bool = bytes_eq (long_tag stored) (hmac_sha256 mac (associated ++ before_tag stored)) in
    let equal : test ≡ true → ⊥ = λ right.
    (let yes : false ≡ true = same.1 (place ∙ (bytes_eq-Decides (long_tag stored) (hmac_sha256 mac (associated ++ before_tag stored))).0 right ∙ sym is) in cc) in
    sym (false_from_ne_true test equal)
