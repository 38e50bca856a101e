-- A text that was sealed where it stands in a buffer.
use Rattle.std.proofs.Common.{◌≡◌, ◌∙◌, ◌++◌, ◌+◌, ◌-◌, ◌≤◌, List, ℕ, drop, take, length, sym, ap, ap₂, refl, arith, length-append, length-take}
use Rattle.std.proofs.lemmas.List.{append_assoc, drop_at, drop-take, take_at, take-append-drop}
use Rattle.std.proofs.lemmas.Slice.{take-put_mid}
use borrow.Rule.Slice.PartMut.{mid_of, put_mid}
use Rattle.aes_lanes.specs.Cipher.{aes256}
use Rattle.aes_lanes.specs.Counter.{ctr128}
use Rattle.gcm_mode.specs.Gcm.{sealed}
use Rattle.kdf_suite.specs.Hmac.{hmac_sha256}
use Rattle.chunk_files.specs.Sealed.{sealed_text}
use Rattle.chunk_files.specs.Tagged.{streamed_text, tagged_text}
use Rattle.chunk_files.proofs.Tagging.{length-ctr128}

-- a nonce of n bytes and a text at the front of a buffer
module _ (n : ℕ) (nonce text buffer : List ℕ) (end : ℕ) (size : length nonce ≡ n) (front : take end buffer ≡ nonce ++ text) where
  -- what stands behind the nonce
  middle : n ≤ end → mid_of n (end - n) buffer ≡ text
  middle within =
      let sum : n + (end - n) ≡ end = omega arith in
      sym (drop-take n (end - n) buffer)
      ∙ ap (λ (m : ℕ). drop n (take m buffer)) sum
      ∙ ap (drop n) front ∙ drop_at nonce text n size

  start : take n buffer ≡ nonce
  start =
      ap (take n) (sym (take-append-drop end buffer) ∙ ap (λ (x : List ℕ). x ++ drop end buffer) front ∙ append_assoc nonce text (drop end buffer))
      ∙ take_at nonce (text ++ drop end buffer) n size

  -- other bytes in the place of the text
  with_others : (new : List ℕ) → n ≤ end → end ≤ length buffer → length new ≡ length text → take end (put_mid n (end - n) buffer new) ≡ nonce ++ new
  with_others new within room long =
      let whole : n + length text ≡ end = omega (arith, size, length-append nonce text, ap length front, length-take end buffer) in
      take-put_mid n (end - n) buffer new end (omega (arith, whole, long)) (omega (arith, within, room)) ∙ ap (λ (x : List ℕ). x ++ new) start

module _ (key associated nonce text buffer new tag : List ℕ) (end : ℕ) where
  pub sealed-between : ((iv ad plain : List ℕ) → length (sealed (aes256 key) iv ad plain).text ≡ length plain) → take end buffer ≡ nonce ++ text → length nonce ≤ end → end ≤ length buffer
      → sealed (aes256 key) nonce associated (mid_of (length nonce) (end - length nonce) buffer) ≡ record { text = new; tag = tag }
      → take end (put_mid (length nonce) (end - length nonce) buffer new) ++ tag ≡ sealed_text key associated nonce text
  unfolding sealed_text sealed
  sealed-between as_long front within room is =
      let same : mid_of (length nonce) (end - length nonce) buffer ≡ text = middle (length nonce) nonce text buffer end refl front within in
      let text_is : (sealed (aes256 key) nonce associated text).text ≡ new = ap (λ t. (sealed (aes256 key) nonce associated t).text) (sym same) ∙ ap (λ s. s.text) is in
      let tag_is : (sealed (aes256 key) nonce associated text).tag ≡ tag = ap (λ t. (sealed (aes256 key) nonce associated t).tag) (sym same) ∙ ap (λ s. s.tag) is in
      let long : length new ≡ length text = ap length (sym text_is) ∙ as_long nonce associated text in
      ap (λ (x : List ℕ). x ++ tag) (with_others (length nonce) nonce text buffer end refl front new within room long)
      ∙ ap₂ (λ (a b : List ℕ). nonce ++ a ++ b) (sym text_is) (sym tag_is)

module _ (key mac associated nonce text buffer new tag : List ℕ) (end : ℕ) (sixteen : length nonce ≡ 16) (front : take end buffer ≡ nonce ++ text) where
  streamed-between : 16 ≤ end → end ≤ length buffer → new ≡ ctr128 (aes256 key) nonce (mid_of 16 (end - 16) buffer)
      → take end (put_mid 16 (end - 16) buffer new) ≡ streamed_text key nonce text
  unfolding streamed_text
  streamed-between within room is =
      let text_is : new ≡ ctr128 (aes256 key) nonce text = is ∙ ap (ctr128 (aes256 key) nonce) (middle 16 nonce text buffer end sixteen front within) in
      with_others 16 nonce text buffer end sixteen front new within room (ap length text_is ∙ length-ctr128 key nonce text)
      ∙ ap (λ (x : List ℕ). nonce ++ x) text_is

  pub tagged-between : 16 ≤ end → end ≤ length buffer → new ≡ ctr128 (aes256 key) nonce (mid_of 16 (end - 16) buffer)
      → tag ≡ hmac_sha256 mac (associated ++ take end (put_mid 16 (end - 16) buffer new))
      → take end (put_mid 16 (end - 16) buffer new) ++ tag ≡ tagged_text key mac associated nonce text
  unfolding tagged_text
  tagged-between within room is tag_is =
      let body : take end (put_mid 16 (end - 16) buffer new) ≡ streamed_text key nonce text = streamed-between within room is in
      ap₂ (λ (a b : List ℕ). a ++ b) body (tag_is ∙ ap (λ (x : List ℕ). hmac_sha256 mac (associated ++ x)) body)
