-- The parts of GCM as the code computes them.
use Rattle.std.proofs.Common.{◌≡◌, ◌≢◌, ℕ, ◌*◌, List, [], ◌∷◌, ◌++◌, length, bit_xor, eq-eqb, inl, inr, refl, sym, ap, ◌∙◌}
use Rattle.std.proofs.lemmas.Bool.Decides.{eqb_tells}
use Rattle.std.proofs.lemmas.List.{append-nil}
use Rattle.aes_lanes.specs.Bytes.{xor_bytes}
use Rattle.aes_lanes.specs.Cipher.{aes256}
use Rattle.aes_lanes.specs.Counter.{counter_mode, ctr32, increment32, key_stream}
use Rattle.aes_lanes.specs.Laws.Cipher.{length-aes}
use Rattle.aes_lanes.specs.Laws.Counter.{counter_mode-twice, length-counter_mode}
use Rattle.gcm_mode.specs.Field.{product}
use Rattle.gcm_mode.specs.Hash.{blocks_of, block_bytes}
use Rattle.gcm_mode.specs.Private.{ghash_from}
use Rattle.gcm_mode.specs.Gcm.{hash_subkey, pre_counter, lengths_block, hashed, tag_of, encrypted, Sealed, sealed, Opens, OpensToOneText}
use Rattle.gcm_mode.proofs.Hashes.{ghash_from-append, ghash-last}

pub pre_counter-short : (image : List ℕ → List ℕ) (iv : List ℕ) → length iv ≡ 12 → pre_counter image iv ≡ iv ++ 0 ∷ 0 ∷ 0 ∷ 1 ∷ []
unfolding pre_counter
pre_counter-short image iv twelve = rw (eq-eqb (length iv) 12 twelve)

pub pre_counter-hashed : (image : List ℕ → List ℕ) (iv : List ℕ) (h hash : ℕ) → length iv ≢ 12 → h ≡ hash_subkey image → hash ≡ ghash_from h 0 (blocks_of iv) → block_bytes (product (bit_xor hash (8 * length iv)) h) ≡ pre_counter image iv
unfolding pre_counter
pre_counter-hashed image iv h hash other subkey at =
    rw (at, subkey) (elim (eqb_tells (length iv) 12) [
      | inl twelve ↦ absurd (other twelve.1)
      | inr test ↦ rw (test.0, ghash-last) refl
    ])

pub hashed-is : (image : List ℕ → List ℕ) (ad text : List ℕ) (h first hash : ℕ) → h ≡ hash_subkey image → first ≡ ghash_from h 0 (blocks_of ad) → hash ≡ ghash_from h first (blocks_of text) → product (bit_xor hash (lengths_block ad text)) h ≡ hashed image ad text
unfolding hashed
hashed-is image ad text h first hash subkey one two =
    rw (two, one, subkey) (sym (rw (ghash-last, ghash_from-append) refl))

-- a tag as the code makes it: GHASH, and the image of the pre-counter block
pub tag-is : (key iv ad text counter mask tag : List ℕ) → counter ≡ pre_counter (aes256 key) iv → mask ≡ aes256 key counter
    → tag ≡ xor_bytes (block_bytes (hashed (aes256 key) ad text)) mask → tag ≡ tag_of (aes256 key) iv ad text
unfolding tag_of block_bytes counter_mode key_stream
tag-is key iv ad text counter mask tag first image is =
    let hash : List ℕ = block_bytes (hashed (aes256 key) ad text) in
    is ∙ ap (xor_bytes hash) (image ∙ ap (aes256 key) first ∙ sym (append-nil (aes256 key (pre_counter (aes256 key) iv))))

-- a text that opens a sealed one shows the tag to be the sealed one's
pub tag-opened : (image : List ℕ → List ℕ) (iv ad : List ℕ) (s : Sealed) (plain : List ℕ) → Opens image iv ad s plain → s.tag ≡ tag_of image iv ad s.text
unfolding sealed
tag-opened image iv ad s plain opens =
    sym (ap (λ (t : Sealed). t.tag) opens) ∙ ap (tag_of image iv ad) (ap (λ (t : Sealed). t.text) opens)

-- a text and its encryption are as long, and encrypting twice gives the text back
pub length-encrypted : (key iv plain : List ℕ) → length (encrypted (aes256 key) iv plain) ≡ length plain
unfolding encrypted
length-encrypted key iv plain =
    length-counter_mode (aes256 key) increment32 (length-aes 8 key) (increment32 (pre_counter (aes256 key) iv)) plain

pub encrypted-twice : (key iv text : List ℕ) → encrypted (aes256 key) iv (encrypted (aes256 key) iv text) ≡ text
unfolding encrypted
encrypted-twice key iv text =
    counter_mode-twice (aes256 key) increment32 (length-aes 8 key) (increment32 (pre_counter (aes256 key) iv)) text

-- the text that the key stream of a sealed text's place leaves opens it, where the tag is right
pub opened-is : (key iv ad text tag plain : List ℕ) → tag_of (aes256 key) iv ad text ≡ tag → plain ≡ encrypted (aes256 key) iv text → Opens (aes256 key) iv ad (record { text = text; tag = tag }) plain
unfolding sealed
opened-is key iv ad text tag plain right stream =
    let back : encrypted (aes256 key) iv plain ≡ text = ap (encrypted (aes256 key) iv) stream ∙ encrypted-twice key iv text in
    rw back (ap (λ (t : List ℕ). record { text = text; tag = t }) right)

pub sealed-is : (image : List ℕ → List ℕ) (iv ad plain text tag : List ℕ) → text ≡ ctr32 image (increment32 (pre_counter image iv)) plain → tag ≡ tag_of image iv ad text → sealed image iv ad plain ≡ record { text = text; tag = tag }
unfolding sealed encrypted
sealed-is image iv ad plain text tag stream right = sym (rw (right, stream) refl)

-- a text that opens a sealed one is the encrypted text, encrypted again
pub plain-is : (key iv ad plain : List ℕ) (s : Sealed) → Opens (aes256 key) iv ad s plain → encrypted (aes256 key) iv s.text ≡ plain
unfolding sealed
plain-is key iv ad plain s opens =
    ap (encrypted (aes256 key) iv) (sym (ap (λ (t : Sealed). t.text) opens)) ∙ encrypted-twice key iv plain

-- a tag has sixteen bytes
pub length-tag_of : (key iv ad text : List ℕ) → length (tag_of (aes256 key) iv ad text) ≡ 16
unfolding tag_of block_bytes
length-tag_of key iv ad text =
    length-counter_mode (aes256 key) increment32 (length-aes 8 key) (pre_counter (aes256 key) iv) (block_bytes (hashed (aes256 key) ad text))

pub opens_once : OpensToOneText
opens_once key iv ad plain other s one two = sym (plain-is key iv ad plain s one) ∙ plain-is key iv ad other s two
