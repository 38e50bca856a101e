-- A sealed text is of bytes.
use Rattle.std.proofs.Common.{◌≡◌, ℕ, zero, suc, ◌-◌, ◌*◌, ◌/◌, ◌%◌, ◌^◌, ◌<◌, ◌≤◌, List, [], ◌∷◌, false, nat_eq, bit_xor, bit_and, length, take, drop, replicate, refl, arith, lit<, length-append, inl, inr}
use Rattle.std.specs.List.{All}
use Rattle.std.specs.Int.{w128, from_be_bytes, bytes_high_first}
use Rattle.std.proofs.lemmas.Bool.{cases_lt, lt-ltb, le-ltb, eq-eqb, ne_eqb}
use Rattle.std.proofs.lemmas.List.{length-take-le, length-drop, length-replicate}
use Rattle.std.proofs.lemmas.List.Elements.{All-head, All-tail}
use Rattle.aes_lanes.specs.Bytes.{AreBytes, IsBlock, xor_bytes}
use Rattle.aes_lanes.specs.Counter.{ctr128}
use Rattle.aes_lanes.specs.Laws.Rounds.{IsBlock-xor}
use Rattle.aes_lanes.proofs.Bytes.{bytes-append, bytes-drop, bytes-take, bytes-xor, bytes-replicate, bytes-high_first, length-high_first}
use Rattle.siv_mode.specs.Blocks.{zero_block, double, padded_block}
use Rattle.siv_mode.specs.Cmac.{first_subkey, second_subkey, blocks_before_last, last_block, chained, cmac}
use Rattle.siv_mode.specs.S2v.{xorend, summed, last_text, s2v}
use Rattle.siv_mode.specs.Siv.{first_counter, siv_encrypt}

-- a function that takes blocks to blocks
abbrev KeepsBlocks : (List ℕ → List ℕ) → Type 0
KeepsBlocks image = (b : List ℕ) → IsBlock b → IsBlock (image b)

IsBlock-number : (n : ℕ) → IsBlock (bytes_high_first 16 n)
IsBlock-number n = record { sixteen = length-high_first 16 n; bytes = bytes-high_first 16 n }

IsBlock-zero_block : IsBlock zero_block
IsBlock-zero_block = record { sixteen = refl; bytes = bytes-replicate 16 0 (lit< tt) }

IsBlock-double : (block : List ℕ) → IsBlock (double block)
unfolding double
IsBlock-double block =
    let n : ℕ = from_be_bytes w128 block in
    IsBlock-number (bit_xor (n * 2 % 2 ^ 128) (n / 2 ^ 127 * 0x87))

IsBlock-first_counter : (v : List ℕ) → IsBlock (first_counter v)
unfolding first_counter
IsBlock-first_counter v = IsBlock-number (bit_and (from_be_bytes w128 v) (2 ^ 128 - 1 - 2 ^ 63 - 2 ^ 31))

-- one byte before others
bytes-cons : (x : ℕ) (xs : List ℕ) → x < 256 → AreBytes xs → AreBytes (x ∷ xs)
bytes-cons x xs small bytes zero = small
bytes-cons x xs small bytes (suc k) = bytes k

IsBlock-padded_block : (bytes : List ℕ) → AreBytes bytes → length bytes < 16 → IsBlock (padded_block bytes)
unfolding padded_block
IsBlock-padded_block bytes are short =
    let zeros : List ℕ = replicate (15 - length bytes) 0 in
    record {
      sixteen = omega (arith, length-append bytes (0x80 ∷ zeros), length-replicate {A = ℕ} (15 - length bytes) 0);
      bytes = bytes-append bytes (0x80 ∷ zeros) are (bytes-cons 0x80 zeros (lit< tt) (bytes-replicate (15 - length bytes) 0 (lit< tt)));
    }

IsBlock-first : (text : List ℕ) → AreBytes text → 16 ≤ length text → IsBlock (take 16 text)
IsBlock-first text bytes long = record { sixteen = length-take-le 16 text long; bytes = bytes-take 16 text long bytes }

-- CMAC
IsBlock-chained : (image : List ℕ → List ℕ) → KeepsBlocks image → (x text : List ℕ) (n : ℕ) → IsBlock x → AreBytes text → 16 * n ≤ length text
    → IsBlock (chained image x text n)
unfolding chained
IsBlock-chained image keeps x text zero is_x bytes long = is_x
IsBlock-chained image keeps x text (suc n) is_x bytes long =
    let first = IsBlock-first text bytes (omega arith) in
    IsBlock-chained image keeps (image (xor_bytes x (take 16 text))) (drop 16 text) n (keeps _ (IsBlock-xor x (take 16 text) is_x first)) (bytes-drop 16 text bytes)
    (omega (arith, length-drop 16 text))

IsBlock-last_block : (image : List ℕ → List ℕ) (bytes : List ℕ) → AreBytes bytes → length bytes ≤ 16 → IsBlock (last_block image bytes)
unfolding last_block first_subkey second_subkey
IsBlock-last_block image bytes are most = elim (cases_lt (length bytes) 16) [
  | inl short ↦
      let test : nat_eq (length bytes) 16 ≡ false = ne_eqb (length bytes) 16 (λ e. omega arith) in
      rw test (IsBlock-xor (padded_block bytes) (double (double (image zero_block))) (IsBlock-padded_block bytes are short) (IsBlock-double _))
  | inr long ↦
      let whole : length bytes ≡ 16 = omega arith in
      rw (eq-eqb (length bytes) 16 whole)
      (IsBlock-xor bytes (double (image zero_block)) (record { sixteen = whole; bytes = are }) (IsBlock-double _))
]

IsBlock-cmac : (image : List ℕ → List ℕ) → KeepsBlocks image → (text : List ℕ) → AreBytes text → IsBlock (cmac image text)
unfolding cmac
IsBlock-cmac image keeps text bytes =
    let n : ℕ = blocks_before_last text in
    let before : 16 * n ≤ length text = omega arith in
    let last : length (drop (16 * n) text) ≤ 16 = omega (arith, length-drop (16 * n) text) in
    keeps _ (IsBlock-xor _ _ (IsBlock-chained image keeps zero_block text n IsBlock-zero_block bytes before)
    (IsBlock-last_block image (drop (16 * n) text) (bytes-drop (16 * n) text bytes) last))

-- S2V
IsBlock-summed : (image : List ℕ → List ℕ) → KeepsBlocks image → (d : List ℕ) (strings : List (List ℕ)) → IsBlock d
    → All (λ string. AreBytes string) strings → IsBlock (summed image d strings)
unfolding summed
IsBlock-summed image keeps d [] is_d bytes = is_d
IsBlock-summed image keeps d (string ∷ strings) is_d bytes =
    IsBlock-summed image keeps (xor_bytes (double d) (cmac image string)) strings
    (IsBlock-xor (double d) (cmac image string) (IsBlock-double d) (IsBlock-cmac image keeps string (All-head (λ s. AreBytes s) string strings bytes)))
    (All-tail (λ s. AreBytes s) string strings bytes)

bytes-last_text : (d string : List ℕ) → IsBlock d → AreBytes string → AreBytes (last_text d string)
unfolding last_text xorend
bytes-last_text d string is_d bytes = elim (cases_lt (length string) 16) [
  | inl short ↦
      rw (lt-ltb (length string) 16 short)
      (IsBlock-xor (double d) (padded_block string) (IsBlock-double d) (IsBlock-padded_block string bytes short)).bytes
  | inr long ↦
      let front : ℕ = length string - length d in
      rw (le-ltb (length string) 16 long)
      (bytes-append (take front string) (xor_bytes (drop front string) d) (bytes-take front string (omega arith) bytes)
      (bytes-xor (drop front string) d (bytes-drop front string bytes) is_d.bytes))
]

IsBlock-s2v : (image : List ℕ → List ℕ) → KeepsBlocks image → (strings : List (List ℕ)) (string : List ℕ)
    → All (λ string. AreBytes string) strings → AreBytes string → IsBlock (s2v image strings string)
unfolding s2v
IsBlock-s2v image keeps strings string all bytes =
    let d = IsBlock-summed image keeps (cmac image zero_block) strings (IsBlock-cmac image keeps zero_block IsBlock-zero_block.bytes) all in
    IsBlock-cmac image keeps _ (bytes-last_text _ string d bytes)

pub bytes-siv_encrypt : (mac ctr : List ℕ → List ℕ) → KeepsBlocks mac
    → ((start text : List ℕ) → IsBlock start → AreBytes text → AreBytes (ctr128 ctr start text))
    → (strings : List (List ℕ)) (plain : List ℕ) → All (λ string. AreBytes string) strings → AreBytes plain
    → AreBytes (siv_encrypt mac ctr strings plain)
unfolding siv_encrypt
bytes-siv_encrypt mac ctr mac_keeps ctr_keeps strings plain all bytes =
    let v = IsBlock-s2v mac mac_keeps strings plain all bytes in
    bytes-append _ _ v.bytes (ctr_keeps _ plain (IsBlock-first_counter _) bytes)
