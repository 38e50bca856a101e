-- The last string of S2V.
use Rattle.std.proofs.Common.{◌≡◌, ℕ, ◌+◌, ◌-◌, ◌<◌, ◌≤◌, List, ◌++◌, length, take, drop, refl, ◌∙◌, arith, length-append}
use Rattle.std.proofs.lemmas.List.{length-drop, take-append-le, drop-append-le, length-take-le, drop-drop, drop-take, take-take}
use Rattle.std.proofs.lemmas.Bool.{lt-ltb, le-ltb}
use Rattle.aes_lanes.specs.Bytes.{xor_bytes}
use Rattle.aes_lanes.specs.Laws.Sums.{length-xor_bytes}
use Rattle.siv_mode.specs.Blocks.{double, padded_block}
use Rattle.siv_mode.specs.Private.{cmac_from}
use Rattle.siv_mode.specs.S2v.{xorend, last_text}
use Rattle.siv_mode.proofs.Macs.{cmac_from-more}

pub last_text-short : (d string : List ℕ) → length string < 16 → xor_bytes (double d) (padded_block string) ≡ last_text d string
unfolding last_text
last_text-short d string short = rw (lt-ltb (length string) 16 short) refl

pub last_text-long : (d string : List ℕ) → 16 ≤ length string → xorend string d ≡ last_text d string
unfolding last_text
last_text-long d string long = rw (le-ltb (length string) 16 long) refl

pub xorend-parts : (string d : List ℕ) (n : ℕ) → length d ≡ 16 → n ≡ length string - 16 → take n string ++ xor_bytes (drop n string) d ≡ xorend string d
unfolding xorend
xorend-parts string d n sixteen e = rw (sixteen, e) refl

length-xorend : (string d : List ℕ) → length d ≡ 16 → 16 ≤ length string → length (xorend string d) ≡ length string
unfolding xorend
length-xorend string d sixteen long =
    let n : ℕ = length string - length d in
    let back : length (drop n string) ≤ length d = omega (arith, length-drop n string) in
    omega (arith, length-append (take n string) (xor_bytes (drop n string) d), length-take-le n string (omega arith), length-xor_bytes (drop n string) d back, length-drop n string)

-- the first block of a string of two or more is left as it is
pub take-xorend : (string d : List ℕ) → length d ≡ 16 → 32 ≤ length string → take 16 (xorend string d) ≡ take 16 string
unfolding xorend
take-xorend string d sixteen long =
    let n : ℕ = length string - length d in
    let within : 16 ≤ length (take n string) = omega (arith, length-take-le n string (omega arith)) in
    take-append-le 16 (take n string) (xor_bytes (drop n string) d) within ∙ take-take 16 n string (omega arith)

pub drop-xorend : (string d : List ℕ) → length d ≡ 16 → 32 ≤ length string → drop 16 (xorend string d) ≡ xorend (drop 16 string) d
unfolding xorend
drop-xorend string d sixteen long =
    let n : ℕ = length string - length d in
    let m : ℕ = length (drop 16 string) - length d in
    let left : n ≡ 16 + m = omega (arith, length-drop 16 string) in
    let within : 16 ≤ length (take n string) = omega (arith, length-take-le n string (omega arith)) in
    drop-append-le 16 (take n string) (xor_bytes (drop n string) d) within
    ∙ rw (left, drop-take 16 m string, ← drop-drop m 16 string) refl

-- CMAC of a string with a block added to its end goes on with the string's first block
pub cmac_from-xorend : (image : List ℕ → List ℕ) (x string d : List ℕ) → length d ≡ 16 → 32 ≤ length string
    → cmac_from image x (xorend string d) ≡ cmac_from image (image (xor_bytes x (take 16 string))) (xorend (drop 16 string) d)
cmac_from-xorend image x string d sixteen long =
    let more : 16 < length (xorend string d) = omega (arith, length-xorend string d sixteen (omega arith)) in
    cmac_from-more image x (xorend string d) more
    ∙ rw (take-xorend string d sixteen long, drop-xorend string d sixteen long) refl
