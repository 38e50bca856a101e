-- Sealing, and the texts that seal to given bytes.
use Rattle.std.proofs.Common.{◌≡◌, ℕ, ◌+◌, List, length, take, drop, sym, ap, ◌∙◌, arith, length-append}
use Rattle.std.proofs.lemmas.List.{take_at, drop_at, take-append-drop}
use Rattle.aes_lanes.specs.Counter.{ctr128}
use Rattle.siv_mode.specs.S2v.{s2v}
use Rattle.siv_mode.specs.Cmac.{cmac}
use Rattle.siv_mode.specs.Siv.{first_counter, siv_encrypt, Opens, OpensToOneText}

-- counter mode undoes itself, and keeps a text's length
abbrev pub UndoesItself : (List ℕ → List ℕ) → Type 0
UndoesItself ctr = (start text : List ℕ) → ctr128 ctr start (ctr128 ctr start text) ≡ text

abbrev pub KeepsLength : (List ℕ → List ℕ) → Type 0
KeepsLength ctr = (start text : List ℕ) → length (ctr128 ctr start text) ≡ length text

length-s2v : (image : List ℕ → List ℕ) → ((b : List ℕ) → length (image b) ≡ 16) → (strings : List (List ℕ)) (string : List ℕ) → length (s2v image strings string) ≡ 16
unfolding s2v cmac
length-s2v image sixteen strings string = sixteen _

-- where a text seals to some bytes, the bytes after the vector are the text's, and the vector is the S2V of the text that they give
pub opened-is : (mac ctr : List ℕ → List ℕ) → ((b : List ℕ) → length (mac b) ≡ 16) → UndoesItself ctr
    → (strings : List (List ℕ)) (bytes plain : List ℕ) → Opens mac ctr strings bytes plain
    → ctr128 ctr (first_counter (take 16 bytes)) (drop 16 bytes) ≡ plain
unfolding siv_encrypt
opened-is mac ctr mac_sixteen twice strings bytes plain opens =
    let v : List ℕ = s2v mac strings plain in
    let start : List ℕ = first_counter v in
    let sixteen : length v ≡ 16 = length-s2v mac mac_sixteen strings plain in
    let front : take 16 bytes ≡ v = sym (ap (take 16) opens) ∙ take_at v (ctr128 ctr start plain) 16 sixteen in
    let back : drop 16 bytes ≡ ctr128 ctr start plain = sym (ap (drop 16) opens) ∙ drop_at v (ctr128 ctr start plain) 16 sixteen in
    rw (front, back) (twice start plain)

pub vector-is : (mac ctr : List ℕ → List ℕ) → ((b : List ℕ) → length (mac b) ≡ 16)
    → (strings : List (List ℕ)) (bytes plain : List ℕ) → Opens mac ctr strings bytes plain → take 16 bytes ≡ s2v mac strings plain
unfolding siv_encrypt
vector-is mac ctr mac_sixteen strings bytes plain opens =
    let v : List ℕ = s2v mac strings plain in
    sym (ap (take 16) opens) ∙ take_at v (ctr128 ctr (first_counter v) plain) 16 (length-s2v mac mac_sixteen strings plain)

-- the text that the key stream leaves opens the bytes, where the vector is its S2V
pub opens-where : (mac ctr : List ℕ → List ℕ) → UndoesItself ctr
    → (strings : List (List ℕ)) (bytes plain : List ℕ) → plain ≡ ctr128 ctr (first_counter (take 16 bytes)) (drop 16 bytes)
    → s2v mac strings plain ≡ take 16 bytes → Opens mac ctr strings bytes plain
unfolding siv_encrypt
opens-where mac ctr twice strings bytes plain e right =
    let start : List ℕ = first_counter (take 16 bytes) in
    let back : ctr128 ctr start plain ≡ drop 16 bytes = ap (ctr128 ctr start) e ∙ twice start (drop 16 bytes) in
    rw (right, back) (take-append-drop 16 bytes)

pub opens_once : (mac ctr : List ℕ → List ℕ) → ((b : List ℕ) → length (mac b) ≡ 16) → UndoesItself ctr → OpensToOneText mac ctr
opens_once mac ctr mac_sixteen twice strings bytes plain other one two =
    sym (opened-is mac ctr mac_sixteen twice strings bytes plain one)
    ∙ opened-is mac ctr mac_sixteen twice strings bytes other two

-- a sealed text is longer by its vector
pub length-siv_encrypt : (mac ctr : List ℕ → List ℕ) → ((b : List ℕ) → length (mac b) ≡ 16) → KeepsLength ctr
    → (strings : List (List ℕ)) (plain : List ℕ) → length (siv_encrypt mac ctr strings plain) ≡ 16 + length plain
unfolding siv_encrypt
length-siv_encrypt mac ctr mac_sixteen as_long strings plain =
    let v : List ℕ = s2v mac strings plain in
    let text : List ℕ = ctr128 ctr (first_counter v) plain in
    omega (arith, length-append v text, length-s2v mac mac_sixteen strings plain, as_long (first_counter v) plain)
