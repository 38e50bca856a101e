-- The cipher and the inverse cipher take blocks to blocks, and undo each other.
use Rattle.std.proofs.Common.{◌≡◌, ℕ, zero, suc, ◌+◌, ◌-◌, ◌≤◌, List, length, refl, ap, ◌∙◌, arith}
use Rattle.aes_lanes.specs.Bytes.{IsBlock, xor_bytes}
use Rattle.aes_lanes.specs.Rounds.{sub_bytes, shift_rows, mix_columns, add_round_key, inverse_sub_bytes, inverse_shift_rows, inverse_mix_columns}
use Rattle.aes_lanes.specs.Schedule.{round_key, state_of}
use Rattle.aes_lanes.specs.Cipher.{rounds, cipher, inverse_rounds, inverse_cipher, number_of_rounds, key_schedule, aes, inverse_aes}
use Rattle.aes_lanes.specs.BlockCipher.{AreInverse}
use Rattle.aes_lanes.specs.Laws.Sums.{length-xor_bytes}
use Rattle.aes_lanes.specs.Laws.Rounds.{IsBlock-add, IsBlock-mix_columns, IsBlock-inverse_mix_columns, IsBlock-shifted, IsBlock-unshifted, add-twice, inverse_mix_columns-mix_columns, mix_columns-inverse_mix_columns, unshifted-shifted, shifted-unshifted}

IsBlock-rounds : (words block : List ℕ) → IsBlock block → (n : ℕ) → IsBlock (rounds words block n)
unfolding rounds add_round_key
IsBlock-rounds words block b zero = IsBlock-add block words 0 b
IsBlock-rounds words block b (suc n) =
    IsBlock-add _ words (suc n) (IsBlock-mix_columns _ (IsBlock-shifted _ (IsBlock-rounds words block b n)))

IsBlock-inverse_rounds : (nr : ℕ) (words block : List ℕ) → IsBlock block → (n : ℕ) → IsBlock (inverse_rounds nr words block n)
unfolding inverse_rounds add_round_key
IsBlock-inverse_rounds nr words block b zero = IsBlock-add block words nr b
IsBlock-inverse_rounds nr words block b (suc n) = IsBlock-inverse_mix_columns _

-- the last round of each direction
cipher-last : (n : ℕ) (words block : List ℕ)
    → cipher (suc n) words block ≡ xor_bytes (shift_rows (sub_bytes (rounds words block n))) (round_key words (suc n))
unfolding cipher add_round_key
cipher-last n words block = let before : suc n - 1 ≡ n = omega arith in rw before refl

inverse_cipher-last : (n : ℕ) (words block : List ℕ)
    → inverse_cipher (suc n) words block
    ≡ xor_bytes (inverse_sub_bytes (inverse_shift_rows (inverse_rounds (suc n) words block n))) (round_key words 0)
unfolding inverse_cipher add_round_key
inverse_cipher-last n words block = let before : suc n - 1 ≡ n = omega arith in rw before refl

-- the state of the inverse cipher, on an image, is one that the cipher went through
inverse_rounds-cipher : (n : ℕ) (words block : List ℕ) → IsBlock block → (i j : ℕ) → i + j ≡ n
    → inverse_rounds (suc n) words (cipher (suc n) words block) i ≡ shift_rows (sub_bytes (rounds words block j))
unfolding inverse_rounds rounds add_round_key
inverse_rounds-cipher n words block b zero j e =
    let here : n ≡ j = omega arith in
    ap (λ t. xor_bytes t (round_key words (suc n))) (cipher-last n words block)
    ∙ add-twice (shift_rows (sub_bytes (rounds words block n))) words (suc n) (IsBlock-shifted _ (IsBlock-rounds words block b n))
    ∙ ap (λ m. shift_rows (sub_bytes (rounds words block m))) here
inverse_rounds-cipher n words block b (suc i) j e =
    let before = inverse_rounds-cipher n words block b i (suc j) (omega arith) in
    let key : suc n - suc i ≡ suc j = omega arith in
    let s : List ℕ = shift_rows (sub_bytes (rounds words block j)) in
    let bs = IsBlock-shifted (rounds words block j) (IsBlock-rounds words block b j) in
    ap (λ t. inverse_mix_columns (xor_bytes (inverse_sub_bytes (inverse_shift_rows t)) (round_key words (suc n - suc i)))) before
    ∙ ap (λ t. inverse_mix_columns (xor_bytes t (round_key words (suc n - suc i))))
    (unshifted-shifted (rounds words block (suc j)) (IsBlock-rounds words block b (suc j)))
    ∙ ap (λ r. inverse_mix_columns (xor_bytes (rounds words block (suc j)) (round_key words r))) key
    ∙ ap inverse_mix_columns (add-twice (mix_columns s) words (suc j) (IsBlock-mix_columns s bs))
    ∙ inverse_mix_columns-mix_columns s bs

inverse_cipher-cipher : (n : ℕ) (words block : List ℕ) → IsBlock block → inverse_cipher (suc n) words (cipher (suc n) words block) ≡ block
unfolding rounds add_round_key
inverse_cipher-cipher n words block b =
    inverse_cipher-last n words (cipher (suc n) words block)
    ∙ ap (λ t. xor_bytes (inverse_sub_bytes (inverse_shift_rows t)) (round_key words 0))
    (inverse_rounds-cipher n words block b n 0 (omega arith))
    ∙ ap (λ t. xor_bytes t (round_key words 0)) (unshifted-shifted (rounds words block 0) (IsBlock-rounds words block b 0))
    ∙ add-twice block words 0 b

-- the state of the cipher, on a preimage, is one that the inverse cipher went through
rounds-inverse_cipher : (n : ℕ) (words block : List ℕ) → IsBlock block → (i j : ℕ) → i + j ≡ n
    → rounds words (inverse_cipher (suc n) words block) i ≡ inverse_sub_bytes (inverse_shift_rows (inverse_rounds (suc n) words block j))
unfolding inverse_rounds rounds add_round_key
rounds-inverse_cipher n words block b zero j e =
    let here : n ≡ j = omega arith in
    ap (λ t. xor_bytes t (round_key words 0)) (inverse_cipher-last n words block)
    ∙ add-twice (inverse_sub_bytes (inverse_shift_rows (inverse_rounds (suc n) words block n))) words 0
    (IsBlock-unshifted _ (IsBlock-inverse_rounds (suc n) words block b n))
    ∙ ap (λ m. inverse_sub_bytes (inverse_shift_rows (inverse_rounds (suc n) words block m))) here
rounds-inverse_cipher n words block b (suc i) j e =
    let before = rounds-inverse_cipher n words block b i (suc j) (omega arith) in
    let key : suc n - suc j ≡ suc i = omega arith in
    let s : List ℕ = inverse_sub_bytes (inverse_shift_rows (inverse_rounds (suc n) words block j)) in
    let bs = IsBlock-unshifted (inverse_rounds (suc n) words block j) (IsBlock-inverse_rounds (suc n) words block b j) in
    ap (λ t. xor_bytes (mix_columns (shift_rows (sub_bytes t))) (round_key words (suc i))) before
    ∙ ap (λ t. xor_bytes (mix_columns t) (round_key words (suc i)))
    (shifted-unshifted (inverse_rounds (suc n) words block (suc j)) (IsBlock-inverse_rounds (suc n) words block b (suc j)))
    ∙ ap (λ t. xor_bytes t (round_key words (suc i)))
    (mix_columns-inverse_mix_columns (xor_bytes s (round_key words (suc n - suc j))) (IsBlock-add s words (suc n - suc j) bs))
    ∙ ap (λ r. xor_bytes (xor_bytes s (round_key words r)) (round_key words (suc i))) key
    ∙ add-twice s words (suc i) bs

cipher-inverse_cipher : (n : ℕ) (words block : List ℕ) → IsBlock block → cipher (suc n) words (inverse_cipher (suc n) words block) ≡ block
unfolding inverse_rounds add_round_key
cipher-inverse_cipher n words block b =
    cipher-last n words (inverse_cipher (suc n) words block)
    ∙ ap (λ t. xor_bytes (shift_rows (sub_bytes t)) (round_key words (suc n)))
    (rounds-inverse_cipher n words block b n 0 (omega arith))
    ∙ ap (λ t. xor_bytes t (round_key words (suc n)))
    (shifted-unshifted (inverse_rounds (suc n) words block 0) (IsBlock-inverse_rounds (suc n) words block b 0))
    ∙ add-twice block words (suc n) b

-- a block stays a block
IsBlock-cipher : (nr : ℕ) (words block : List ℕ) → IsBlock block → IsBlock (cipher nr words block)
unfolding cipher add_round_key
IsBlock-cipher nr words block b = IsBlock-add _ words nr (IsBlock-shifted _ (IsBlock-rounds words block b (nr - 1)))

IsBlock-inverse_cipher : (nr : ℕ) (words block : List ℕ) → IsBlock block → IsBlock (inverse_cipher nr words block)
unfolding inverse_cipher add_round_key
IsBlock-inverse_cipher nr words block b =
    IsBlock-add _ words 0 (IsBlock-unshifted _ (IsBlock-inverse_rounds nr words block b (nr - 1)))

pub aes-undone : (key_words : ℕ) (key : List ℕ) → AreInverse (aes key_words key) (inverse_aes key_words key)
unfolding aes inverse_aes
aes-undone key_words key =
    let words : List ℕ = key_schedule key_words key in
    let rounds : number_of_rounds key_words ≡ suc (key_words + 5) = omega arith in
    record {
      block = IsBlock-cipher (number_of_rounds key_words) words;
      block_back = IsBlock-inverse_cipher (number_of_rounds key_words) words;
      back = λ block b. rw rounds (inverse_cipher-cipher (key_words + 5) words block b);
      forth = λ block b. rw rounds (cipher-inverse_cipher (key_words + 5) words block b);
    }

pub IsBlock-aes : (key_words : ℕ) (key block : List ℕ) → IsBlock block → IsBlock (aes key_words key block)
IsBlock-aes key_words key = (aes-undone key_words key).block

pub IsBlock-inverse_aes : (key_words : ℕ) (key block : List ℕ) → IsBlock block → IsBlock (inverse_aes key_words key block)
IsBlock-inverse_aes key_words key = (aes-undone key_words key).block_back

-- an image has sixteen bytes, whatever it is of
length-shift_rows : (s : List ℕ) → length (shift_rows s) ≡ 16
unfolding shift_rows
length-shift_rows s = refl

length-round_key : (words : List ℕ) (r : ℕ) → length (round_key words r) ≡ 16
unfolding round_key state_of
length-round_key words r = refl

pub length-cipher : (nr : ℕ) (words block : List ℕ) → length (cipher nr words block) ≡ 16
unfolding cipher add_round_key
length-cipher nr words block =
    let s : List ℕ = sub_bytes (rounds words block (nr - 1)) in
    let long : length (shift_rows s) ≤ length (round_key words nr) = omega (arith, length-shift_rows s, length-round_key words nr) in
    length-xor_bytes (shift_rows s) (round_key words nr) long ∙ length-shift_rows s

pub length-aes : (key_words : ℕ) (key block : List ℕ) → length (aes key_words key block) ≡ 16
unfolding aes
length-aes key_words key block = length-cipher (number_of_rounds key_words) (key_schedule key_words key) block
