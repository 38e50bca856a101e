-- Steps one after the other, and whole wrappings.
use Rattle.std.proofs.Common.{◌≡◌, ℕ, zero, suc, ◌*◌, ◌/◌, ◌↔◌, List, ◌++◌, length, take, drop, refl, sym, ap, ◌∙◌, arith, lit<, length-append}
use Rattle.std.proofs.lemmas.List.{take_at, drop_at, take-append-drop, length-drop}
use Rattle.aes_lanes.specs.Cipher.{aes256, inverse_aes256}
use Rattle.key_wrap.specs.Wrap.{step, steps, wrapped, initial_value, IsKey, Unwraps, UnwrapsToOneKey}
use Rattle.key_wrap.specs.Private.{IsState}
use Rattle.aes_lanes.proofs.Bytes.{bytes-append, bytes-replicate}
use Rattle.aes_lanes.specs.BlockCipher.{AreInverse}
use Rattle.aes_lanes.specs.Laws.Cipher.{aes-undone}
use Rattle.key_wrap.proofs.Steps.{IsState-step, step_back, step_back-step}

pub IsState-steps : (image preimage : List ℕ → List ℕ) (n : ℕ) (s : List ℕ) → AreInverse image preimage → IsState s → IsState (steps image n s)
unfolding steps
IsState-steps image preimage zero s cipher state = state
IsState-steps image preimage (suc n) s cipher state =
    IsState-step image preimage (suc n) (steps image n s) cipher (IsState-steps image preimage n s cipher state)

-- steps lose nothing
pub steps-once : (image preimage : List ℕ → List ℕ) (n : ℕ) (s other : List ℕ) → AreInverse image preimage → IsState s → IsState other
    → steps image n s ≡ steps image n other → s ≡ other
unfolding steps
steps-once image preimage zero s other cipher first second same = same
steps-once image preimage (suc n) s other cipher first second same =
    let before = IsState-steps image preimage n s cipher first in
    let before_other = IsState-steps image preimage n other cipher second in
    steps-once image preimage n s other cipher first second
    (sym (step_back-step image preimage (suc n) _ cipher before) ∙ ap (step_back preimage (suc n)) same ∙ step_back-step image preimage (suc n) _ cipher before_other)

-- the state that a key starts from
pub IsState-start : (key : List ℕ) → IsKey key → IsState (initial_value ++ key)
IsState-start key is_key = record {
  forty = omega (arith, length-append initial_value key, is_key.thirty_two);
  bytes = bytes-append initial_value key (bytes-replicate 8 0xa6 (lit< tt)) is_key.bytes;
}

-- a key of 32 bytes takes 24 steps
pub wrapped-steps : (image : List ℕ → List ℕ) (key : List ℕ) → length key ≡ 32 → wrapped image key ≡ steps image 24 (initial_value ++ key)
unfolding wrapped
wrapped-steps image key h = ap (λ n. steps image (6 * (n / 8)) (initial_value ++ key)) h

pub IsState-wrapped : (kek key : List ℕ) → IsKey key → IsState (wrapped (aes256 kek) key)
IsState-wrapped kek key is_key =
    rw (wrapped-steps (aes256 kek) key is_key.thirty_two)
    (IsState-steps (aes256 kek) (inverse_aes256 kek) 24 (initial_value ++ key) (aes-undone 8 kek) (IsState-start key is_key))

pub unwraps_once : UnwrapsToOneKey
unwraps_once kek bytes key other one two first second =
    let cipher = aes-undone 8 kek in
    let image : List ℕ → List ℕ = aes256 kek in
    let same = steps-once image _ 24 (initial_value ++ key) (initial_value ++ other) cipher (IsState-start key one) (IsState-start other two)
    (sym (wrapped-steps image key one.thirty_two) ∙ first ∙ sym second ∙ wrapped-steps image other two.thirty_two) in
    sym (drop_at initial_value key 8 refl) ∙ ap (drop 8) same ∙ drop_at initial_value other 8 refl

-- one more step is undone
pub steps-back : (image preimage : List ℕ → List ℕ) (n k : ℕ) (whole state result : List ℕ) → AreInverse image preimage → n ≡ suc k
    → ((b : List ℕ) → IsState b → (steps image 24 b ≡ whole) ↔ (steps image n b ≡ state))
    → ((b : List ℕ) → IsState b → (step image n b ≡ state) ↔ (b ≡ result))
    → (b : List ℕ) → IsState b → (steps image 24 b ≡ whole) ↔ (steps image k b ≡ result)
unfolding steps
steps-back image preimage n k whole state result cipher e outer inner b is_state =
    let last : steps image n b ≡ step image n (steps image k b) = rw e refl in
    let later = outer b is_state in
    let here = inner (steps image k b) (IsState-steps image preimage k b cipher is_state) in
    (λ all. here.0 (sym last ∙ later.0 all), λ same. later.1 (last ∙ here.1 same))

-- all steps are undone
pub steps-undone : (image : List ℕ → List ℕ) (n : ℕ) (whole state : List ℕ) → n ≡ 0
    → ((b : List ℕ) → IsState b → (steps image 24 b ≡ whole) ↔ (steps image n b ≡ state))
    → (b : List ℕ) → IsState b → (steps image 24 b ≡ whole) ↔ (b ≡ state)
unfolding steps
steps-undone image n whole state none outer = rw none at outer

-- a key that wraps to some bytes starts with the initial value where the steps are undone
pub value-unwrapped : (image : List ℕ → List ℕ) (whole state key : List ℕ)
    → ((b : List ℕ) → IsState b → (steps image 24 b ≡ whole) ↔ (b ≡ state))
    → IsKey key → Unwraps image whole key → take 8 state ≡ initial_value
value-unwrapped image whole state key undone is_key unwraps =
    let start : initial_value ++ key ≡ state =
    (undone (initial_value ++ key) (IsState-start key is_key)).0 (sym (wrapped-steps image key is_key.thirty_two) ∙ unwraps) in
    sym (ap (take 8) start) ∙ take_at initial_value key 8 refl

-- where the undone state starts with the initial value, the rest is a key that wraps to the bytes
pub key-unwrapped : (image : List ℕ → List ℕ) (whole state : List ℕ)
    → ((b : List ℕ) → IsState b → (steps image 24 b ≡ whole) ↔ (b ≡ state))
    → IsState state → take 8 state ≡ initial_value → Unwraps image whole (drop 8 state)
key-unwrapped image whole state undone is_state value =
    let start : initial_value ++ drop 8 state ≡ state = ap (λ v. v ++ drop 8 state) (sym value) ∙ take-append-drop 8 state in
    let size : length (drop 8 state) ≡ 32 = omega (arith, length-drop 8 state, is_state.forty) in
    wrapped-steps image (drop 8 state) size ∙ ap (steps image 24) start ∙ (undone state is_state).1 refl
