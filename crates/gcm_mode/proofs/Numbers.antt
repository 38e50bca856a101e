-- Numbers that bytes make, the first of them highest.
use Rattle.std.proofs.Common.{◌≡◌, ℕ, zero, suc, ◌+◌, ◌-◌, ◌*◌, ◌/◌, ◌%◌, ◌^◌, ◌<◌, ◌≤◌, List, bit_xor, get_or, refl, sym, ap, ap₂, ◌∙◌, arith}
use lib.Bits.{xor_block, xor_comm, xor_shifted}
use Rattle.std.proofs.lemmas.Nat.{pow-add, shr-shr}
use Rattle.gcm_mode.specs.Hash.{block_number}
use Rattle.gcm_mode.specs.Pairs.{number_of, byte_of}

pub number_of-same : (f g : ℕ → ℕ) (n : ℕ) → ((p : ℕ) → p < n → f p ≡ g p) → number_of f n ≡ number_of g n
unfolding number_of
number_of-same f g zero h = refl
number_of-same f g (suc n) h = ap₂ (λ (a b : ℕ). a * 256 + b) (number_of-same f g n (λ p l. h p (omega arith))) (h n (omega arith))

-- eight more bits
pub bits_more : (n : ℕ) → 2 ^ (8 * suc n) ≡ 2 ^ (8 * n) * 256
bits_more n =
    let next : 8 * suc n ≡ 8 * n + 8 = omega arith in
    ap (λ (k : ℕ). 2 ^ k) next ∙ pow-add 2 (8 * n) 8

pub number_of-lt : (f : ℕ → ℕ) (n : ℕ) → ((p : ℕ) → p < n → f p < 256) → number_of f n < 2 ^ (8 * n)
unfolding number_of
number_of-lt f zero h = omega arith
number_of-lt f (suc n) h =
    let more = bits_more n in
    let before = number_of-lt f n (λ p l. h p (omega arith)) in
    let byte : f n < 256 = h n (omega arith) in
    omega (arith, more, before, byte)

pub number_of-xor : (f g : ℕ → ℕ) (n : ℕ) → ((p : ℕ) → p < n → f p < 256) → ((p : ℕ) → p < n → g p < 256)
    → number_of (λ p. bit_xor (f p) (g p)) n ≡ bit_xor (number_of f n) (number_of g n)
unfolding number_of
number_of-xor f g zero hf hg = refl
number_of-xor f g (suc n) hf hg =
    ap (λ (a : ℕ). a * 256 + bit_xor (f n) (g n)) (number_of-xor f g n (λ p l. hf p (omega arith)) (λ p l. hg p (omega arith)))
    ∙ sym (xor_block 8 (number_of f n) (number_of g n) (f n) (g n) (hf n (omega arith)) (hg n (omega arith)))

-- bytes behind one more
pub number_of-behind : (f g : ℕ → ℕ) (n : ℕ) → ((p : ℕ) → p < n → f (p + 1) ≡ g p) → number_of f (suc n) ≡ f 0 * 2 ^ (8 * n) + number_of g n
unfolding number_of
number_of-behind f g zero h = omega arith
number_of-behind f g (suc n) h =
    let before = number_of-behind f g n (λ p l. h p (omega arith)) in
    let here : f (n + 1) ≡ g n = h n (omega arith) in
    let at : f (suc n) ≡ g n = ap f (omega arith) ∙ here in
    let place : f 0 * 2 ^ (8 * suc n) ≡ f 0 * 2 ^ (8 * n) * 256 = ap (λ (k : ℕ). f 0 * k) (bits_more n) ∙ omega arith in
    omega (arith, before, at, place)

one_less : (f : ℕ → ℕ) (m : ℕ) → f m < 256 → number_of f (suc m) / 2 ^ 8 ≡ number_of f m
unfolding number_of
one_less f m byte = omega arith

last_byte : (f : ℕ → ℕ) (m : ℕ) → f m < 256 → number_of f (suc m) % 256 ≡ f m
unfolding number_of
last_byte f m byte = omega arith

-- the bytes at the front
pub number_of-front : (f : ℕ → ℕ) (n k : ℕ) → ((p : ℕ) → p < n + k → f p < 256) → number_of f (n + k) / 2 ^ (8 * k) ≡ number_of f n
number_of-front f n zero h =
    let same : n + zero ≡ n = omega arith in
    let whole : number_of f n / 1 ≡ number_of f n = omega arith in
    ap (λ (m : ℕ). number_of f m / 1) same ∙ whole
number_of-front f n (suc k) h =
    let longer : n + suc k ≡ suc (n + k) = omega arith in
    let parts : 8 + 8 * k ≡ 8 * suc k = omega arith in
    ap (λ (j : ℕ). number_of f (n + suc k) / 2 ^ j) (sym parts) ∙ sym (shr-shr (number_of f (n + suc k)) 8 (8 * k))
    ∙ ap (λ (m : ℕ). number_of f m / 2 ^ 8 / 2 ^ (8 * k)) longer ∙ ap (λ (m : ℕ). m / 2 ^ (8 * k)) (one_less f (n + k) (h (n + k) (omega arith)))
    ∙ number_of-front f n k (λ p l. h p (omega arith))

-- a byte of such a number
pub byte_of-number : (f : ℕ → ℕ) (b : ℕ) → b < 16 → ((p : ℕ) → p < 16 → f p < 256) → byte_of b (number_of f 16) ≡ f b
unfolding byte_of
byte_of-number f b l h =
    let whole : suc b + (15 - b) ≡ 16 = omega arith in
    ap (λ (m : ℕ). m % 256) (ap (λ (m : ℕ). number_of f m / 2 ^ (8 * (15 - b))) (sym whole) ∙ number_of-front f (suc b) (15 - b) (λ p lt. h p (omega arith)))
    ∙ last_byte f b (h b l)

-- a number is made of its bytes
pub number_of-bytes : (x n : ℕ) → n ≤ 16 → x < 2 ^ 128 → number_of (λ b. byte_of b x) n ≡ x / 2 ^ (8 * (16 - n))
unfolding number_of byte_of
number_of-bytes x zero le fits = omega arith
number_of-bytes x (suc n) le fits =
    let before = number_of-bytes x n (omega arith) fits in
    let places : 8 * (15 - n) + 8 ≡ 8 * (16 - n) = omega arith in
    let rest : 15 - n ≡ 16 - suc n = omega arith in
    let split : x / 2 ^ (8 * (16 - n)) ≡ x / 2 ^ (8 * (15 - n)) / 256 = ap (λ (k : ℕ). x / 2 ^ k) (sym places) ∙ sym (shr-shr x (8 * (15 - n)) 8) in
    ap (λ (a : ℕ). a * 256 + x / 2 ^ (8 * (15 - n)) % 256) (before ∙ split)
    ∙ parts (x / 2 ^ (8 * (15 - n))) ∙ ap (λ (k : ℕ). x / 2 ^ (8 * k)) rest
  where
    parts : (m : ℕ) → m / 256 * 256 + m % 256 ≡ m
    parts m = omega arith

-- a block is the number of its bytes
pub block_number-is : (xs : List ℕ) → block_number xs ≡ number_of (λ p. get_or xs p 0) 16
unfolding block_number number_of
block_number-is xs = omega arith

-- the carry of a shift to the right, from byte to byte
carried : (k a before c : ℕ) → 0 < k → k < 8 → a % 256 ≡ before % 256 → c < 256
    → (a * 256 + c) / 2 ^ k ≡ a / 2 ^ k * 256 + (before % 2 ^ k * 2 ^ (8 - k) + c / 2 ^ k)
carried zero a before c some few same byte = absurd (omega arith)
carried (suc zero) a before c some few same byte = omega arith
carried (suc (suc zero)) a before c some few same byte = omega arith
carried (suc (suc (suc zero))) a before c some few same byte = omega arith
carried (suc (suc (suc (suc zero)))) a before c some few same byte = omega arith
carried (suc (suc (suc (suc (suc zero))))) a before c some few same byte = omega arith
carried (suc (suc (suc (suc (suc (suc zero)))))) a before c some few same byte = omega arith
carried (suc (suc (suc (suc (suc (suc (suc zero))))))) a before c some few same byte = omega arith
carried (suc (suc (suc (suc (suc (suc (suc (suc k)))))))) a before c some few same byte = absurd (omega arith)

moved_bits : (k before c : ℕ) → 0 < k → k < 8 → c < 256 → (before * 2 ^ (8 - k) % 256 ≡ before % 2 ^ k * 2 ^ (8 - k)) × (c / 2 ^ k < 2 ^ (8 - k))
moved_bits zero before c some few byte = absurd (omega arith)
moved_bits (suc zero) before c some few byte = (omega arith, omega arith)
moved_bits (suc (suc zero)) before c some few byte = (omega arith, omega arith)
moved_bits (suc (suc (suc zero))) before c some few byte = (omega arith, omega arith)
moved_bits (suc (suc (suc (suc zero)))) before c some few byte = (omega arith, omega arith)
moved_bits (suc (suc (suc (suc (suc zero))))) before c some few byte = (omega arith, omega arith)
moved_bits (suc (suc (suc (suc (suc (suc zero)))))) before c some few byte = (omega arith, omega arith)
moved_bits (suc (suc (suc (suc (suc (suc (suc zero))))))) before c some few byte = (omega arith, omega arith)
moved_bits (suc (suc (suc (suc (suc (suc (suc (suc k)))))))) before c some few byte = absurd (omega arith)

-- the last byte of what a byte comes behind
byte_before : (f before : ℕ → ℕ) (n : ℕ) → (0 < suc n → before 0 ≡ 0) → ((p : ℕ) → p + 1 < suc n → before (p + 1) ≡ f p) → number_of f n % 256 ≡ before n % 256
unfolding number_of
byte_before f before zero first next = ap (λ (m : ℕ). m % 256) (sym (first (omega arith)))
byte_before f before (suc m) first next =
    let e : before (m + 1) ≡ f m = next m (omega arith) in
    let at : before (suc m) ≡ f m = ap before (omega arith) ∙ e in
    omega (arith, at)

zero_over : (k : ℕ) → 0 / 2 ^ k ≡ 0
zero_over k = omega arith

-- bytes that are shifted to the right, with the bits that come from the byte before
pub number_of-shifted : (k : ℕ) (f before : ℕ → ℕ) (n : ℕ) → 0 < k → k < 8 → ((p : ℕ) → p < n → f p < 256)
    → (0 < n → before 0 ≡ 0) → ((p : ℕ) → p + 1 < n → before (p + 1) ≡ f p)
    → number_of (λ p. bit_xor (f p / 2 ^ k) (before p * 2 ^ (8 - k) % 256)) n ≡ number_of f n / 2 ^ k
unfolding number_of
number_of-shifted k f before zero some few bytes first next = sym (zero_over k)
number_of-shifted k f before (suc n) some few bytes first next =
    let byte : f n < 256 = bytes n (omega arith) in
    let parts = moved_bits k (before n) (f n) some few byte in
    let sum : bit_xor (f n / 2 ^ k) (before n * 2 ^ (8 - k) % 256) ≡ before n % 2 ^ k * 2 ^ (8 - k) + f n / 2 ^ k =
    ap (bit_xor (f n / 2 ^ k)) parts.0 ∙ xor_comm (f n / 2 ^ k) (before n % 2 ^ k * 2 ^ (8 - k)) ∙ xor_shifted (before n % 2 ^ k) (8 - k) (f n / 2 ^ k) parts.1 in
    ap₂ (λ (a b : ℕ). a * 256 + b) (number_of-shifted k f before n some few (λ p l. bytes p (omega arith)) (λ l. first (omega arith)) (λ p l. next p (omega arith))) sum
    ∙ sym (carried k (number_of f n) (before n) (f n) some few (byte_before f before n first next) byte)
