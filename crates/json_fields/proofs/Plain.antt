-- Base64 stands in a JSON string as it is.
use Rattle.std.proofs.Common.{◌≡◌, ℕ, zero, suc, ◌+◌, ◌*◌, ◌/◌, ◌%◌, ◌<◌, List, [], ◌∷◌, ◌++◌, Bool, true, replicate, length, slice_index, refl, ap, ◌∙◌, arith}
use Rattle.std.specs.Str.{bytes_eq}
use Rattle.std.proofs.lemmas.Slice.Eq.{bytes_eq-Decides}
use Rattle.json.specs.Print.{escape, escape_byte}
use Rattle.base64.specs.Rfc4648.{encode_symbols, padding_len}
use Rattle.base64.specs.Tables.{all_below}
use Rattle.base64.proofs.Tables.{all_below_at}
use Rattle.base64.specs.Engines.{standard}
use Rattle.base64.specs.GeneralPurpose.{engine_symbols, encode_of, IsBytes}

-- the symbol of a value of six bits
abbrev symbol : ℕ → ℕ
symbol v = slice_index (engine_symbols standard) v

-- whether it stands for itself in a string
abbrev is_plain : ℕ → Bool
is_plain v = bytes_eq (escape_byte (symbol v)) (symbol v ∷ [])

symbols_plain : all_below is_plain 64 ≡ true
unfolding escape_byte
symbols_plain = refl

escape-symbol : (v : ℕ) (xs : List ℕ) → v < 64 → escape (symbol v ∷ xs) ≡ symbol v ∷ escape xs
escape-symbol v xs small = ap (λ front. front ++ escape xs) ((bytes_eq-Decides (escape_byte (symbol v)) (symbol v ∷ [])).0 (all_below_at is_plain 64 v symbols_plain small))

escape-padding : (n : ℕ) → escape (replicate n 61) ≡ replicate n 61
unfolding escape_byte
escape-padding zero = refl
escape-padding (suc n) = ap (λ xs. 61 ∷ xs) (escape-padding n)

-- symbols, and what follows them as it is
escape-symbols : (m after : List ℕ) → IsBytes m → escape after ≡ after → escape (encode_symbols (engine_symbols standard) m ++ after) ≡ encode_symbols (engine_symbols standard) m ++ after
unfolding encode_symbols
escape-symbols [] after bytes rest = rest
escape-symbols (a ∷ []) after bytes rest =
    let first : a < 256 = bytes 0 in
    let v0 : ℕ = a / 4 in
    let v1 : ℕ = a % 4 * 16 in
    escape-symbol v0 (symbol v1 ∷ after) (omega arith)
    ∙ ap (λ xs. symbol v0 ∷ xs) (escape-symbol v1 after (omega arith) ∙ ap (λ xs. symbol v1 ∷ xs) rest)
escape-symbols (a ∷ b ∷ []) after bytes rest =
    let first : a < 256 = bytes 0 in
    let second : b < 256 = bytes 1 in
    let v0 : ℕ = a / 4 in
    let v1 : ℕ = a % 4 * 16 + b / 16 in
    let v2 : ℕ = b % 16 * 4 in
    escape-symbol v0 (symbol v1 ∷ symbol v2 ∷ after) (omega arith)
    ∙ ap (λ xs. symbol v0 ∷ xs)
    (escape-symbol v1 (symbol v2 ∷ after) (omega arith)
    ∙ ap (λ xs. symbol v1 ∷ xs) (escape-symbol v2 after (omega arith) ∙ ap (λ xs. symbol v2 ∷ xs) rest))
escape-symbols (a ∷ b ∷ c ∷ m) after bytes rest =
    let first : a < 256 = bytes 0 in
    let second : b < 256 = bytes 1 in
    let third : c < 256 = bytes 2 in
    let v0 : ℕ = a / 4 in
    let v1 : ℕ = a % 4 * 16 + b / 16 in
    let v2 : ℕ = b % 16 * 4 + c / 64 in
    let v3 : ℕ = c % 64 in
    let more : List ℕ = encode_symbols (engine_symbols standard) m ++ after in
    escape-symbol v0 (symbol v1 ∷ symbol v2 ∷ symbol v3 ∷ more) (omega arith)
    ∙ ap (λ xs. symbol v0 ∷ xs)
    (escape-symbol v1 (symbol v2 ∷ symbol v3 ∷ more) (omega arith)
    ∙ ap (λ xs. symbol v1 ∷ xs)
    (escape-symbol v2 (symbol v3 ∷ more) (omega arith)
    ∙ ap (λ xs. symbol v2 ∷ xs)
    (escape-symbol v3 more (omega arith) ∙ ap (λ xs. symbol v3 ∷ xs) (escape-symbols m after (λ i. bytes (suc (suc (suc i)))) rest))))

pub escape-base64 : (m : List ℕ) → IsBytes m → escape (encode_of standard m) ≡ encode_of standard m
escape-base64 m bytes = escape-symbols m (replicate (padding_len (length m)) 61) bytes (escape-padding (padding_len (length m)))
