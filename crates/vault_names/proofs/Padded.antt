-- Padding by PKCS#7 loses nothing.
use Rattle.std.proofs.Common.{◌≡◌, ◌≢◌, ℕ, zero, suc, ◌+◌, ◌-◌, ◌*◌, ◌/◌, ◌%◌, ◌<◌, ◌≤◌, List, ◌++◌, length, replicate, slice_get, Option, Some, None, refl, sym, ap, ◌∙◌, arith, lit<, length-append}
use Rattle.std.specs.Option.{MatchOption}
use denote.Ref.{Bor}
use Rattle.std.proofs.lemmas.List.{get_or-replicate, length-replicate, append_cancel_right}
use Rattle.std.proofs.lemmas.Option.{slice_get-get_or}
use Rattle.std.proofs.Math.Seq.{get_or-append_right}
use Rattle.base64.specs.GeneralPurpose.{IsBytes}
use Rattle.vault_names.specs.Gocryptfs.{padded_bytes}
use Rattle.vault_names.proofs.Blocks.{IsBytes-append}

pub length-padded : (bytes : List ℕ) → length (padded_bytes bytes) ≡ 16 * (length bytes / 16 + 1)
unfolding padded_bytes
length-padded bytes =
    let added : ℕ = 16 - length bytes % 16 in
    omega (arith, length-append bytes (replicate added added), length-replicate added added)

IsBytes-replicate : (n byte : ℕ) → byte < 256 → IsBytes (replicate n byte)
IsBytes-replicate zero byte small k = lit< tt
IsBytes-replicate (suc n) byte small zero = small
IsBytes-replicate (suc n) byte small (suc k) = IsBytes-replicate n byte small k

pub IsBytes-padded : (bytes : List ℕ) → IsBytes bytes → IsBytes (padded_bytes bytes)
unfolding padded_bytes
IsBytes-padded bytes are =
    let small : 16 - length bytes % 16 < 256 = omega arith in
    IsBytes-append bytes _ are (IsBytes-replicate _ _ small)

-- the last byte is the number of the bytes added
padded-last : (bytes : List ℕ) → slice_get (padded_bytes bytes) (length (padded_bytes bytes) - 1) ≡ Some (16 - length bytes % 16)
unfolding padded_bytes
padded-last bytes =
    let added : ℕ = 16 - length bytes % 16 in
    let padding : List ℕ = replicate added added in
    let whole : length (bytes ++ padding) ≡ length bytes + added = omega (arith, length-append bytes padding, length-replicate added added) in
    let past : length bytes ≤ length (bytes ++ padding) - 1 = omega arith in
    let within : length (bytes ++ padding) - 1 - length bytes < added = omega arith in
    let inside : length (bytes ++ padding) - 1 < length (bytes ++ padding) = omega arith in
    slice_get-get_or (bytes ++ padding) _ 0 inside
    ∙ ap Some (get_or-append_right bytes padding _ 0 past ∙ get_or-replicate added _ added 0 within)

pub last_of_padded : (bytes whole : List ℕ) → padded_bytes bytes ≡ whole → slice_get whole (length whole - 1) ≡ Some (16 - length bytes % 16)
last_of_padded bytes whole same = ap (λ xs. slice_get xs (length xs - 1)) (sym same) ∙ padded-last bytes

-- bytes stand in front of their padding
padded-is : (bytes : List ℕ) (added : ℕ) → 16 - length bytes % 16 ≡ added → padded_bytes bytes ≡ bytes ++ replicate added added
unfolding padded_bytes
padded-is bytes added same = ap (λ n. bytes ++ replicate n n) same

-- whole blocks that end in 1 to 16 bytes of that number are padded
padded-front : (front : List ℕ) (added : ℕ) → 0 < added → added ≤ 16 → length (front ++ replicate added added) % 16 ≡ 0
    → padded_bytes front ≡ front ++ replicate added added
padded-front front added some most whole =
    let same : 16 - length front % 16 ≡ added = omega (arith, length-append front (replicate added added), length-replicate added added) in
    padded-is front added same

-- bytes of one padding are the same
pub padded-once : (bytes other : List ℕ) → padded_bytes bytes ≡ padded_bytes other → bytes ≡ other
padded-once bytes other same =
    let a : ℕ = 16 - length bytes % 16 in
    let b : ℕ = 16 - length other % 16 in
    let last : Some a ≡ Some b = sym (last_of_padded bytes (padded_bytes other) same) ∙ last_of_padded other (padded_bytes other) refl in
    let added : a ≡ b = cc in
    let joined : bytes ++ replicate b b ≡ other ++ replicate b b = sym (padded-is bytes b added) ∙ same ∙ padded-is other b refl in
    append_cancel_right bytes other (replicate b b) joined

-- what stripping the padding that the last byte tells of gives
pub stripped-is : (whole padding : List ℕ) (last added : ℕ) (r : Option (Bor (List ℕ))) → length whole % 16 ≡ 0
    → slice_get whole (length whole - 1) ≡ Some last → added ≡ last → 0 < added → added ≤ 16 → padding ≡ replicate added last
    → MatchOption r ((front : List ℕ) → whole ≢ front ++ padding) (λ front. whole ≡ front.now ++ padding)
    → MatchOption r ((bytes : List ℕ) → padded_bytes bytes ≢ whole) (λ bytes. padded_bytes bytes.now ≡ whole)
stripped-is whole padding last added None blocks ends count some most is_padding stripped = λ bytes same.
    let told : Some last ≡ Some (16 - length bytes % 16) = sym ends ∙ last_of_padded bytes whole same in
    let number : 16 - length bytes % 16 ≡ last = cc in
    stripped bytes (sym same ∙ padded-is bytes last number ∙ ap (λ n. bytes ++ replicate n last) (sym count) ∙ ap (λ p. bytes ++ p) (sym is_padding))
stripped-is whole padding last added (Some front) blocks ends count some most is_padding stripped =
    let joined : whole ≡ front.now ++ replicate last last =
    stripped ∙ ap (λ p. front.now ++ p) is_padding ∙ ap (λ n. front.now ++ replicate n last) count in
    padded-front front.now last (omega arith) (omega arith) (ap (λ xs. length xs % 16) (sym joined) ∙ blocks) ∙ sym joined
