-- The S-box by shuffles, lane by lane.
use Rattle.std.proofs.Common.{◌≡◌, ℕ, ◌+◌, ◌*◌, ◌/◌, ◌^◌, ◌<◌, ◌||◌, Bool, true, T, leb, ltb, cond, List, map, length, get_or, replicate, bit_and, bit_xor, refl, sym, ap, subst, ◌∙◌, arith, w8}
use Rattle.std.specs.List.{range_with_len}
use Rattle.std.specs.Simd.Lanes.{zip2}
use Rattle.std.proofs.lemmas.List.{ext_get_or, get_or-map, length-map}
use Rattle.std.proofs.lemmas.Simd.{Each1-from_get_or, SwzOk, SwzOk-from_Each1, get_or-swz_l, length-swz_l, map-map, swz_l, zip2_of_maps, zip2_splat}
use Rattle.aes_lanes.specs.Bytes.{IsBlock}
use Rattle.aes_lanes.specs.Field.{affine_map, inverse_affine_map, inverse_sbox, sbox}
use Rattle.aes_lanes.specs.Shuffles.{ArePlaces, byte_from, by_halves, first_place, high_half, low_half, second_place}
use Rattle.aes_lanes.specs.Laws.Field.{at_each, inverses, inverse_by_table, sbox_by_table, sbox-by_table, inverse_sbox_by_table, inverse_sbox-by_table}
use Rattle.aes_lanes.specs.declared.shuffles.TheConstants.{INVERSES, SHARES, BASIS_LOW, BASIS_HIGH, SBOX_FIRST, SBOX_SECOND, UNMAPPED_LOW, UNMAPPED_HIGH, INVERSE_FIRST, INVERSE_SECOND}

-- a shuffle at places
pub places_within : (js : List ℕ) → ArePlaces js → SwzOk w8 16 16 0 js
places_within js places =
    SwzOk-from_Each1 w8 16 1 16 0 js refl (omega (arith, places.sixteen))
    (Each1-from_get_or (λ j. T (leb 128 j || ltb j 16)) js 0 (λ k lt. places.each k (omega (arith, places.sixteen))))

pub look_is : (table js : List ℕ) → length js ≡ 16 → swz_l w8 16 table 0 js ≡ map (byte_from table) js
look_is table js long =
    ext_get_or 0 (swz_l w8 16 table 0 js) (map (byte_from table) js) (length-swz_l w8 16 table 0 js ∙ sym (length-map js (byte_from table))) (λ k lt.
    let within : k < length js = omega (arith, length-swz_l w8 16 table 0 js) in
    let place : 16 * ((0 + k) / 16) + get_or js k 0 ≡ get_or js k 0 = omega (arith, long) in
    get_or-swz_l w8 16 table 0 js k within
    ∙ ap (λ (n : ℕ). cond (leb 128 (get_or js k 0)) 0 (get_or table n 0)) place
    ∙ sym (get_or-map (byte_from table) js k 0 0 within))

-- the numbers at which a shuffle looks
abbrev is_place : ℕ → Bool
is_place j = leb 128 j || ltb j 16

-- the values of a function of bytes, where each is such a number
pub places-map : (g : ℕ → ℕ) → map (λ x. is_place (g x)) (range_with_len 0 256) ≡ map (λ _. true) (range_with_len 0 256)
    → (v js : List ℕ) → IsBlock v → js ≡ map g v → ArePlaces js
places-map g placed v js block e = record {
  sixteen = ap length e ∙ length-map v g ∙ block.sixteen;
  each = λ k lt.
      let within : k < length v = omega (arith, block.sixteen) in
      let is : get_or js k 0 ≡ g (get_or v k 0) = ap (λ l. get_or l k 0) e ∙ get_or-map g v k 0 0 within in
      let placed_here = at_each (λ x. is_place (g x)) (λ _. true) placed (get_or v k 0) (block.bytes k) in
      subst (λ (j : ℕ). T (is_place j)) (sym is) (subst T (sym placed_here) tt);
}

-- what is looked up at values of a function
pub looked : (table v js found : List ℕ) (g : ℕ → ℕ) → js ≡ map g v → found ≡ map (byte_from table) js → found ≡ map (λ x. byte_from table (g x)) v
looked table v js found g e is = is ∙ ap (map (byte_from table)) e ∙ map-map (byte_from table) g v

-- the halves of bytes, as vectors give them
abbrev pub lows : List ℕ → List ℕ
lows v = zip2 bit_and v (replicate 16 15)

abbrev pub highs : List ℕ → List ℕ
highs v = zip2 (λ a b. a / 2 ^ b) v (replicate 16 4)

abbrev pub both : ℕ → ℕ
both x = bit_xor (low_half x) (high_half x)

module _ (v : List ℕ) (block : IsBlock v) where
  pub lows_are : lows v ≡ map low_half v
  lows_are = zip2_splat bit_and v 16 15 block.sixteen

  pub highs_are : highs v ≡ map high_half v
  highs_are = zip2_splat (λ a b. a / 2 ^ b) v 16 4 block.sixteen

  pub both_are : zip2 bit_xor (lows v) (highs v) ≡ map both v
  both_are = zip2_of_maps bit_xor low_half high_half v lows_are highs_are

-- the places of an inverse, in steps
abbrev share : ℕ → ℕ
share x = byte_from SHARES (low_half x)

abbrev pub of_high : ℕ → ℕ
of_high x = bit_xor (byte_from INVERSES (high_half x)) (share x)

abbrev pub of_both : ℕ → ℕ
of_both x = bit_xor (byte_from INVERSES (both x)) (share x)

module _ (v shares highest boths : List ℕ) (block : IsBlock v)
    (shares_are : shares ≡ map (byte_from SHARES) (lows v))
    (highest_are : highest ≡ map (byte_from INVERSES) (highs v))
    (boths_are : boths ≡ map (byte_from INVERSES) (zip2 bit_xor (lows v) (highs v))) where
  share_is : shares ≡ map share v
  share_is = looked SHARES v (lows v) shares low_half (lows_are v block) shares_are

  pub of_high_is : zip2 bit_xor highest shares ≡ map of_high v
  of_high_is =
      zip2_of_maps bit_xor (λ x. byte_from INVERSES (high_half x)) share v
      (looked INVERSES v (highs v) highest high_half (highs_are v block) highest_are) share_is

  pub of_both_is : zip2 bit_xor boths shares ≡ map of_both v
  of_both_is =
      zip2_of_maps bit_xor (λ x. byte_from INVERSES (both x)) share v
      (looked INVERSES v (zip2 bit_xor (lows v) (highs v)) boths both (both_are v block) boths_are) share_is

  pub first_places : (first : List ℕ) → first ≡ map (byte_from INVERSES) (zip2 bit_xor highest shares)
      → zip2 bit_xor first (zip2 bit_xor (lows v) (highs v)) ≡ map (first_place INVERSES SHARES) v
  first_places first is =
      zip2_of_maps bit_xor (λ x. byte_from INVERSES (of_high x)) both v
      (looked INVERSES v (zip2 bit_xor highest shares) first of_high of_high_is is) (both_are v block)

  pub second_places : (second : List ℕ) → second ≡ map (byte_from INVERSES) (zip2 bit_xor boths shares)
      → zip2 bit_xor second (highs v) ≡ map (second_place INVERSES SHARES) v
  second_places second is =
      zip2_of_maps bit_xor (λ x. byte_from INVERSES (of_both x)) high_half v
      (looked INVERSES v (zip2 bit_xor boths shares) second of_both of_both_is is) (highs_are v block)

-- the first or second place for a byte
abbrev pub for_byte : (List ℕ → List ℕ → ℕ → ℕ) → List ℕ → List ℕ → ℕ → ℕ
for_byte place low high x = place INVERSES SHARES (by_halves low high x)

-- the places for some bytes, from those for their elements
pub of_bytes : (low high : List ℕ) (place : ℕ → ℕ) (v element places : List ℕ) → element ≡ map (by_halves low high) v → places ≡ map place element
    → places ≡ map (λ x. place (by_halves low high x)) v
of_bytes low high place v element places element_is places_are = places_are ∙ ap (map place) element_is ∙ map-map place (by_halves low high) v

-- the S-boxes as the shuffles make them
unfoldable pub shuffled_sbox : ℕ → ℕ
shuffled_sbox x =
    bit_xor (bit_xor (byte_from SBOX_FIRST (for_byte first_place BASIS_LOW BASIS_HIGH x)) (byte_from SBOX_SECOND (for_byte second_place BASIS_LOW BASIS_HIGH x))) 0x63

pub shuffled_sbox-is : (x : ℕ) → x < 256 → shuffled_sbox x ≡ sbox x
unfolding shuffled_sbox inverses inverse_by_table affine_map sbox_by_table
shuffled_sbox-is x h = at_each shuffled_sbox sbox_by_table refl x h ∙ sym (sbox-by_table x h)

unfoldable pub shuffled_inverse_sbox : ℕ → ℕ
shuffled_inverse_sbox x =
    bit_xor (byte_from INVERSE_FIRST (for_byte first_place UNMAPPED_LOW UNMAPPED_HIGH x)) (byte_from INVERSE_SECOND (for_byte second_place UNMAPPED_LOW UNMAPPED_HIGH x))

pub shuffled_inverse_sbox-is : (x : ℕ) → x < 256 → shuffled_inverse_sbox x ≡ inverse_sbox x
unfolding shuffled_inverse_sbox inverses inverse_by_table inverse_affine_map inverse_sbox_by_table
shuffled_inverse_sbox-is x h = at_each shuffled_inverse_sbox inverse_sbox_by_table refl x h ∙ sym (inverse_sbox-by_table x h)
