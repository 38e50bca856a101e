-- A word that is a number is read as one.
use Rattle.std.proofs.Common.{◌≡◌, ◌<◌, ◌≤◌, ◌^◌, ℕ, Bool, true, false, cond, nat_eq, nat_le, List, [], ◌∷◌, drop, None, refl, sym, ap, subst, arith}
use Rattle.std.specs.List.{list_all}
use Rattle.std.specs.Str.Parse.{AllDigits, IsNumeral, digits_value, without_leading_plus}
use Rattle.std.proofs.lemmas.Bool.{and_parts}
use Rattle.std.proofs.lemmas.Bool.Decides.{nat_tests}
use Rattle.std.specs.Char.{digit_value}
use Rattle.command_words.specs.Numbers.{is_digit, is_number, number_within}

few_digits : (byte : ℕ) → is_digit byte ≡ true → digit_value byte < 10
few_digits byte is = grind (arith, nat_tests)

no_plus : (byte : ℕ) → is_digit byte ≡ true → nat_eq byte 43 ≡ false
no_plus byte is = grind (arith, nat_tests)

all_digits : (word : List ℕ) → list_all is_digit word ≡ true → AllDigits 10 word
all_digits [] is = tt
all_digits (byte ∷ word) is = let parts = and_parts (is_digit byte) (list_all is_digit word) is in (few_digits byte parts.0, all_digits word parts.1)

pub word_is : (word : List ℕ) → is_number word ≡ true → (without_leading_plus word ≡ word) × IsNumeral 10 word
word_is [] is = cc
word_is (byte ∷ word) is =
    let digits = (and_parts _ _ (and_parts _ _ is).0).1 in
    let first = (and_parts (is_digit byte) (list_all is_digit word) digits).0 in
    (ap (λ b. drop (cond b 1 0) (byte ∷ word)) (no_plus byte first), (omega arith, all_digits (byte ∷ word) digits))

past_limit : (value most limit : ℕ) → most < limit → (value < limit → ⊥) → nat_le value most ≡ false
past_limit value most limit few none = by_test (nat_le value most) refl
  where
    by_test : (b : Bool) → nat_le value most ≡ b → nat_le value most ≡ false
    by_test true is = absurd (none (let within : value ≤ most = grind (arith, nat_tests, is) in omega (arith, within, few)))
    by_test false is = is

pub too_large : (most : ℕ) (word : List ℕ) → most < 2 ^ 64 → is_number word ≡ true → (IsNumeral 10 (without_leading_plus word) × (digits_value 10 (without_leading_plus word) < 2 ^ 64) → ⊥) → None ≡ number_within most word
too_large most word few is none =
    let it = word_is word is in
    let large : nat_le (digits_value 10 word) most ≡ false =
    past_limit (digits_value 10 word) most (2 ^ 64) few (λ less. none (subst (λ w. IsNumeral 10 w × (digits_value 10 w < 2 ^ 64)) (sym it.0) (it.1, less))) in
    rw (is, large) refl
