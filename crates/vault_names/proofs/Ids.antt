-- The characters of directory ids.
use Rattle.std.proofs.Common.{◌≡◌, ℕ, zero, suc, ◌<◌, Bool, true, false, if◌then◌else◌, List, [], ◌∷◌, length, IsTrue, refl, ◌∙◌, arith}
use Rattle.std.specs.List.{list_all}
use Rattle.std.proofs.lemmas.Bool.{and_from}
use Rattle.std.proofs.lemmas.Bool.Decides.{nat_tests}
use Rattle.std.proofs.lemmas.List.Folds.{list_all-append}
use Rattle.vault_values.specs.Id.{id_of}
use Rattle.uuid.specs.Text.{by_index, hex_digit, is_hyphen_place, nibble, digit_place, lower}
use Rattle.uuid.proofs.TextLemmas.{by_index_length, nibble_small}
use Rattle.vault_names.specs.Cryptomator.{is_id_character}

is_id_character-digit : (d : ℕ) → d < 16 → is_id_character (hex_digit lower d) ≡ true
is_id_character-digit d small = grind (arith, nat_tests)

-- a hyphen or a digit
is_id_character-place : (hyphen : Bool) (d : ℕ) → d < 16 → is_id_character (if hyphen then 45 else hex_digit lower d) ≡ true
is_id_character-place true d small = refl
is_id_character-place false d small = is_id_character-digit d small

all_by_index : (p : ℕ → Bool) (n : ℕ) (f : ℕ → ℕ) → ((k : ℕ) → p (f k) ≡ true) → list_all p (by_index n f) ≡ true
unfolding by_index
all_by_index p zero f each = refl
all_by_index p (suc n) f each =
    list_all-append p (by_index n f) (f n ∷ []) ∙ and_from _ _ (all_by_index p n f each) (and_from _ _ (each n) refl)

pub length-id_of : (drawn : List ℕ) → length (id_of drawn) ≡ 36
unfolding id_of
length-id_of drawn = by_index_length 36 _

pub characters-id_of : (drawn : List ℕ) → IsTrue (list_all is_id_character (id_of drawn))
unfolding id_of
characters-id_of drawn =
    all_by_index is_id_character 36 _ (λ k. is_id_character-place (is_hyphen_place k) (nibble _ (digit_place k)) (nibble_small _ (digit_place k)))
