-- The tables of the S-box, entry by entry, against the definitions.
use Rattle.std.proofs.Common.{◌≡◌, ℕ, ◌<◌, List, map, slice_index, get_or, length, refl, sym, ap, ◌∙◌, arith}
use Rattle.std.proofs.lemmas.List.{get_or-map}
use Rattle.std.proofs.lemmas.List.FromFn.{get_or-range_with_len}
use Rattle.std.specs.List.{range_with_len}
use Rattle.aes_lanes.specs.declared.tables.TheConstants.{SBOX, INVERSE_SBOX}
use Rattle.aes_lanes.specs.Field.{affine_map, inverse_affine_map}
use Rattle.aes_lanes.specs.Laws.Field.{inverses, inverse_by_table, sbox_by_table, inverse_sbox_by_table}

-- every byte, in order
abbrev bytes : List ℕ
bytes = range_with_len 0 256

-- the entries of a table are the values of a function, where it holds those that the function has by a table
pub entry_is : (table : List ℕ) (f by_table : ℕ → ℕ) → map (λ s. s) table ≡ map by_table bytes → length table ≡ 256 → ((x : ℕ) → x < 256 → f x ≡ by_table x)
    → (x : ℕ) → x < 256 → slice_index table x ≡ f x
entry_is table f by_table e long is x lt =
    let same : slice_index bytes x ≡ x = get_or-range_with_len 0 256 x 0 lt ∙ omega arith in
    sym (get_or-map (λ s. s) table x 0 0 (omega (arith, long))) ∙ ap (λ t. get_or t x 0) e ∙ get_or-map by_table bytes x 0 0 lt
    ∙ ap by_table same ∙ sym (is x lt)

pub SBOX_is : map (λ s. s) SBOX ≡ map sbox_by_table bytes
unfolding inverses inverse_by_table affine_map sbox_by_table
SBOX_is = refl

pub INVERSE_SBOX_is : map (λ s. s) INVERSE_SBOX ≡ map inverse_sbox_by_table bytes
unfolding inverses inverse_by_table inverse_affine_map inverse_sbox_by_table
INVERSE_SBOX_is = refl
