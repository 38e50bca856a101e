-- S2V: RFC 5297, section 2.4, over a block cipher that is given as the image of a block.
use Rattle.std.specs.Prelude.{ℕ, ◌-◌, List, [], ◌∷◌, ◌++◌, length, take, drop, Option, nat_lt, if◌then◌else◌}
use Rattle.std.specs.Option.{option_to_list, option_copied}
use Rattle.std.specs.Borrow.{Bor}
use Rattle.aes_lanes.specs.Bytes.{xor_bytes}
use Rattle.siv_mode.specs.Blocks.{zero_block, double, padded_block}
use Rattle.siv_mode.specs.Cmac.{cmac}

-- a string with a block added to its end: 'xorend' (2.1)
unfoldable pub xorend : List ℕ → List ℕ → List ℕ
xorend string block =
    let front : ℕ = length string - length block in
    take front string ++ xor_bytes (drop front string) block

-- the value D after some more strings
unfoldable pub summed : (List ℕ → List ℕ) → List ℕ → List (List ℕ) → List ℕ
summed image d [] = d
summed image d (string ∷ strings) = summed image (xor_bytes (double d) (cmac image string)) strings

-- the text T of D and the last string
unfoldable pub last_text : List ℕ → List ℕ → List ℕ
last_text d string =
    if nat_lt (length string) 16 then xor_bytes (double d) (padded_block string) else xorend string d

-- S2V of strings and a last one
unfoldable pub s2v : (List ℕ → List ℕ) → List (List ℕ) → List ℕ → List ℕ
s2v image strings string = cmac image (last_text (summed image (cmac image zero_block) strings) string)

-- the associated strings, of which there is at most one
abbrev pub associated : Option (Bor (List ℕ)) → List (List ℕ)
associated ad = option_to_list (option_copied ad)
