-- Words of private contracts: the first byte that a text writes.
use Rattle.std.specs.Prelude.{ℕ, ◌==◌, List, [], ◌∷◌, if◌then◌else◌, Option, None, Some, option_map}
use Rattle.plain_tree.specs.Reading.{escaped_byte}

-- the byte that a backslash writes with what stands behind it
unfoldable pub byte_behind : List ℕ → Option ℕ
byte_behind (x ∷ high ∷ low ∷ _) = escaped_byte x high low
byte_behind _ = None

-- the first byte that a text writes, and how many of its bytes write it
unfoldable pub first_written : List ℕ → Option (ℕ × ℕ)
first_written [] = None
first_written (byte ∷ text) =
    if byte == 92 then option_map (λ value. (value, 4)) (byte_behind text) else Some (byte, 1)
