-- Bytes cut into pieces.
use Rattle.std.specs.Prelude.{ℕ, zero, suc, List, [], ◌∷◌, length, take, drop}

-- the first pieces of so many bytes each, at most `most` of them, until no byte is left
unfoldable pub first_pieces : ℕ → ℕ → List ℕ → List (List ℕ)
first_pieces zero size bytes = []
first_pieces (suc most) size [] = []
first_pieces (suc most) size (byte ∷ bytes) =
    take size (byte ∷ bytes) ∷ first_pieces most size (drop size (byte ∷ bytes))

-- all pieces of so many bytes each, of which the last may be shorter
unfoldable pub pieces : ℕ → List ℕ → List (List ℕ)
pieces size bytes = first_pieces (length bytes) size bytes
