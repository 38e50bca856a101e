-- Streams of random bytes, and what it is to draw bytes from them.
use Rattle.std.specs.Prelude.{◌≡◌, ℕ, zero, suc, List, [], ◌∷◌, ⊤, Option, None, Some}

-- the byte at each place from 0, or none past the end of a stream that ends
abbrev pub ByteStream : Type 0
ByteStream = ℕ → Option ℕ

-- these bytes, and that stream behind them
abbrev pub bytes_then : List ℕ → ByteStream → ByteStream
bytes_then [] rest place = rest place
bytes_then (byte ∷ bytes) rest zero = Some byte
bytes_then (byte ∷ bytes) rest (suc place) = bytes_then bytes rest place

-- The bytes were drawn from the stream before, which leaves the stream after. A stream that was told is
-- told afterwards, and one that wasn't isn't.
abbrev pub Draws : Option ByteStream → Option ByteStream → List ℕ → Type 0
Draws None None bytes = ⊤
Draws None (Some after) bytes = ⊥
Draws (Some before) None bytes = ⊥
Draws (Some before) (Some after) bytes = (place : ℕ) → before place ≡ bytes_then bytes after place
