-- What an object tells of its bytes: a source the bytes left, a sink the bytes taken. An object that tells
-- nothing has none here, and nothing is claimed of its bytes.
use Rattle.std.specs.Prelude.{ℕ, List, take, Option}
use Rattle.std.specs.Io.KnownBytes.{Appends}

-- the told bytes grew by the front of the piece, perhaps by none or all of it
abbrev pub AppendsPrefix : Option (List ℕ) → Option (List ℕ) → List ℕ → Type 0
AppendsPrefix before after piece = (n : ℕ) × Appends before after (take n piece)
