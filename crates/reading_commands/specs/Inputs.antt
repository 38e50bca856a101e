-- What is taken of an input.
use Rattle.std.specs.Prelude.{ℕ, ◌≤◌, List, length, Option}
use Rattle.std.specs.Io.KnownBytes.{Consumes}
use Rattle.vault_faults.specs.Limits.{content_limit}

-- the most bytes that an input may have
abbrev pub input_limit : ℕ
input_limit = content_limit

-- no more than so many bytes were taken
abbrev pub TakesAtMost : ℕ → Option (List ℕ) → Option (List ℕ) → Type 0
TakesAtMost most left left' = (bytes : List ℕ) × (length bytes ≤ most) × Consumes left left' bytes
