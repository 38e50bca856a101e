-- What a call leaves in a buffer.
use Rattle.std.specs.Prelude.{◌≡◌, ℕ, ◌+◌, ◌≤◌, List, ◌++◌, length, take, drop, Result, Ok, Err}
use Rattle.chunk_files.specs.declared.fault.EncodeFault.{EncodeFault}

-- behind so many bytes nothing changed
abbrev pub KeepsBehind : ℕ → List ℕ → List ℕ → Type 0
KeepsBehind count old new = drop count new ≡ drop count old

-- behind the bytes that were put at its front nothing changed, and nothing at all at a fault
abbrev pub ChangesFront : Result ℕ EncodeFault → List ℕ → List ℕ → Type 0
ChangesFront (Ok count) old new = KeepsBehind count old new
ChangesFront (Err fault) old new = new ≡ old

-- it has no bytes but those that it had and, at its front, a part of these
pub record HasOnlyOf (stored old new : List ℕ) : Type 0 where
  pub before : ℕ
  pub count : ℕ
  pub within : before + count ≤ length stored
  pub is : new ≡ take count (drop before stored) ++ drop count old
