-- What the lender of a buffer's bytes ends as.
use Rattle.std.specs.Prelude.{ℕ, List}
use Rattle.std.specs.Borrow.{Lends, MutBor, Fml, Array, u8}
use Rattle.chunk_files.specs.contracts.chunk_buf.ChunkBuf.{the_row}

-- the buffer ends as the last bytes behind the borrow
abbrev pub LendsBytes : MutBor (List ℕ) → MutBor (List ℕ) → Fml
LendsBytes buffer bytes = Lends the_row (Array u8 0) buffer bytes (λ w. w)
