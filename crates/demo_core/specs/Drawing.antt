-- What the demonstration draws, and from which stream: the key stream of ChaCha20 (RFC 8439) under a seed.
use Rattle.std.specs.Prelude.{◌≡◌, ℕ, List, ◌++◌, replicate, Option}
use Rattle.std.specs.Int.{to_le_bytes, w64}
use Rattle.port_model.specs.Draws.{ByteStream, Draws}
use Rattle.port_model.specs.Words.{bytes_of_words}
use Rattle.rand_chacha.specs.ChaCha.{next_word, of_seed}
use Rattle.rand_core.specs.Steps.{steps_u32, stream_of}

-- a number as the 32 bytes of a seed, the lowest first
abbrev pub seed_bytes : ℕ → List ℕ
seed_bytes seed = to_le_bytes w64 seed ++ replicate 24 0

-- the bytes of the generator's words, after ten double rounds each
abbrev pub seed_stream : ℕ → ByteStream
seed_stream seed = bytes_of_words (stream_of (steps_u32 (next_word 10)) (of_seed (seed_bytes seed)))

-- sixteen zero bytes stand in a row
pub record HasZeroRun (bytes : List ℕ) : Type 0 where
  pub front : List ℕ
  pub back : List ℕ
  pub is : bytes ≡ front ++ replicate 16 0 ++ back

-- Some bytes were drawn. Where zeros are why a call ends, sixteen in a row are among them.
pub record Drew (zeros : Type 0) (stream stream' : Option ByteStream) : Type 0 where
  pub drawn : List ℕ
  pub were_drawn : Draws stream stream' drawn
  pub run : zeros → HasZeroRun drawn
