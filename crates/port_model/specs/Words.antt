-- The random bytes of a generator of words.
use Rattle.std.specs.Prelude.{ℕ, ◌/◌, ◌%◌, replicate, drop, slice_get}
use Rattle.std.specs.Int.{w32, to_le_bytes}
use Rattle.rand_core.specs.Stream.{Stream, u32_call}
use Rattle.port_model.specs.Draws.{ByteStream, bytes_then}

-- the word that a generator gives after so many others
abbrev pub word_after : Stream → ℕ → ℕ
word_after generator count = generator.u32_after (replicate count u32_call)

-- the bytes of its words one after the other, each little-endian
abbrev pub bytes_of_words : Stream → ByteStream
bytes_of_words generator place = slice_get (to_le_bytes w32 (word_after generator (place / 4))) (place % 4)

-- what is left where so many bytes of a word were given: its other bytes, and those of the words after it
abbrev pub left_of_words : ℕ → ℕ → Stream → ByteStream
left_of_words word given generator = bytes_then (drop given (to_le_bytes w32 word)) (bytes_of_words generator)
