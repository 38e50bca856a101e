-- What a layout of content files is. A file has a header, and behind it the sealed chunks of its content,
-- numbered from 0. A sealed chunk begins with its nonce.
use Rattle.std.specs.Prelude.{ℕ, ◌+◌, Bool, List, Option, Result}
use Rattle.chunk_files.specs.declared.fault.ChunkFault.{ChunkFault}

-- what a header tells of the chunks behind it: the key that seals them, and the bytes that bind them to
-- their file
pub record Header : Type 0 where
  pub key : List ℕ
  pub file : List ℕ

pub record Format : Type 0 where
  -- the bytes of a header, of a chunk's nonce, and of what sealing adds to a chunk, the nonce among them
  pub header_size : ℕ
  pub nonce_size : ℕ
  pub seal_size : ℕ
  -- the plain bytes of a full chunk
  pub full_size : ℕ
  -- what a whole header tells, or its first fault
  pub read_header : List ℕ → Result Header ChunkFault
  -- the chunk of this number sealed under a nonce; and the plain bytes of a sealed chunk whose tag is right
  pub sealed_chunk : Header → ℕ → List ℕ → List ℕ → List ℕ
  pub opened_chunk : Header → ℕ → List ℕ → Option (List ℕ)
  -- how many bytes a new header draws, and how many each of its draws, one after the other; the header that they make, and what it
  -- tells
  pub header_draw : ℕ
  pub header_draws : List ℕ
  pub new_header : List ℕ → List ℕ
  pub new_told : List ℕ → Header
  -- whether a nonce or id of zeros is refused
  pub refuses_zeros : Bool
  -- whether a stored full chunk of zeros is a hole, which stands for a full chunk of zeros
  pub has_holes : Bool
  -- whether no bytes stand for no content
  pub empty_has_no_header : Bool

-- the stored bytes of a full chunk
abbrev pub stored_size : Format → ℕ
stored_size format = format.full_size + format.seal_size
