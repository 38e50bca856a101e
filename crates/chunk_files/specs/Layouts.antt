-- The sizes of a layout, and how they fit together.
use Rattle.std.specs.Prelude.{◌≡◌, ℕ, ◌*◌, ◌<◌, ◌≤◌, true, length, take}
use Rattle.std.specs.List.{sum}
use Rattle.chunk_files.specs.declared.keys.Layout.{Layout}
use Rattle.chunk_files.specs.Format.{Format, stored_size}
use Rattle.chunk_files.specs.Keys.{Keys, format_of, full_size}

pub record HasSizes (layout : Layout) (f : Format) : Type 0 where
  -- a full chunk has as many plain bytes as is said of the layout: some, and no more than a buffer holds when it is stored
  pub full : f.full_size ≡ full_size layout
  pub some_full : 0 < f.full_size
  pub few_full : f.full_size ≤ 32768
  pub few_stored : stored_size f ≤ 32816
  -- a header has some bytes and draws some
  pub some_header : 0 < f.header_size
  pub few_header : f.header_size ≤ 88
  pub some_drawn : 0 < f.header_draw
  -- its draws are so many bytes together, and fewer where not all are made
  pub drawn_by_all : sum f.header_draws ≡ f.header_draw
  pub drawn_by_some : (made : ℕ) → made < length f.header_draws → sum (take made f.header_draws) < f.header_draw
  -- a sealed chunk begins with its nonce, which has some bytes
  pub some_nonce : 0 < f.nonce_size
  pub nonce_within : f.nonce_size ≤ f.seal_size
  -- sealing adds no more than 32 bytes for each of a full chunk
  pub few_sealed : f.seal_size ≤ 32 * f.full_size
  -- where zeros are refused, sixteen bytes are drawn for a header, and for each nonce
  pub header_of_sixteen : f.refuses_zeros ≡ true → f.header_draw ≡ 16
  pub nonces_of_sixteen : f.refuses_zeros ≡ true → f.nonce_size ≡ 16

-- the sizes of every layout fit together
abbrev pub SizesFit : Type 0
SizesFit = (keys : Keys) → HasSizes keys.layout (format_of keys)
