-- One step of a reading, over the stored chunks of a file.
use Rattle.std.proofs.Common.{◌≡◌, ℕ, ◌+◌, ◌<◌, ◌≤◌, ◌==◌, ◌&&◌, nat_lt, Bool, true, false, cond, List, [], ◌∷◌, length, take, drop, Result, Ok, Err, refl, arith}
use Rattle.std.proofs.lemmas.List.{length-take}
use Rattle.std.proofs.lemmas.Bool.{lt-ltb, le-ltb}
use Rattle.chunk_files.specs.declared.fault.ChunkFault.{ChunkFault}
use Rattle.chunk_files.specs.Format.{Format, Header, stored_size}
use Rattle.chunk_files.specs.Pieces.{pieces}
use Rattle.chunk_files.specs.Reading.{Reading, Whole, Wanting, ends}
use Rattle.chunk_files.specs.Contents.{read_chunk, read_chunks, read_from, at_end, read_on, read_behind, read_by}
use Rattle.chunk_files.proofs.PiecesOf.{pieces-nil, pieces-next}

module _ (f : Format) (header : Header) (number : ℕ) where
  -- no byte is left
  pub read_from-nil : (bytes : List ℕ) (goes_on : Bool) → length bytes ≡ 0 → read_from f header number bytes goes_on ≡ ends (at_end goes_on)
  unfolding read_chunks
  read_from-nil bytes goes_on none = rw (pieces-nil (stored_size f) bytes none) refl

  -- less than a whole chunk is left of a file that goes on
  pub read_from-wanting : (bytes : List ℕ) → length bytes < stored_size f → read_from f header number bytes true ≡ ends Wanting
  unfolding read_chunks
  read_from-wanting [] less = read_from-nil [] true refl
  read_from-wanting (x ∷ xs) less =
      let some : 0 < stored_size f = omega arith in
      let short : length (take (stored_size f) (x ∷ xs)) < stored_size f = omega (arith, length-take (stored_size f) (x ∷ xs)) in
      rw (pieces-next (stored_size f) (x ∷ xs) some (omega arith), lt-ltb _ _ short) refl

  -- the next chunk is read
  pub read_from-next : (bytes : List ℕ) (goes_on : Bool) → 0 < stored_size f → 0 < length bytes → (goes_on ≡ true → stored_size f ≤ length bytes)
      → read_from f header number bytes goes_on
      ≡ read_on (read_chunk f header number (take (stored_size f) bytes)) (read_from f header (number + 1) (drop (stored_size f) bytes) goes_on)
  unfolding read_chunks
  read_from-next bytes false some more enough = rw (pieces-next (stored_size f) bytes some more) refl
  read_from-next bytes true some more enough =
      let whole : stored_size f ≤ length (take (stored_size f) bytes) = omega (arith, length-take (stored_size f) bytes, enough refl) in
      rw (pieces-next (stored_size f) bytes some more, le-ltb _ _ whole) refl

-- ---- bytes behind which the file goes on give no whole file

on-cut : (read : Result (List ℕ) ChunkFault) (rest : Reading) → (rest.ending ≡ Whole → ⊥) → (read_on read rest).ending ≡ Whole → ⊥
on-cut (Ok chunk) rest cut whole = cut whole
on-cut (Err fault) rest cut whole = cc

chosen-cut : (b : Bool) (one two : Reading) → (one.ending ≡ Whole → ⊥) → (two.ending ≡ Whole → ⊥) → (cond b one two).ending ≡ Whole → ⊥
chosen-cut true one two first second whole = first whole
chosen-cut false one two first second whole = second whole

wanting-cut : (ends Wanting).ending ≡ Whole → ⊥
wanting-cut whole = cc

chunks-cut : (f : Format) (header : Header) (number : ℕ) (stored : List (List ℕ)) → (read_chunks f header number stored true).ending ≡ Whole → ⊥
unfolding read_chunks
chunks-cut f header number [] whole = cc
chunks-cut f header number (first ∷ others) whole =
    chosen-cut (nat_lt (length first) (stored_size f)) _ _ wanting-cut (on-cut (read_chunk f header number first) _ (chunks-cut f header (number + 1) others)) whole

behind-cut : (f : Format) (told : Result Header ChunkFault) (bytes : List ℕ) → (read_behind f told bytes true).ending ≡ Whole → ⊥
behind-cut f (Ok header) bytes whole = chunks-cut f header 0 (pieces (stored_size f) bytes) whole
behind-cut f (Err fault) bytes whole = cc

pub whole-goes_on : (f : Format) (bytes : List ℕ) (goes_on : Bool) → (read_by f bytes goes_on).ending ≡ Whole → goes_on ≡ false
unfolding read_by
whole-goes_on f bytes false whole = refl
whole-goes_on f bytes true whole =
    absurd (chosen-cut ((length bytes == 0) && f.empty_has_no_header) _ _ wanting-cut
    (chosen-cut (nat_lt (length bytes) f.header_size) _ _ wanting-cut (behind-cut f (f.read_header (take f.header_size bytes)) (drop f.header_size bytes))) whole)
