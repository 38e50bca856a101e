-- A whole file is never read to want of bytes: it opens, and not as a directory.
use Rattle.std.proofs.Common.{◌≢◌, ◌==◌, ◌&&◌, ℕ, ◌+◌, Bool, true, false, List, [], ◌∷◌, cond, Option, None, Some, Result, Ok, Err, refl, length, take, drop, nat_lt}
use Rattle.chunk_files.specs.declared.fault.ChunkFault.{ChunkFault}
use Rattle.chunk_files.specs.declared.fault.ChunkFault.TheVariants.{NoHeader}
use Rattle.chunk_files.specs.Contents.{read_chunk, read_chunks, read_on, read_behind, read_by, readable}
use Rattle.chunk_files.specs.Format.{Format, Header, stored_size}
use Rattle.chunk_files.specs.Keys.{Keys, format_of}
use Rattle.chunk_files.specs.Pieces.{pieces}
use Rattle.chunk_files.specs.Reading.{Ending, Reading, Whole, Wanting, Faulty, ends}
use Rattle.vault_spec.specs.Opens.{Directory, NoItem, opened_by, opened_file}

abbrev Ends : Reading → Type 0
Ends reading = reading.ending ≢ Wanting

chunk_ends : (x : Result (List ℕ) ChunkFault) (rest : Reading) → Ends rest → Ends (read_on x rest)
chunk_ends (Ok chunk) rest is = is
chunk_ends (Err fault) rest is = λ e. cc

chunks_end : (f : Format) (header : Header) (number : ℕ) (chunks : List (List ℕ)) → Ends (read_chunks f header number chunks false)
unfolding read_chunks
chunks_end f header number [] = λ e. cc
chunks_end f header number (stored ∷ others) =
    chunk_ends (read_chunk f header number stored) (read_chunks f header (number + 1) others false) (chunks_end f header (number + 1) others)

behind_ends : (f : Format) (x : Result Header ChunkFault) (bytes : List ℕ) → Ends (read_behind f x bytes false)
behind_ends f (Ok header) bytes = chunks_end f header 0 (pieces (stored_size f) bytes)
behind_ends f (Err fault) bytes = λ e. cc

by_parts : (a b : Bool) (x y z : Reading) → Ends x → Ends y → Ends z → Ends (cond a x (cond b y z))
by_parts true b x y z one two three = one
by_parts false true x y z one two three = two
by_parts false false x y z one two three = three

pub whole_ends : (keys : Keys) (bytes : List ℕ) → (readable keys bytes).ending ≢ Wanting
unfolding read_by
whole_ends keys bytes =
    by_parts ((length bytes == 0) && (format_of keys).empty_has_no_header) (nat_lt (length bytes) (format_of keys).header_size) (ends Whole) (ends (Faulty NoHeader))
    (read_behind (format_of keys) ((format_of keys).read_header (take (format_of keys).header_size bytes)) (drop (format_of keys).header_size bytes) false)
    (λ e. cc) (λ e. cc) (behind_ends (format_of keys) ((format_of keys).read_header (take (format_of keys).header_size bytes)) (drop (format_of keys).header_size bytes))

-- the bytes of a content open
pub content_opens : (keys : Keys) (bytes : List ℕ) → opened_file keys (Some bytes) ≢ NoItem
content_opens keys bytes = by (readable keys bytes).ending (whole_ends keys bytes)
  where
    by : (ending : Ending) → ending ≢ Wanting → opened_by (readable keys bytes).chunks ending ≢ NoItem
    by Whole some = λ e. cc e
    by (Faulty fault) some = λ e. cc e
    by Wanting some = absurd (some refl)

-- no content opens as a directory
pub never_directory : (keys : Keys) (bytes : Option (List ℕ)) → opened_file keys bytes ≢ Directory
never_directory keys None e = cc e
never_directory keys (Some bytes) e = by (readable keys bytes).chunks (readable keys bytes).ending e
  where
    by : (chunks : List (List ℕ)) (ending : Ending) → opened_by chunks ending ≢ Directory
    by chunks Whole e = cc e
    by chunks (Faulty fault) e = cc e
    by chunks Wanting e = cc e
