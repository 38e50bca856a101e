-- How many bytes a content file has, by the bytes that are read of it: no fewer, and not many more.
use Rattle.std.proofs.Common.{◌≡◌, ℕ, zero, suc, ◌+◌, ◌*◌, ◌<◌, ◌≤◌, ◌==◌, ◌&&◌, nat_lt, Bool, true, false, cond, List, ◌∷◌, length, take, drop, Result, Ok, Err, inl, inr, refl, sym, subst, arith, length-append, length-drop}
use Rattle.std.specs.List.{concat}
use Rattle.std.proofs.lemmas.Bool.{cases_lt, ltb-true, ltb-false, eqb-true}
use Rattle.std.proofs.lemmas.List.{length-take}
use Rattle.chunk_files.specs.declared.fault.ChunkFault.{ChunkFault}
use Rattle.chunk_files.specs.declared.fault.ChunkFault.TheVariants.{NoHeader}
use Rattle.chunk_files.specs.Contents.{at_end, read_chunk, read_from, read_on, read_behind, read_by}
use Rattle.chunk_files.specs.Format.{Format, Header, stored_size}
use Rattle.chunk_files.specs.Keys.{format_of, IsHeaderOf}
use Rattle.chunk_files.specs.Reading.{Reading, Wanting, Faulty, ends}
use Rattle.chunk_files.specs.Sizes.{IsFaultless, FilesAreNotMuchLonger, ReadingsAreNoLonger}
use Rattle.chunk_files.proofs.ChunkReadings.{read_from-nil, read_from-next, read_from-wanting}
use Rattle.chunk_files.proofs.Lawful.{IsLawful, lawful}
use Rattle.chunk_files.proofs.LayoutSizes.{sizes_fit}
use Rattle.chunk_files.proofs.Tests.{both-true}
use Rattle.chunk_files.proofs.Tagging.{SealLaws}
use Rattle.chunk_files.proofs.StoredChunks.{length-stored, stored-of-read}

-- bytes of which this was read have not many more than it gave
abbrev IsShort : ℕ → ℕ → Reading → Type 0
IsShort most size reading = IsFaultless reading.ending → size ≤ 33 * length (concat reading.chunks) + most

module _ (f : Format) (IsHead : Header → List ℕ → Type 0) (law : IsLawful f IsHead) (small : f.seal_size ≤ 32 * f.full_size) (header : Header) where
  one-chunk : (number : ℕ) (bytes : List ℕ) (read : Result (List ℕ) ChunkFault) (rest : Reading) → stored_size f ≤ length bytes
      → read_chunk f header number (take (stored_size f) bytes) ≡ read → IsShort (stored_size f) (length (drop (stored_size f) bytes)) rest → IsShort (stored_size f) (length bytes) (read_on read rest)
  one-chunk number bytes (Err fault) rest long is short = λ faultless. absurd faultless
  one-chunk number bytes (Ok chunk) rest long is short = λ faultless.
      let size : length (take (stored_size f) bytes) ≡ f.seal_size + length chunk =
      length-stored f IsHead law header number (take (stored_size f) bytes) chunk (stored-of-read f IsHead law header number (take (stored_size f) bytes) chunk is) in
      let later : length (drop (stored_size f) bytes) ≤ 33 * length (concat rest.chunks) + stored_size f = short faultless in
      let joined : length (concat (chunk ∷ rest.chunks)) ≡ length chunk + length (concat rest.chunks) = length-append chunk (concat rest.chunks) in
      omega (arith, size, later, joined, long, small, law.form.some_full, length-take (stored_size f) bytes, length-drop (stored_size f) bytes)

  chunks-short : (most number : ℕ) (bytes : List ℕ) (goes_on : Bool) → length bytes ≤ most → IsShort (stored_size f) (length bytes) (read_from f header number bytes goes_on)
  chunks-short zero number bytes goes_on within = λ faultless. omega (arith, within)
  chunks-short (suc most) number bytes goes_on within = elim (cases_lt (stored_size f) (length bytes)) [
    | inr last ↦ λ faultless. omega (arith, last)
    | inl more ↦
        let shorter : length (drop (stored_size f) bytes) ≤ most = omega (arith, within, more, law.form.some_full, length-drop (stored_size f) bytes) in
        subst (IsShort (stored_size f) (length bytes)) (sym (read_from-next f header number bytes goes_on (omega (arith, law.form.some_full)) (omega (arith, more)) (λ _. omega (arith, more))))
        (one-chunk number bytes (read_chunk f header number (take (stored_size f) bytes)) (read_from f header (number + 1) (drop (stored_size f) bytes) goes_on) (omega (arith, more)) refl
        (chunks-short most (number + 1) (drop (stored_size f) bytes) goes_on shorter))
  ]

module _ (f : Format) (IsHead : Header → List ℕ → Type 0) (law : IsLawful f IsHead) (small : f.seal_size ≤ 32 * f.full_size) (bytes : List ℕ) (goes_on : Bool) where
  behind-short : (told : Result Header ChunkFault) → f.header_size ≤ length bytes → IsShort (f.header_size + stored_size f) (length bytes) (read_behind f told (drop f.header_size bytes) goes_on)
  behind-short (Err fault) long = λ faultless. absurd faultless
  behind-short (Ok header) long = λ faultless.
      let behind : length (drop f.header_size bytes) ≤ 33 * length (concat (read_from f header 0 (drop f.header_size bytes) goes_on).chunks) + stored_size f =
      chunks-short f IsHead law small header (length (drop f.header_size bytes)) 0 (drop f.header_size bytes) goes_on (omega arith) faultless in
      omega (arith, behind, long, length-drop f.header_size bytes)

  by-tests : (empty short : Bool) → ((length bytes == 0) && f.empty_has_no_header) ≡ empty → nat_lt (length bytes) f.header_size ≡ short
      → IsShort (f.header_size + stored_size f) (length bytes) (cond empty (ends (at_end goes_on)) (cond short (ends (cond goes_on Wanting (Faulty NoHeader))) (read_behind f (f.read_header (take f.header_size bytes)) (drop f.header_size bytes) goes_on)))
  by-tests true short none less = λ faultless. omega (arith, eqb-true (length bytes) 0 (both-true (length bytes == 0) f.empty_has_no_header none).0)
  by-tests false true none less = λ faultless. omega (arith, ltb-true (length bytes) f.header_size less)
  by-tests false false none long = behind-short (f.read_header (take f.header_size bytes)) (ltb-false (length bytes) f.header_size long)

  file-short : IsShort (f.header_size + stored_size f) (length bytes) (read_by f bytes goes_on)
  unfolding read_by
  file-short = by-tests _ _ refl refl

pub files_are_not_much_longer : SealLaws → FilesAreNotMuchLonger
files_are_not_much_longer laws keys bytes goes_on =
    file-short (format_of keys) (IsHeaderOf keys) (lawful laws keys) (sizes_fit keys).few_sealed bytes goes_on

-- ---- what is read has no more bytes than the file

abbrev total : Reading → ℕ
total reading = length (concat reading.chunks)

module _ (f : Format) (IsHead : Header → List ℕ → Type 0) (law : IsLawful f IsHead) (header : Header) where
  one-few : (number : ℕ) (bytes : List ℕ) (read : Result (List ℕ) ChunkFault) (rest : Reading) → read_chunk f header number (take (stored_size f) bytes) ≡ read
      → total rest ≤ length (drop (stored_size f) bytes) → total (read_on read rest) ≤ length bytes
  one-few number bytes (Err fault) rest is few = omega arith
  one-few number bytes (Ok chunk) rest is few =
      let size : length (take (stored_size f) bytes) ≡ f.seal_size + length chunk =
      length-stored f IsHead law header number (take (stored_size f) bytes) chunk (stored-of-read f IsHead law header number (take (stored_size f) bytes) chunk is) in
      let joined : length (concat (chunk ∷ rest.chunks)) ≡ length chunk + length (concat rest.chunks) = length-append chunk (concat rest.chunks) in
      omega (arith, size, joined, few, length-take (stored_size f) bytes, length-drop (stored_size f) bytes)

  next-few : (number : ℕ) (bytes : List ℕ) (goes_on : Bool) → 0 < length bytes → (goes_on ≡ true → stored_size f ≤ length bytes)
      → total (read_from f header (number + 1) (drop (stored_size f) bytes) goes_on) ≤ length (drop (stored_size f) bytes) → total (read_from f header number bytes goes_on) ≤ length bytes
  next-few number bytes goes_on some whole few =
      subst (λ (r : Reading). total r ≤ length bytes) (sym (read_from-next f header number bytes goes_on (omega (arith, law.form.some_full)) some whole))
      (one-few number bytes (read_chunk f header number (take (stored_size f) bytes)) (read_from f header (number + 1) (drop (stored_size f) bytes) goes_on) refl few)

  none-few : (number : ℕ) (bytes : List ℕ) (goes_on : Bool) → length bytes ≡ 0 → total (read_from f header number bytes goes_on) ≤ length bytes
  none-few number bytes goes_on none = subst (λ (r : Reading). total r ≤ length bytes) (sym (read_from-nil f header number bytes goes_on none)) (omega arith)

  chunks-few : (most number : ℕ) (bytes : List ℕ) (goes_on : Bool) → length bytes ≤ most → total (read_from f header number bytes goes_on) ≤ length bytes
  chunks-few zero number bytes goes_on within = none-few number bytes goes_on (omega (arith, within))
  chunks-few (suc most) number bytes false within = elim (cases_lt 0 (length bytes)) [
    | inr none ↦ none-few number bytes false (omega (arith, none))
    | inl some ↦
        let shorter : length (drop (stored_size f) bytes) ≤ most = omega (arith, within, some, law.form.some_full, length-drop (stored_size f) bytes) in
        next-few number bytes false some (λ on. cc) (chunks-few most (number + 1) (drop (stored_size f) bytes) false shorter)
  ]
  chunks-few (suc most) number bytes true within = elim (cases_lt (length bytes) (stored_size f)) [
    | inl less ↦ subst (λ (r : Reading). total r ≤ length bytes) (sym (read_from-wanting f header number bytes less)) (omega arith)
    | inr whole ↦
        let shorter : length (drop (stored_size f) bytes) ≤ most = omega (arith, within, whole, law.form.some_full, length-drop (stored_size f) bytes) in
        next-few number bytes true (omega (arith, whole, law.form.some_full)) (λ on. whole) (chunks-few most (number + 1) (drop (stored_size f) bytes) true shorter)
  ]

module _ (f : Format) (IsHead : Header → List ℕ → Type 0) (law : IsLawful f IsHead) (bytes : List ℕ) (goes_on : Bool) where
  behind-few : (told : Result Header ChunkFault) → total (read_behind f told (drop f.header_size bytes) goes_on) ≤ length bytes
  behind-few (Err fault) = omega arith
  behind-few (Ok header) =
      omega (
        arith,
        chunks-few f IsHead law header (length (drop f.header_size bytes)) 0 (drop f.header_size bytes) goes_on (omega arith),
        length-drop f.header_size bytes,
      )

  few-by-tests : (empty short : Bool)
      → total (cond empty (ends (at_end goes_on)) (cond short (ends (cond goes_on Wanting (Faulty NoHeader))) (read_behind f (f.read_header (take f.header_size bytes)) (drop f.header_size bytes) goes_on))) ≤ length bytes
  few-by-tests true short = omega arith
  few-by-tests false true = omega arith
  few-by-tests false false = behind-few (f.read_header (take f.header_size bytes))

  file-few : total (read_by f bytes goes_on) ≤ length bytes
  unfolding read_by
  file-few = few-by-tests ((length bytes == 0) && f.empty_has_no_header) (nat_lt (length bytes) f.header_size)

pub readings_are_no_longer : SealLaws → ReadingsAreNoLonger
readings_are_no_longer laws keys bytes goes_on = file-few (format_of keys) (IsHeaderOf keys) (lawful laws keys) bytes goes_on
