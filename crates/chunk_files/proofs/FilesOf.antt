-- A file is of a content exactly where reading it ends without a fault and gives that content.
use Rattle.std.proofs.Common.{◌≡◌, ℕ, zero, suc, ◌+◌, ◌<◌, ◌≤◌, ◌==◌, ◌&&◌, nat_lt, Bool, true, false, List, [], ◌∷◌, ◌++◌, length, take, drop, Result, Ok, Err, inl, inr, refl, sym, ap, ◌∙◌, arith, length-append, length-drop, append-nil}
use Rattle.std.specs.List.{concat}
use Rattle.std.proofs.lemmas.Bool.{cases_lt, le-ltb, ltb-false, eqb-true}
use Rattle.std.proofs.lemmas.Bool.Decides.{eqb_tells}
use Rattle.std.proofs.lemmas.List.{take_at, drop_at, take_all, drop_all, length-take, take-append-drop, nil_from_length}
use Rattle.chunk_files.specs.declared.fault.ChunkFault.{ChunkFault}
use Rattle.chunk_files.specs.declared.fault.ChunkFault.TheVariants.{NoHeader}
use Rattle.chunk_files.specs.Format.{Format, Header, stored_size}
use Rattle.chunk_files.specs.Keys.{Keys, format_of, IsHeaderOf}
use Rattle.chunk_files.specs.Reading.{Whole, Faulty, Reading, ends}
use Rattle.chunk_files.specs.Contents.{read_chunk, read_from, read_on, read_behind, read_by, readable}
use Rattle.chunk_files.specs.FileOf.{IsStored, IsFullOrLast, BeginsWithChunk, AreStored, HasChunks, IsFileOf, Gives, FilesAreWhatTheyGive}
use Rattle.chunk_files.proofs.Tests.{both-true, some-bytes}
use Rattle.chunk_files.proofs.Tagging.{SealLaws}
use Rattle.chunk_files.proofs.Lawful.{IsLawful, lawful}
use Rattle.chunk_files.proofs.ChunkReadings.{read_from-nil, read_from-next}
use Rattle.chunk_files.proofs.StoredChunks.{read-stored, length-stored, stored-of-read}

-- all these chunks, and no fault
abbrev whole_reading : List (List ℕ) → Reading
whole_reading chunks = record { chunks = chunks; ending = Whole }

-- the first stored chunk of some bytes, and the rest
record IsFirst (size : ℕ) (bytes stored rest : List ℕ) : Type 0 where
  pub first : take size bytes ≡ stored
  pub behind : drop size bytes ≡ rest

-- the chunks that were read without a fault were stored
record WasStored (f : Format) (header : Header) (number : ℕ) (bytes : List ℕ) (reading : Reading) : Type 0 where
  pub of : reading.ending ≡ Whole → AreStored f header number bytes reading.chunks

module _ (f : Format) (IsHead : Header → List ℕ → Type 0) (law : IsLawful f IsHead) (header : Header) where
  some-stored : 0 < stored_size f
  some-stored = omega (arith, law.form.some_full)

  first-chunk : (bytes stored rest chunk : List ℕ) (chunks : List (List ℕ)) → bytes ≡ stored ++ rest → length stored ≡ f.seal_size + length chunk
      → IsFullOrLast f chunk chunks → (chunks ≡ [] → rest ≡ []) → IsFirst (stored_size f) bytes stored rest
  first-chunk bytes stored rest chunk chunks parts size full none = elim full [
    | inl whole ↦
        let long : length stored ≡ stored_size f = omega arith in
        record {
          first = ap (take (stored_size f)) parts ∙ take_at stored rest (stored_size f) long;
          behind = ap (drop (stored_size f)) parts ∙ drop_at stored rest (stored_size f) long;
        }
    | inr last ↦
        let empty : rest ≡ [] = none last.1 in
        let all : bytes ≡ stored = parts ∙ ap (λ (r : List ℕ). stored ++ r) empty ∙ append-nil stored in
        let within : length bytes ≤ stored_size f = omega (arith, ap length all, last.0) in
        record {
          first = take_all (stored_size f) bytes within ∙ all;
          behind = drop_all (stored_size f) bytes within ∙ sym empty;
        }
  ]

  -- where no chunk is left, no byte is
  no-chunks : (number : ℕ) (rest : List ℕ) (chunks : List (List ℕ)) → AreStored f header number rest chunks → chunks ≡ [] → rest ≡ []
  no-chunks number rest [] stored none = stored
  no-chunks number rest (chunk ∷ chunks) stored none = cc

  chunks-read : (number : ℕ) (bytes : List ℕ) (chunks : List (List ℕ)) → AreStored f header number bytes chunks
      → read_from f header number bytes false ≡ whole_reading chunks
  chunks-read number bytes [] stored = read_from-nil f header number bytes false (ap length stored)
  chunks-read number bytes (chunk ∷ chunks) stored =
      let rest : List ℕ = stored.1.0 in
      let begins : BeginsWithChunk f header number bytes chunk rest = stored.1.1 in
      let more : AreStored f header (number + 1) rest chunks = stored.1.2 in
      let size : length begins.stored ≡ f.seal_size + length chunk = length-stored f IsHead law header number begins.stored chunk begins.of in
      let first : IsFirst (stored_size f) bytes begins.stored rest =
      first-chunk bytes begins.stored rest chunk chunks begins.parts size stored.0 (no-chunks (number + 1) rest chunks more) in
      let some : 0 < length bytes = omega (arith, ap length begins.parts, length-append begins.stored rest, law.form.some_nonce, law.form.nonce_within) in
      read_from-next f header number bytes false some-stored some (λ cut. cc)
      ∙ rw (first.first, first.behind, read-stored f IsHead law header number begins.stored chunk begins.of, chunks-read (number + 1) rest chunks more) refl

  full-or-last : (number : ℕ) (bytes chunk : List ℕ) → IsStored f header number (take (stored_size f) bytes) chunk
      → IsFullOrLast f chunk (read_from f header (number + 1) (drop (stored_size f) bytes) false).chunks
  full-or-last number bytes chunk of =
      let size : length (take (stored_size f) bytes) ≡ f.seal_size + length chunk = length-stored f IsHead law header number (take (stored_size f) bytes) chunk of in
      elim (cases_lt (length bytes) (stored_size f)) [
        | inr whole ↦ inl (omega (arith, length-take (stored_size f) bytes))
        | inl last ↦
            let none : length (drop (stored_size f) bytes) ≡ 0 = omega (arith, length-drop (stored_size f) bytes) in
            inr (
              omega (arith, length-take (stored_size f) bytes),
              ap (λ (r : Reading). r.chunks) (read_from-nil f header (number + 1) (drop (stored_size f) bytes) false none),
            )
      ]

  read-more : (number : ℕ) (bytes : List ℕ) (read : Result (List ℕ) ChunkFault) → read_chunk f header number (take (stored_size f) bytes) ≡ read
      → WasStored f header (number + 1) (drop (stored_size f) bytes) (read_from f header (number + 1) (drop (stored_size f) bytes) false)
      → WasStored f header number bytes (read_on read (read_from f header (number + 1) (drop (stored_size f) bytes) false))
  read-more number bytes (Err fault) is rest = record { of = λ whole. cc }
  read-more number bytes (Ok chunk) is rest =
      let stored : IsStored f header number (take (stored_size f) bytes) chunk = stored-of-read f IsHead law header number (take (stored_size f) bytes) chunk is in
      record {
        of = λ whole. (
          full-or-last number bytes chunk stored,
          (drop (stored_size f) bytes, record { stored = take (stored_size f) bytes; parts = sym (take-append-drop (stored_size f) bytes); of = stored }, rest.of whole),
        );
      }

  read-chunks : (most number : ℕ) (bytes : List ℕ) → length bytes ≤ most → WasStored f header number bytes (read_from f header number bytes false)
  read-chunks zero number bytes within =
      let none : length bytes ≡ 0 = omega arith in
      rw (read_from-nil f header number bytes false none) (record { of = λ whole. nil_from_length bytes none })
  read-chunks (suc most) number bytes within = elim (cases_lt 0 (length bytes)) [
    | inr empty ↦
        let none : length bytes ≡ 0 = omega arith in
        rw (read_from-nil f header number bytes false none) (record { of = λ whole. nil_from_length bytes none })
    | inl some ↦
        let shorter : length (drop (stored_size f) bytes) ≤ most = omega (arith, length-drop (stored_size f) bytes, some-stored) in
        let rest = read-chunks most (number + 1) (drop (stored_size f) bytes) shorter in
        rw (read_from-next f header number bytes false some-stored some (λ cut. cc))
        (read-more number bytes (read_chunk f header number (take (stored_size f) bytes)) refl rest)
  ]

module _ (laws : SealLaws) (keys : Keys) (bytes content : List ℕ) where
  abbrev fk : Format
  fk = format_of keys

  abbrev IsHead : Header → List ℕ → Type 0
  IsHead = IsHeaderOf keys

  file-gives : IsFileOf keys bytes content → Gives keys bytes content
  unfolding read_by
  file-gives file = elim file [
    | inl empty ↦ record {
      whole = rw (empty.stored, empty.allowed) refl;
      joined = rw (empty.stored, empty.allowed) empty.plain;
    }
    | inr has ↦
        let law : IsLawful fk IsHead = lawful laws keys in
        let size : length has.head ≡ fk.header_size = law.head_size has.header has.head has.is_header in
        let long : fk.header_size ≤ length bytes = omega (arith, ap length has.parts, length-append has.head has.behind) in
        let some : (length bytes == 0) ≡ false = some-bytes bytes (omega (arith, law.form.some_header)) in
        let enough : nat_lt (length bytes) fk.header_size ≡ false = le-ltb (length bytes) fk.header_size long in
        let front : take fk.header_size bytes ≡ has.head = ap (take fk.header_size) has.parts ∙ take_at has.head has.behind fk.header_size size in
        let told : fk.read_header (take fk.header_size bytes) ≡ Ok has.header = ap fk.read_header front ∙ law.head_read has.header has.head has.is_header in
        let rest : drop fk.header_size bytes ≡ has.behind = ap (drop fk.header_size) has.parts ∙ drop_at has.head has.behind fk.header_size size in
        let reading : readable keys bytes ≡ whole_reading has.chunks =
        rw (some, enough, told, rest) (chunks-read fk IsHead law has.header 0 has.behind has.chunks has.of) in
        record {
          whole = ap (λ (r : Reading). r.ending) reading;
          joined = has.joined ∙ ap (λ (r : Reading). concat r.chunks) (sym reading);
        }
  ]

  -- a file whose header tells this
  file-told : (told : Result Header ChunkFault) → fk.header_size ≤ length bytes → fk.read_header (take fk.header_size bytes) ≡ told
      → (read_behind fk told (drop fk.header_size bytes) false).ending ≡ Whole
      → content ≡ concat (read_behind fk told (drop fk.header_size bytes) false).chunks → HasChunks keys bytes content
  file-told (Err fault) long is whole joined = cc
  file-told (Ok header) long is whole joined =
      let law : IsLawful fk IsHead = lawful laws keys in
      let behind : List ℕ = drop fk.header_size bytes in
      let size : length (take fk.header_size bytes) ≡ fk.header_size = omega (arith, length-take fk.header_size bytes) in
      let read : WasStored fk header 0 behind (read_from fk header 0 behind false) = read-chunks fk IsHead law header (length behind) 0 behind (omega arith) in
      record {
        header = header;
        head = take fk.header_size bytes;
        is_header = law.read_head header (take fk.header_size bytes) size is;
        behind = behind;
        parts = sym (take-append-drop fk.header_size bytes);
        chunks = (read_from fk header 0 behind false).chunks;
        of = read.of whole;
        joined = joined;
      }

  -- the file that a reading gives, by the tests that it meets
  file-by-tests : (empty short : Bool) → ((length bytes == 0) && fk.empty_has_no_header) ≡ empty → nat_lt (length bytes) fk.header_size ≡ short
      → Gives keys bytes content → IsFileOf keys bytes content
  unfolding read_by
  file-by-tests true short none long gives =
      let both = both-true (length bytes == 0) fk.empty_has_no_header none in
      let reading : readable keys bytes ≡ ends Whole = rw none refl in
      inl (record {
        allowed = both.1;
        stored = nil_from_length bytes (eqb-true (length bytes) 0 both.0);
        plain = gives.joined ∙ ap (λ (r : Reading). concat r.chunks) reading;
      })
  file-by-tests false true none long gives =
      let reading : readable keys bytes ≡ ends (Faulty NoHeader) = rw (none, long) refl in
      let whole : (ends (Faulty NoHeader)).ending ≡ Whole = ap (λ (r : Reading). r.ending) (sym reading) ∙ gives.whole in
      cc
  file-by-tests false false none long gives =
      let told : Result Header ChunkFault = fk.read_header (take fk.header_size bytes) in
      let reading : readable keys bytes ≡ read_behind fk told (drop fk.header_size bytes) false = rw (none, long) refl in
      inr (file-told told (ltb-false (length bytes) fk.header_size long) refl
      (ap (λ (r : Reading). r.ending) (sym reading) ∙ gives.whole)
      (gives.joined ∙ ap (λ (r : Reading). concat r.chunks) reading))

pub files_are_what_they_give : SealLaws → FilesAreWhatTheyGive
files_are_what_they_give laws keys bytes content =
    (file-gives laws keys bytes content, file-by-tests laws keys bytes content _ _ refl refl)
