-- What the bytes held and those that follow them give, step by step.
use Rattle.std.proofs.Common.{◌≡◌, ℕ, ◌+◌, ◌<◌, ◌≤◌, ◌==◌, ◌&&◌, nat_lt, min, Bool, true, false, cond, List, [], ◌∷◌, ◌++◌, length, take, drop, Option, Some, None, Result, Ok, Err, inl, inr, refl, sym, ap, ◌∙◌, arith, append-nil, length-append, IsSome}
use Rattle.std.proofs.lemmas.Bool.{cases_lt, eqb-true, le-ltb, lt-ltb}
use Rattle.std.proofs.lemmas.Bool.Decides.{eqb_tells}
use Rattle.std.proofs.lemmas.List.{take-append-le, drop-append-le, take_all, drop_all}
use Rattle.chunk_files.specs.declared.fault.ChunkFault.{ChunkFault}
use Rattle.chunk_files.specs.declared.fault.ChunkFault.TheVariants.{NoHeader}
use Rattle.chunk_files.specs.declared.step.Step.{Step}
use Rattle.chunk_files.specs.declared.step.Step.TheVariants.{More, Chunk, End}
use Rattle.chunk_files.specs.declared.told.Told.{Told}
use Rattle.chunk_files.specs.Told.{header_of, header_told}
use Rattle.chunk_files.specs.Format.{Header, stored_size}
use Rattle.chunk_files.specs.Keys.{Keys, format_of, IsHeaderOf}
use Rattle.chunk_files.specs.Reading.{Whole, Wanting, Faulty, ends}
use Rattle.chunk_files.specs.Contents.{read_by, read_behind, read_from, read_on, read_chunk}
use Rattle.chunk_files.specs.Decoding.{wanted, Decoding, GivesNext, LeavesAll, read_at}
use Rattle.chunk_files.proofs.Tests.{both-true, some-bytes}
use Rattle.chunk_files.proofs.Lawful.{IsLaidOut, laid_out}
use Rattle.chunk_files.proofs.LayoutSizes.{sizes_fit}
use Rattle.chunk_files.proofs.ChunkReadings.{read_from-nil, read_from-next, read_from-wanting}

-- where one has as much left to give as the other, a step of the other is one of the first
pub GivesNext-after : (d m d' : Decoding) (step : Result Step ChunkFault) (buffer : List ℕ) → m.ended ≡ d.ended → LeavesAll d m
    → GivesNext m step d' buffer → GivesNext d step d' buffer
GivesNext-after d m d' (Ok (Chunk size)) buffer same all gives =
    (gives.0, λ more goes_on follow. all more goes_on follow ∙ gives.1 more goes_on (λ ended. follow (sym same ∙ ended)))
GivesNext-after d m d' (Ok More) buffer same all gives =
    let on : d.ended ≡ false = sym same ∙ gives.0 in (
      on,
      all [] true (λ ended. (let no : true ≡ false = sym ended ∙ on in cc)) ∙ gives.1,
      λ more goes_on follow. all more goes_on follow ∙ gives.2 more goes_on (λ ended. follow (sym same ∙ ended)),
    )
GivesNext-after d m d' (Ok End) buffer same all gives = (
  sym same ∙ gives.0,
  all [] false (λ ended. (refl, refl)) ∙ gives.1,
  λ more goes_on follow. all more goes_on follow ∙ gives.2 more goes_on (λ ended. follow (sym same ∙ ended)),
)
GivesNext-after d m d' (Err fault) buffer same all gives = (
  λ more goes_on follow. all more goes_on follow ∙ gives.0 more goes_on (λ ended. follow (sym same ∙ ended)),
  λ more goes_on follow. all more goes_on follow ∙ gives.1 more goes_on (λ ended. follow (sym same ∙ ended)),
)

-- what is wanted fits a buffer
pub wanted-fits : (keys : Keys) (told : Option Header) → wanted keys told ≤ 32816
wanted-fits keys None = omega (arith, (sizes_fit keys).few_header)
wanted-fits keys (Some header) = omega (arith, (sizes_fit keys).few_stored)

module _ (keys : Keys) where
  law : IsLaidOut (format_of keys) (IsHeaderOf keys)
  law = laid_out keys

  pub some-stored : 0 < stored_size (format_of keys)
  some-stored = omega (arith, law.some_full)

  -- ---- the header

  -- a whole header that tells this or has this fault
  pub header-read : (told : Result Header ChunkFault) (held more : List ℕ) (goes_on : Bool) → (format_of keys).header_size ≤ length held
      → told ≡ (format_of keys).read_header (take (format_of keys).header_size held)
      → read_by (format_of keys) (held ++ more) goes_on ≡ read_behind (format_of keys) told (drop (format_of keys).header_size held ++ more) goes_on
  unfolding read_by
  header-read told held more goes_on long is =
      let h : ℕ = (format_of keys).header_size in
      let all : h ≤ length (held ++ more) = omega (arith, length-append held more) in
      let some : (length (held ++ more) == 0) ≡ false = some-bytes (held ++ more) (omega (arith, law.some_header)) in
      rw (some, le-ltb (length (held ++ more)) h all, take-append-le h held more long, drop-append-le h held more long, ← is) refl

  -- less than a header, of a file that goes on
  pub header-wanting : (held : List ℕ) → length held < (format_of keys).header_size → read_by (format_of keys) (held ++ []) true ≡ ends Wanting
  unfolding read_by
  header-wanting held less = by ((length (held ++ []) == 0) && (format_of keys).empty_has_no_header)
    where
      by : (empty : Bool) → cond empty (ends Wanting) (cond (nat_lt (length (held ++ [])) (format_of keys).header_size) (ends Wanting)
          (read_behind (format_of keys) ((format_of keys).read_header (take (format_of keys).header_size (held ++ []))) (drop (format_of keys).header_size (held ++ [])) true)) ≡ ends Wanting
      by true = refl
      by false = rw (lt-ltb (length (held ++ [])) (format_of keys).header_size (omega (arith, ap length (append-nil held)))) refl

  -- no byte of a file that needs no header for no content
  pub header-none : (held : List ℕ) → length held ≡ 0 → (format_of keys).empty_has_no_header ≡ true → read_by (format_of keys) (held ++ []) false ≡ ends Whole
  unfolding read_by
  header-none [] none allowed = rw allowed refl
  header-none (x ∷ xs) none allowed = absurd (omega arith)

  -- less than a header, and the file has ended
  pub header-missing : (held : List ℕ) → length held < (format_of keys).header_size → ((length held == 0) && (format_of keys).empty_has_no_header) ≡ false
      → read_by (format_of keys) (held ++ []) false ≡ ends (Faulty NoHeader)
  unfolding read_by
  header-missing held less some =
      rw (append-nil held, some, lt-ltb (length held) (format_of keys).header_size less) refl

  -- ---- the chunks

  -- a chunk and what stands behind it, where fewer bytes than a whole one may be held
  cut-alike : (cut : ℕ → List ℕ → List ℕ) (n : ℕ) (held : List ℕ) (size : ℕ) → size ≡ min (length held) n → (length held ≤ n → cut n held ≡ cut (length held) held) → cut n held ≡ cut size held
  cut-alike cut n held size is all = elim (cases_lt (length held) n) [
    | inl less ↦ all (omega arith) ∙ ap (λ (m : ℕ). cut m held) (omega arith)
    | inr long ↦ ap (λ (m : ℕ). cut m held) (omega arith)
  ]

  pub front-same : (n : ℕ) (held : List ℕ) (size : ℕ) → size ≡ min (length held) n → take n held ≡ take size held
  front-same n held size is = cut-alike take n held size is (λ few. take_all n held few ∙ sym (take_all (length held) held (omega arith)))

  -- less than a chunk, of a file that goes on; and no byte, where the file has ended
  pub chunks-wanting : (told : Option Header) (header : Header) (number : ℕ) (held : List ℕ) → told ≡ Some header
      → length held < stored_size (format_of keys) → read_at keys told number (held ++ []) true ≡ ends Wanting
  chunks-wanting told header number held is less =
      rw (is, append-nil held) (read_from-wanting (format_of keys) header number held less)

  pub chunks-none : (told : Option Header) (header : Header) (number : ℕ) (held : List ℕ) → told ≡ Some header
      → length held ≡ 0 → read_at keys told number (held ++ []) false ≡ ends Whole
  chunks-none told header number held is none =
      rw (is, append-nil held) (read_from-nil (format_of keys) header number held false none)

  module _ (header : Header) (number : ℕ) where
    -- the chunk at the front of what is held, whole or the last
    pub chunk-read : (read : Result (List ℕ) ChunkFault) (held more : List ℕ) (ended goes_on : Bool) (size : ℕ)
        → 0 < length held → (ended ≡ false → stored_size (format_of keys) ≤ length held) → size ≡ min (length held) (stored_size (format_of keys))
        → read_chunk (format_of keys) header number (take size held) ≡ read
        → (ended ≡ true → (more ≡ []) × (goes_on ≡ false))
        → read_from (format_of keys) header number (held ++ more) goes_on ≡ read_on read (read_from (format_of keys) header (number + 1) (drop size held ++ more) goes_on)
    chunk-read read held more false goes_on size some whole is reads follow =
        let n : ℕ = stored_size (format_of keys) in
        let long : n ≤ length held = whole refl in
        let same : size ≡ n = omega arith in
        let room : 0 < n = omega (arith, law.some_full) in
        let all : n ≤ length (held ++ more) = omega (arith, length-append held more) in
        read_from-next (format_of keys) header number (held ++ more) goes_on room (omega arith) (λ cut. all)
        ∙ rw (take-append-le n held more long, drop-append-le n held more long, ← same, reads) refl
    chunk-read read held more true goes_on size some whole is reads follow =
        let n : ℕ = stored_size (format_of keys) in
        let room : 0 < n = omega (arith, law.some_full) in
        let nothing = follow refl in
        let front : take n held ≡ take size held = front-same n held size is in
        let behind : drop n held ≡ drop size held = cut-alike drop n held size is (λ few. drop_all n held few ∙ sym (drop_all (length held) held (omega arith))) in
        rw (nothing.0, nothing.1, append-nil held, append-nil (drop size held))
        (read_from-next (format_of keys) header number held false room some (λ cut. cc)
        ∙ rw (front, behind, reads) refl)

  pub chunk-read-at : (told : Option Header) (header : Header) (number : ℕ) (read : Result (List ℕ) ChunkFault) (held more : List ℕ) (ended goes_on : Bool) (size : ℕ)
      → told ≡ Some header → 0 < length held → (ended ≡ false → stored_size (format_of keys) ≤ length held) → size ≡ min (length held) (stored_size (format_of keys))
      → read_chunk (format_of keys) header number (take size held) ≡ read
      → (ended ≡ true → (more ≡ []) × (goes_on ≡ false))
      → read_at keys told number (held ++ more) goes_on ≡ read_on read (read_at keys told (number + 1) (drop size held ++ more) goes_on)
  chunk-read-at told header number read held more ended goes_on size is some whole place reads follow =
      rw is (chunk-read header number read held more ended goes_on size some whole place reads follow)

  -- ---- a step before the header

  abbrev before : ℕ → ℕ → List ℕ → Bool → Decoding
  before number taken held ended = record { keys = keys; header = None; number = number; taken = taken; held = held; ended = ended }

  pub before-header : (number taken : ℕ) (held : List ℕ) (ended whole : Bool) → length held < (format_of keys).header_size
      → whole ≡ ((length held == 0) && (format_of keys).empty_has_no_header)
      → GivesNext (before number taken held ended) (cond ended (cond whole (Ok End) (Err NoHeader)) (Ok More)) (before number taken held ended) []
  before-header number taken held false whole less is = (refl, header-wanting held less, λ more goes_on follow. refl)
  before-header number taken held true true less is =
      let both = both-true (length held == 0) (format_of keys).empty_has_no_header (sym is) in
      (refl, header-none held (eqb-true (length held) 0 both.0) both.1, λ more goes_on follow. refl)
  before-header number taken held true false less is = (
    λ more goes_on follow. (let nothing = follow refl in rw (nothing.0, nothing.1) (header-missing held less (sym is))),
    λ more goes_on follow. refl,
  )

  pub before-header-at : (told : Option Header) (number taken : ℕ) (held : List ℕ) (ended whole : Bool) → told ≡ None → length held < (format_of keys).header_size
      → whole ≡ ((length held == 0) && (format_of keys).empty_has_no_header)
      → (let d : Decoding = record { keys = keys; header = told; number = number; taken = taken; held = held; ended = ended } in
      GivesNext d (cond ended (cond whole (Ok End) (Err NoHeader)) (Ok More)) d [])
  before-header-at told number taken held ended whole none less is = rw none (before-header number taken held ended whole less is)

  pub header-told-at : (told : Option Header) (header : Header) (number : ℕ) (held more : List ℕ) (goes_on : Bool) → told ≡ None → number ≡ 0
      → (format_of keys).header_size ≤ length held → Ok header ≡ (format_of keys).read_header (take (format_of keys).header_size held)
      → read_at keys told number (held ++ more) goes_on ≡ read_from (format_of keys) header number (drop (format_of keys).header_size held ++ more) goes_on
  header-told-at told header number held more goes_on none first long is = rw (none, first) (header-read (Ok header) held more goes_on long is)

  pub header-fault-at : (told : Option Header) (fault : ChunkFault) (number : ℕ) (held more : List ℕ) (goes_on : Bool) → told ≡ None
      → (format_of keys).header_size ≤ length held → Err fault ≡ (format_of keys).read_header (take (format_of keys).header_size held)
      → read_at keys told number (held ++ more) goes_on ≡ ends (Faulty fault)
  header-fault-at told fault number held more goes_on none long is = rw none (header-read (Err fault) held more goes_on long is)

-- what a header told stands there
pub some-told : (is_told : Bool) (what : Told) → IsSome (header_told is_told what) → header_told is_told what ≡ Some (header_of what)
some-told true what some = refl
some-told false what some = absurd (let no : false ≡ true = some in cc)
