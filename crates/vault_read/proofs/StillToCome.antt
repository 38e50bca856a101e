-- What is still to come of a file that is fed to a decoder piece by piece. The limit is a variable here.
use Rattle.std.proofs.Common.{◌≡◌, ℕ, zero, suc, ◌+◌, ◌-◌, ◌≤◌, ◌<◌, min, ◌∷◌, replicate, nat_lt, Bool, true, false, if◌then◌else◌, List, [], ◌++◌, length, take, drop, Ok, Err, refl, sym, ap, ap₂, ◌∙◌, arith, append_assoc}
use Rattle.std.proofs.lemmas.Bool.{le-ltb, lt-ltb}
use Rattle.std.proofs.lemmas.List.{drop_all, drop-take, drop-drop, take-take, take-append-drop, length-take, length-drop, take_all, take_at}
use Rattle.chunk_files.specs.declared.fault.ChunkFault.{ChunkFault}
use Rattle.chunk_files.specs.declared.step.Step.TheVariants.{More, Chunk, End}
use Rattle.chunk_files.specs.Reading.{Ending, Reading, Whole, Wanting, Faulty, ends, chunk_before}
use Rattle.chunk_files.specs.Decoding.{Decoding, GivesNext, LeavesAll, MayFollow, chunks_before, left, read_at}
use Rattle.folder_spec.specs.View.{Found, FileOf}
use Rattle.folder_model.specs.Answers.{Reads}
use Rattle.vault_read.specs.Contents.{Suits, Passes, Stops, still}
use Rattle.vault_faults.specs.Limits.{content_limit}
use Rattle.vault_read.specs.Reading.{FeedsOn, PassesOver}

abbrev pub still_of : ℕ → Decoding → List ℕ → Reading
still_of limit d bytes = left d (drop d.taken (take limit bytes)) (nat_lt limit (length bytes))

-- the bytes behind the first t, a piece of them and the rest
seam : (t n limit : ℕ) (xs : List ℕ) → t + n ≤ limit → drop t (take limit xs) ≡ take n (drop t xs) ++ drop (t + n) (take limit xs)
seam t n limit xs within =
    let sum : t + (limit - t) ≡ limit = omega arith in
    let few : n ≤ limit - t = omega arith in
    let front : take n (drop t (take limit xs)) ≡ take n (drop t xs) =
    ap (λ (m : ℕ). take n (drop t (take m xs))) (sym sum) ∙ ap (take n) (drop-take t (limit - t) xs) ∙ take-take n (limit - t) (drop t xs) few in
    sym (take-append-drop n (drop t (take limit xs))) ∙ ap₂ (λ (a b : List ℕ). a ++ b) front (drop-drop n t (take limit xs))

module _ (limit : ℕ) (d : Decoding) (bytes : List ℕ) where
  pub may_follow : Suits d bytes → d.taken ≤ limit → MayFollow d (drop d.taken (take limit bytes)) (nat_lt limit (length bytes))
  may_follow s within = λ ended.
      let all : length bytes ≤ d.taken = s.whole ended in
      (drop_all d.taken (take limit bytes) (omega (arith, length-take limit bytes)), le-ltb limit (length bytes) (omega arith))

  -- a step that leaves all
  pub still_left : (d2 : Decoding) → Suits d bytes → d.taken ≤ limit → LeavesAll d d2 → d2.taken ≡ d.taken → still_of limit d bytes ≡ still_of limit d2 bytes
  still_left d2 s within all same =
      all (drop d.taken (take limit bytes)) (nat_lt limit (length bytes)) (may_follow s within)
      ∙ ap (λ (n : ℕ). left d2 (drop n (take limit bytes)) (nat_lt limit (length bytes))) (sym same)

  -- a step that gives a chunk
  pub still_chunk : (d2 : Decoding) (size : ℕ) (buffer : List ℕ) → Suits d bytes → d.taken ≤ limit → GivesNext d (Ok (Chunk size)) d2 buffer → d2.taken ≡ d.taken
      → still_of limit d bytes ≡ chunk_before (take size buffer) (still_of limit d2 bytes)
  still_chunk d2 size buffer s within gives same =
      gives.1 (drop d.taken (take limit bytes)) (nat_lt limit (length bytes)) (may_follow s within)
      ∙ ap (λ (n : ℕ). chunk_before (take size buffer) (left d2 (drop n (take limit bytes)) (nat_lt limit (length bytes)))) (sym same)

  -- a piece that is fed
  pub still_fed : (n : ℕ) → d.taken + n ≤ limit → still_of limit d bytes ≡ still_of limit (record d { taken = d.taken + n; held = d.held ++ take n (drop d.taken bytes) }) bytes
  still_fed n within =
      ap (λ (xs : List ℕ). read_at d.keys d.header d.number xs (nat_lt limit (length bytes)))
      (ap (λ (xs : List ℕ). d.held ++ xs) (seam d.taken n limit bytes within) ∙ sym (append_assoc d.held (take n (drop d.taken bytes)) (drop (d.taken + n) (take limit bytes))))

  -- the file's end
  pub still_end : (d2 : Decoding) (buffer : List ℕ) → Suits d bytes → d.taken ≤ limit → GivesNext d (Ok End) d2 buffer → still_of limit d bytes ≡ ends Whole
  still_end d2 buffer s within gives =
      let may = may_follow s within gives.0 in
      ap₂ (λ (more : List ℕ) (goes_on : Bool). left d more goes_on) may.0 may.1 ∙ gives.1

  -- a damaged chunk
  pub still_fault : (d2 : Decoding) (fault : ChunkFault) (buffer : List ℕ) → Suits d bytes → d.taken ≤ limit → GivesNext d (Err fault) d2 buffer → still_of limit d bytes ≡ ends (Faulty fault)
  still_fault d2 fault buffer s within gives = gives.0 (drop d.taken (take limit bytes)) (nat_lt limit (length bytes)) (may_follow s within)

  -- more is wanted than the limit lets be read
  pub still_wanting : (d2 : Decoding) (buffer : List ℕ) → d.taken ≡ limit → limit < length bytes → GivesNext d (Ok More) d2 buffer → still_of limit d bytes ≡ ends Wanting
  still_wanting d2 buffer all longer gives =
      let none : drop d.taken (take limit bytes) ≡ [] = drop_all d.taken (take limit bytes) (omega (arith, length-take limit bytes)) in
      ap₂ (λ (more : List ℕ) (goes_on : Bool). left d more goes_on) none (lt-ltb limit (length bytes) longer) ∙ gives.1

-- ---- what a read gives

-- fewer bytes than there is room for are read at a file's end alone
pub read_short : (there : Found) (bytes old new : List ℕ) (start n : ℕ) → there ≡ FileOf bytes → Reads there start old new n → n < length old → length bytes ≤ start + n
read_short there bytes old new start n is (other, file, count, put) short =
    let same : other ≡ bytes = (let both : FileOf other ≡ FileOf bytes = sym file ∙ is in cc both) in
    omega (arith, count, short, ap length same)

-- a piece
pub read_some : (there : Found) (bytes old new : List ℕ) (start n : ℕ) → there ≡ FileOf bytes → Reads there start old new n → start ≤ length bytes
    → (take n new ≡ take n (drop start bytes)) × (start + n ≤ length bytes) × (n ≤ length old)
read_some there bytes old new start n is (other, file, count, put) within =
    let same : other ≡ bytes = (let both : FileOf other ≡ FileOf bytes = sym file ∙ is in cc both) in
    let more : start + n ≤ length bytes = omega (arith, count, ap length same) in
    let few : n ≤ length old = omega (arith, count) in
    let size : length (take n (drop start bytes)) ≡ n = length-take n (drop start bytes) ∙ (let least : min n (length (drop start bytes)) ≡ n = omega (arith, more, length-drop start bytes) in least) in
    (ap (take n) (put ∙ ap (λ (xs : List ℕ). take n (drop start xs) ++ drop n old) same) ∙ take_at (take n (drop start bytes)) (drop n old) n size, more, few)

-- the end is told behind all bytes
pub feeds_end : (bytes : List ℕ) (d d2 : Decoding) → d2 ≡ record d { ended = true } → Suits d bytes → length bytes ≤ d.taken → FeedsOn bytes d d2
feeds_end bytes d d2 is s all = rw is (record { suits = record { front = s.front; whole = λ ended. all }; same = refl })

-- a piece is fed
pub feeds_piece : (bytes piece : List ℕ) (d d2 : Decoding) (n : ℕ) → piece ≡ take n (drop d.taken bytes) → d2 ≡ record d { taken = d.taken + n; held = d.held ++ piece } → d.ended ≡ false
    → d.taken + n ≤ content_limit → d.taken + n ≤ length bytes → FeedsOn bytes d d2
feeds_piece bytes piece d d2 n front is on within there =
    let whole : record d { taken = d.taken + n; held = d.held ++ piece } ≡ record d { taken = d.taken + n; held = d.held ++ take n (drop d.taken bytes) } =
    ap (λ (xs : List ℕ). record d { taken = d.taken + n; held = d.held ++ xs }) front in
    rw (is ∙ whole) (record {
      suits = record { front = there; whole = λ ended. (let no : true ≡ false = sym ended ∙ on in cc) };
      same = still_fed content_limit d bytes n within;
    })

-- what was read is fed
pub feeds_read : (there : Found) (bytes old new : List ℕ) (d d2 : Decoding) (start n fed : ℕ) → there ≡ FileOf bytes → Reads there start old new n → Suits d bytes
    → start ≡ d.taken → d.ended ≡ false → n ≤ length new → length d.held + length old ≤ 32816 → start + length old ≤ content_limit
    → fed ≡ (if d.ended then 0 else min (length (take n new)) (32816 - length d.held))
    → d2 ≡ record d { taken = d.taken + fed; held = d.held ++ take fed (take n new) } → FeedsOn bytes d d2 × (d2.taken ≡ start + n)
feeds_read there bytes old new d d2 start n fed file reads s from on within room few count is =
    let r = read_some there bytes old new start n file reads (omega (arith, s.front, from)) in
    let size : length (take n new) ≡ n = omega (arith, length-take {A = ℕ} n new, within) in
    let least : fed ≡ min (length (take n new)) (32816 - length d.held) = rw on at count in
    let all : fed ≡ n = omega (arith, least, size, room, r.2) in
    let whole : take fed (take n new) ≡ take n new = take_all fed (take n new) (omega (arith, all, size)) in
    let now : d2 ≡ record d { taken = d.taken + n; held = d.held ++ take n new } =
    is ∙ ap₂ (λ (m : ℕ) (b : List ℕ). record d { taken = d.taken + m; held = d.held ++ b }) all whole in (
      feeds_piece bytes (take n new) d d2 n (r.0 ∙ ap (λ (m : ℕ). take n (drop m bytes)) from) now on (omega (arith, r.2, few, from)) (omega (arith, r.1, from)),
      ap (λ (e : Decoding). e.taken) now ∙ ap (λ (m : ℕ). m + n) (sym from),
    )

-- and nothing is left behind it
pub feeds_rest : (bytes : List ℕ) (d d2 d3 : Decoding) → FeedsOn bytes d d2 → d3 ≡ record d2 { ended = true } → length bytes ≤ d2.taken → FeedsOn bytes d d3
feeds_rest bytes d d2 d3 fed is all =
    let end = feeds_end bytes d2 d3 is fed.suits all in
    record { suits = end.suits; same = fed.same ∙ end.same }

-- ---- chunks without bytes that are passed over

empty_first : (k : ℕ) (chunks : List (List ℕ)) → replicate {A = List ℕ} k [] ++ ([] ∷ chunks) ≡ [] ∷ (replicate k [] ++ chunks)
empty_first zero chunks = refl
empty_first (suc k) chunks = ap (λ (cs : List (List ℕ)). [] ∷ cs) (empty_first k chunks)

pub passes_empty : (before mid after : Reading) → Passes before mid → mid ≡ chunk_before [] after → Passes before after
passes_empty before mid after (k, is) empty =
    (suc k, is ∙ ap (chunks_before (replicate k [])) empty ∙ ap (λ (cs : List (List ℕ)). record { chunks = cs; ending = after.ending }) (empty_first k after.chunks))

pub passes_as : (before mid after : Reading) → Passes before mid → mid ≡ after → Passes before after
passes_as before mid after (k, is) same = (k, is ∙ ap (chunks_before (replicate k [])) same)

pub suits_as : (d d2 : Decoding) (bytes : List ℕ) → d2.taken ≡ d.taken → d2.ended ≡ d.ended → Suits d bytes → Suits d2 bytes
suits_as d d2 bytes taken ended s = record { front = omega (arith, s.front, taken); whole = λ e. omega (arith, s.whole (sym ended ∙ e), taken) }

module _ (bytes : List ℕ) (d0 d d2 : Decoding) (p : PassesOver bytes d0 d) (within : d.taken ≤ content_limit) (taken : d2.taken ≡ d.taken) (ended : d2.ended ≡ d.ended) where
  -- a step that gave nothing
  pub over_left : LeavesAll d d2 → PassesOver bytes d0 d2
  over_left all = record {
    suits = suits_as d d2 bytes taken ended p.suits;
    passes = passes_as (still d0 bytes) (still d bytes) (still d2 bytes) p.passes (still_left content_limit d bytes d2 p.suits within all taken);
  }

  -- a chunk without bytes
  pub over_empty : (buffer : List ℕ) → GivesNext d (Ok (Chunk 0)) d2 buffer → PassesOver bytes d0 d2
  over_empty buffer gives = record {
    suits = suits_as d d2 bytes taken ended p.suits;
    passes = passes_empty (still d0 bytes) (still d bytes) (still d2 bytes) p.passes (still_chunk content_limit d bytes d2 0 buffer p.suits within gives taken);
  }

  -- one with bytes
  pub over_chunk : (size : ℕ) (buffer : List ℕ) → GivesNext d (Ok (Chunk size)) d2 buffer
      → Suits d2 bytes × Passes (still d0 bytes) (chunk_before (take size buffer) (still d2 bytes))
  over_chunk size buffer gives = (
    suits_as d d2 bytes taken ended p.suits,
    passes_as (still d0 bytes) (still d bytes) (chunk_before (take size buffer) (still d2 bytes)) p.passes (still_chunk content_limit d bytes d2 size buffer p.suits within gives taken),
  )

  -- nothing more is given
  stops : (ending : Ending) → still d bytes ≡ ends ending → LeavesAll d d2 → Suits d2 bytes × Stops ending (still d0 bytes) (still d2 bytes)
  stops ending is all = (
    suits_as d d2 bytes taken ended p.suits,
    (passes_as (still d0 bytes) (still d bytes) (ends ending) p.passes is, sym (still_left content_limit d bytes d2 p.suits within all taken) ∙ is),
  )

  pub over_end : (buffer : List ℕ) → GivesNext d (Ok End) d2 buffer → Suits d2 bytes × Stops Whole (still d0 bytes) (still d2 bytes)
  over_end buffer gives = stops Whole (still_end content_limit d bytes d2 buffer p.suits within gives) gives.2

  pub over_fault : (fault : ChunkFault) (buffer : List ℕ) → GivesNext d (Err fault) d2 buffer → Suits d2 bytes × Stops (Faulty fault) (still d0 bytes) (still d2 bytes)
  over_fault fault buffer gives = stops (Faulty fault) (still_fault content_limit d bytes d2 fault buffer p.suits within gives) gives.1

  pub over_limit : (buffer : List ℕ) → GivesNext d (Ok More) d2 buffer → d.taken ≡ content_limit → content_limit < length bytes → Suits d2 bytes × Stops Wanting (still d0 bytes) (still d2 bytes)
  over_limit buffer gives all longer = stops Wanting (still_wanting content_limit d bytes d2 buffer all longer gives) gives.2

-- more of the file was fed
pub over_fed : (bytes : List ℕ) (d0 d d2 : Decoding) → PassesOver bytes d0 d → FeedsOn bytes d d2 → PassesOver bytes d0 d2
over_fed bytes d0 d d2 p f = record { suits = f.suits; passes = passes_as (still d0 bytes) (still d bytes) (still d2 bytes) p.passes f.same }
