-- What holds of an answer, from what was fed, given and written.
use Rattle.std.proofs.Common.{◌≡◌, ℕ, zero, suc, ◌+◌, ◌-◌, ◌≤◌, nat_lt, Bool, true, false, List, [], ◌∷◌, ◌++◌, length, take, Option, None, Some, inl, inr, refl, sym, ap, ◌∙◌, subst, arith, append-nil, append_assoc, length-append, length-take}
use Rattle.std.specs.List.{concat}
use Rattle.std.specs.Io.KnownBytes.{Appends, Consumes, IsAtEnd, Keeps}
use Rattle.std.proofs.KnownBytes.{Appends-nil, Consumes-kept, Consumes-nil, Consumes-trans}
use Rattle.std.proofs.Math.Seq.{take-append-add, take-append_seam}
use Rattle.std.proofs.lemmas.Bool.{le-ltb, lt-ltb}
use Rattle.std.proofs.lemmas.List.{nil_from_length, take_all, take_min, take-append-le}
use Rattle.std.proofs.lemmas.List.Folds.{concat-append}
use Rattle.chunk_files.specs.declared.fault.ChunkFault.{ChunkFault}
use Rattle.chunk_files.specs.Format.{Header}
use Rattle.chunk_files.specs.Gocryptfs.{go_format}
use Rattle.chunk_files.specs.Keys.{Keys, go_keys}
use Rattle.port_model.specs.Told.{AppendsPrefix}
use Rattle.chunk_files.specs.Reading.{Ending, Reading, Whole, Wanting, Faulty, ends}
use Rattle.chunk_files.specs.Contents.{read_file}
use Rattle.chunk_files.specs.Decoding.{Decoding, HasGiven, IsPlaced, MayFollow, chunks_before, left, started, stored_end}
use Rattle.reading_commands.specs.declared.decrypting.DecryptEnd.{DecryptEnd}
use Rattle.reading_commands.specs.declared.decrypting.DecryptEnd.TheVariants.{Done, OutOfMemory, InputFault, OutputFault, Damaged, TooLong}
use Rattle.reading_commands.specs.Inputs.{TakesAtMost, input_limit}
use Rattle.reading_commands.specs.Decrypts.{TakesNear, end_of_chunks, input_reading}
use Rattle.reading_commands.specs.Streaming.{AppendsPart, Drains, HasFailed, HasWritten, Outcome, Streams}

-- the reading of an input of which so much was fed
reading-of : (key input fed rest : List ℕ) (limit : ℕ) (chunks : List (List ℕ)) (d : Decoding) → HasGiven (go_keys key) fed chunks d
    → input ≡ fed ++ rest → length fed ≤ limit → (d.ended ≡ true → rest ≡ [])
    → read_file (go_keys key) (take limit input) (nat_lt limit (length input)) ≡ chunks_before chunks (left d (take (limit - length fed) rest) (nat_lt limit (length input)))
reading-of key input fed rest limit chunks d given parts within end =
    let sum : length fed + (limit - length fed) ≡ limit = omega arith in
    let front : take limit input ≡ fed ++ take (limit - length fed) rest =
    ap (take limit) parts ∙ ap (λ (n : ℕ). take n (fed ++ rest)) (sym sum) ∙ take-append-add fed rest (limit - length fed) in
    let follow : MayFollow d (take (limit - length fed) rest) (nat_lt limit (length input)) = λ ended.
    let none : rest ≡ [] = end ended in
    let all : length input ≤ limit = omega (arith, ap length parts, length-append fed rest, ap length none) in
    (ap (take (limit - length fed)) none ∙ take_all (limit - length fed) [] (omega arith), le-ltb limit (length input) all) in
    ap (λ (bytes : List ℕ). read_file (go_keys key) bytes (nat_lt limit (length input))) front
    ∙ given.first (take (limit - length fed) rest) (nat_lt limit (length input)) follow

-- the chunks given are the first
first-chunks : (chunks : List (List ℕ)) (rest : Reading) → take (length chunks) (chunks_before chunks rest).chunks ≡ chunks
first-chunks chunks rest = take-append_seam chunks rest.chunks

-- what stands in front of a whole stands in front of its parts
part-of : (front last behind part : List ℕ) → AppendsPart last part → take (length front + length part) (front ++ (last ++ behind)) ≡ front ++ part
part-of front last behind part p =
    let short : length part ≤ length last = omega (arith, ap length p.is, length-take p.count last) in
    let inner : take (length part) last ≡ part = part-again last part p.count p.is in
    take-append-add front (last ++ behind) (length part)
    ∙ ap (λ (x : List ℕ). front ++ x) (take-append-le (length part) last behind short ∙ inner)
  where
    part-again : (xs ys : List ℕ) (n : ℕ) → ys ≡ take n xs → take (length ys) xs ≡ ys
    part-again xs ys n is = ap (λ (m : ℕ). take m xs) (ap length is ∙ length-take n xs) ∙ take_min n xs ∙ sym is

-- the stored end of the chunks given, and of one fewer
near-end : (key input : List ℕ) (told : Option Header) (number held taken : ℕ) → taken ≤ stored_end (go_keys key) told number + held → held ≤ 32816
    → taken ≤ length input → taken ≤ end_of_chunks (go_format key) input number + 98448
near-end key input None number held taken near few within = omega arith
near-end key input (Some header) zero held taken near few within = omega arith
near-end key input (Some header) (suc k) held taken near few within = omega arith

near-last : (key input : List ℕ) (told : Option Header) (number held taken : ℕ) → taken ≤ stored_end (go_keys key) told (number + 1) + held → held ≤ 32816
    → taken ≤ length input → taken ≤ end_of_chunks (go_format key) input number + 98448
near-last key input None number held taken near few within = omega arith
near-last key input (Some header) zero held taken near few within = omega arith
near-last key input (Some header) (suc k) held taken near few within = omega arith

module _ (key : List ℕ) where
  takes-of : (at at' taken taken' : Option (List ℕ)) (d : Decoding) (chunks : List (List ℕ)) (written : List ℕ) → Streams key at at' taken taken' d chunks written
      → d.taken ≤ input_limit → TakesAtMost (input_limit + 1) at at'
  takes-of at at' taken taken' d chunks written s within = (s.fed, omega (arith, s.count), s.consumed)

  -- ---- with an input that is told

  module _ (input rest : List ℕ) (taken taken' : Option (List ℕ)) (d : Decoding) (chunks : List (List ℕ)) (written : List ℕ)
      (s : Streams key (Some input) (Some rest) taken taken' d chunks written) (within : d.taken ≤ input_limit) (end : d.ended ≡ true → rest ≡ []) where
    reading-is : input_reading key input ≡ chunks_before chunks (left d (take (input_limit - length s.fed) rest) (nat_lt input_limit (length input)))
    reading-is = reading-of key input s.fed rest input_limit chunks d s.given s.consumed (omega (arith, s.count)) end

    may : MayFollow d (take (input_limit - length s.fed) rest) (nat_lt input_limit (length input))
    may = λ ended.
        let none : rest ≡ [] = end ended in
        let all : length input ≤ input_limit = omega (arith, ap length s.consumed, length-append s.fed rest, ap length none, s.count) in
        (ap (take (input_limit - length s.fed)) none ∙ take_all (input_limit - length s.fed) [] (omega arith), le-ltb input_limit (length input) all)

    reading-chunks : take (length chunks) (input_reading key input).chunks ≡ chunks
    reading-chunks = ap (λ (r : Reading). take (length chunks) r.chunks) reading-is ∙ first-chunks chunks (left d (take (input_limit - length s.fed) rest) (nat_lt input_limit (length input)))

    taken-within : d.taken ≤ length input
    taken-within = omega (arith, s.count, ap length s.consumed, length-append s.fed rest)

    -- how the reading ends
    ended-reading : (e : Ending) → left d (take (input_limit - length s.fed) rest) (nat_lt input_limit (length input)) ≡ ends e
        → input_reading key input ≡ record { chunks = chunks; ending = e }
    ended-reading e is = reading-is ∙ ap (chunks_before chunks) is ∙ ap (λ (cs : List (List ℕ)). record { chunks = cs; ending = e }) (append-nil chunks)

    near-whole : (front : List (List ℕ)) (behind : List ℕ) → take (length front) (input_reading key input).chunks ≡ front
        → written ≡ concat front ++ behind → d.taken ≤ end_of_chunks (go_format key) input (length front) + 98448
        → TakesNear key input (Some input) (Some rest) taken taken'
    near-whole front behind firsts parts close = record {
      whole = length front;
      given = omega (arith, ap length firsts, length-take (length front) (input_reading key input).chunks);
      behind = behind;
      wrote = subst (Appends taken taken') (parts ∙ ap (λ (cs : List (List ℕ)). concat cs ++ behind) (sym firsts)) s.wrote;
      eaten = s.fed;
      consumed = s.consumed;
      near = omega (arith, s.count, close);
    }

    -- all that was given was written
    near-given : written ≡ concat chunks → TakesNear key input (Some input) (Some rest) taken taken'
    near-given all =
        let close : d.taken ≤ stored_end (go_keys key) d.header (length chunks) + length d.held =
        subst (λ (k : Keys). d.taken ≤ stored_end k d.header (length chunks) + length d.held) s.keys (subst (λ (n : ℕ). d.taken ≤ stored_end d.keys d.header n + length d.held) s.given.count s.placed.near) in
        near-whole chunks [] reading-chunks (all ∙ sym (append-nil (concat chunks)))
        (near-end key input d.header (length chunks) (length d.held) d.taken close s.placed.few taken-within)

  -- the last chunk was written in part
  module _ (input rest : List ℕ) (taken taken' : Option (List ℕ)) (d : Decoding) (f : HasFailed key (Some input) (Some rest) taken taken' d)
      (within : d.taken ≤ input_limit) (end : d.ended ≡ true → rest ≡ []) where
    given : List (List ℕ)
    given = f.chunks ++ (f.last ∷ [])

    all-is : input_reading key input ≡ chunks_before (f.chunks ++ (f.last ∷ [])) (left d (take (input_limit - length f.streams.fed) rest) (nat_lt input_limit (length input)))
    all-is = reading-is input rest taken taken' d (f.chunks ++ (f.last ∷ [])) (concat f.chunks ++ f.part) f.streams within end

    module _ (behind : Reading) (is : input_reading key input ≡ chunks_before (f.chunks ++ (f.last ∷ [])) behind) where
      chunks-are : (input_reading key input).chunks ≡ f.chunks ++ (f.last ∷ behind.chunks)
      chunks-are = ap (λ (r : Reading). r.chunks) is ∙ append_assoc f.chunks (f.last ∷ []) behind.chunks

      joined-is : concat (input_reading key input).chunks ≡ concat f.chunks ++ (f.last ++ concat behind.chunks)
      joined-is = ap concat chunks-are ∙ concat-append f.chunks (f.last ∷ behind.chunks)

      failed-writes : AppendsPrefix taken taken' (concat (input_reading key input).chunks)
      failed-writes = (
        length (concat f.chunks) + length f.part,
        subst (Appends taken taken') (sym (ap (take (length (concat f.chunks) + length f.part)) joined-is ∙ part-of (concat f.chunks) f.last (concat behind.chunks) f.part f.front)) f.streams.wrote,
      )

      failed-near : TakesNear key input (Some input) (Some rest) taken taken'
      failed-near =
          let firsts : take (length f.chunks) (input_reading key input).chunks ≡ f.chunks =
          ap (take (length f.chunks)) chunks-are ∙ take-append_seam f.chunks (f.last ∷ behind.chunks) in
          let count : d.number ≡ length f.chunks + 1 = f.streams.given.count ∙ length-append f.chunks (f.last ∷ []) in
          let close : d.taken ≤ stored_end (go_keys key) d.header (length f.chunks + 1) + length d.held =
          subst (λ (k : Keys). d.taken ≤ stored_end k d.header (length f.chunks + 1) + length d.held) f.streams.keys (subst (λ (n : ℕ). d.taken ≤ stored_end d.keys d.header n + length d.held) count f.streams.placed.near) in
          near-whole input rest taken taken' d (f.chunks ++ (f.last ∷ [])) (concat f.chunks ++ f.part) f.streams within end f.chunks f.part firsts refl
          (near-last key input d.header (length f.chunks) (length d.held) d.taken close f.streams.placed.few (taken-within input rest taken taken' d (f.chunks ++ (f.last ∷ [])) (concat f.chunks ++ f.part) f.streams within end))

  -- ---- the answers

  outcome-done : (at at' taken taken' : Option (List ℕ)) (d : Decoding) → HasWritten key at at' taken taken' d → d.ended ≡ true → left d [] false ≡ ends Whole
      → d.taken ≤ input_limit → (d.ended ≡ true → IsAtEnd at') → Outcome key at at' taken taken' Done
  outcome-done None at' taken taken' d w ended whole within end = record {
    tells = tt;
    writes = tt;
    takes = takes-of None at' taken taken' d w.chunks (concat w.chunks) w.streams within;
    near = λ cause. tt;
  }
  outcome-done (Some input) None taken taken' d w ended whole within end = absurd w.streams.consumed
  outcome-done (Some input) (Some rest) taken taken' d w ended whole within end =
      let follow = may input rest taken taken' d w.chunks (concat w.chunks) w.streams within end ended in
      let is : left d (take (input_limit - length w.streams.fed) rest) (nat_lt input_limit (length input)) ≡ ends Whole = rw (follow.0, follow.1) whole in
      let reading : input_reading key input ≡ record { chunks = w.chunks; ending = Whole } = ended-reading input rest taken taken' d w.chunks (concat w.chunks) w.streams within end Whole is in
      record {
        tells = ap (λ (r : Reading). r.ending) reading;
        writes = subst (Appends taken taken') (ap (λ (r : Reading). concat r.chunks) (sym reading)) w.streams.wrote;
        takes = takes-of (Some input) (Some rest) taken taken' d w.chunks (concat w.chunks) w.streams within;
        near = λ cause. near-given input rest taken taken' d w.chunks (concat w.chunks) w.streams within end refl;
      }

  outcome-damaged : (at at' taken taken' : Option (List ℕ)) (d : Decoding) (fault : ChunkFault) → HasWritten key at at' taken taken' d
      → ((more : List ℕ) (goes_on : Bool) → MayFollow d more goes_on → left d more goes_on ≡ ends (Faulty fault))
      → d.taken ≤ input_limit → (d.ended ≡ true → IsAtEnd at') → Outcome key at at' taken taken' (Damaged fault)
  outcome-damaged None at' taken taken' d fault w faulty within end = record {
    tells = tt;
    writes = tt;
    takes = takes-of None at' taken taken' d w.chunks (concat w.chunks) w.streams within;
    near = λ cause. tt;
  }
  outcome-damaged (Some input) None taken taken' d fault w faulty within end = absurd w.streams.consumed
  outcome-damaged (Some input) (Some rest) taken taken' d fault w faulty within end =
      let is = faulty (take (input_limit - length w.streams.fed) rest) (nat_lt input_limit (length input)) (may input rest taken taken' d w.chunks (concat w.chunks) w.streams within end) in
      let reading : input_reading key input ≡ record { chunks = w.chunks; ending = Faulty fault } = ended-reading input rest taken taken' d w.chunks (concat w.chunks) w.streams within end (Faulty fault) is in
      record {
        tells = ap (λ (r : Reading). r.ending) reading;
        writes = subst (Appends taken taken') (ap (λ (r : Reading). concat r.chunks) (sym reading)) w.streams.wrote;
        takes = takes-of (Some input) (Some rest) taken taken' d w.chunks (concat w.chunks) w.streams within;
        near = λ cause. near-given input rest taken taken' d w.chunks (concat w.chunks) w.streams within end refl;
      }

  outcome-failed : (at at' taken taken' : Option (List ℕ)) (d : Decoding) → HasFailed key at at' taken taken' d
      → d.taken ≤ input_limit → (d.ended ≡ true → IsAtEnd at') → Outcome key at at' taken taken' OutputFault
  outcome-failed None at' taken taken' d f within end = record {
    tells = tt;
    writes = tt;
    takes = takes-of None at' taken taken' d (f.chunks ++ (f.last ∷ [])) (concat f.chunks ++ f.part) f.streams within;
    near = λ cause. tt;
  }
  outcome-failed (Some input) None taken taken' d f within end = absurd f.streams.consumed
  outcome-failed (Some input) (Some rest) taken taken' d f within end = record {
    tells = tt;
    writes = failed-writes input rest taken taken' d f within end _ (all-is input rest taken taken' d f within end);
    takes = takes-of (Some input) (Some rest) taken taken' d (f.chunks ++ (f.last ∷ [])) (concat f.chunks ++ f.part) f.streams within;
    near = λ cause. failed-near input rest taken taken' d f within end _ (all-is input rest taken taken' d f within end);
  }

  pub outcome-answer : (at at' taken taken' : Option (List ℕ)) (answer : DecryptEnd) (d : Decoding) → Drains key at at' taken taken' (Some answer) d
      → d.taken ≤ input_limit → (d.ended ≡ true → IsAtEnd at') → Outcome key at at' taken taken' answer
  outcome-answer at at' taken taken' Done d drains within end = outcome-done at at' taken taken' d drains.0 drains.1 drains.2 within end
  outcome-answer at at' taken taken' (Damaged fault) d drains within end = outcome-damaged at at' taken taken' d fault drains.0 drains.1 within end
  outcome-answer at at' taken taken' OutputFault d drains within end = outcome-failed at at' taken taken' d drains within end
  outcome-answer at at' taken taken' OutOfMemory d drains within end = absurd drains
  outcome-answer at at' taken taken' InputFault d drains within end = absurd drains
  outcome-answer at at' taken taken' TooLong d drains within end = absurd drains

  -- the input failed
  pub outcome-input : (at at' taken taken' : Option (List ℕ)) (d : Decoding) → HasWritten key at at' taken taken' d → d.taken ≤ input_limit → d.ended ≡ false
      → Outcome key at at' taken taken' InputFault
  outcome-input None at' taken taken' d w within on = record {
    tells = tt;
    writes = tt;
    takes = takes-of None at' taken taken' d w.chunks (concat w.chunks) w.streams within;
    near = λ cause. tt;
  }
  outcome-input (Some input) None taken taken' d w within on = absurd w.streams.consumed
  outcome-input (Some input) (Some rest) taken taken' d w within on =
      let end : d.ended ≡ true → rest ≡ [] = λ ended. (let no : true ≡ false = sym ended ∙ on in cc) in
      record {
        tells = tt;
        writes = (length w.chunks, subst (Appends taken taken') (ap concat (sym (reading-chunks input rest taken taken' d w.chunks (concat w.chunks) w.streams within end))) w.streams.wrote);
        takes = takes-of (Some input) (Some rest) taken taken' d w.chunks (concat w.chunks) w.streams within;
        near = λ cause. near-given input rest taken taken' d w.chunks (concat w.chunks) w.streams within end refl;
      }

  -- the input is longer than the limit
  pub outcome-long : (at mid at' taken taken' : Option (List ℕ)) (d : Decoding) (byte : List ℕ) → HasWritten key at mid taken taken' d → d.taken ≡ input_limit → d.ended ≡ false
      → left d [] true ≡ ends Wanting → Consumes mid at' byte → length byte ≡ 1 → Outcome key at at' taken taken' TooLong
  outcome-long None mid at' taken taken' d byte w all on wanting more one = record {
    tells = tt;
    writes = tt;
    takes = (w.streams.fed ++ byte, omega (arith, length-append w.streams.fed byte, w.streams.count, all, one), Consumes-trans None mid at' w.streams.fed byte w.streams.consumed more);
    near = λ cause. tt;
  }
  outcome-long (Some input) None at' taken taken' d byte w all on wanting more one = absurd w.streams.consumed
  outcome-long (Some input) (Some rest) None taken taken' d byte w all on wanting more one = absurd more
  outcome-long (Some input) (Some rest) (Some behind) taken taken' d byte w all on wanting more one =
      let end : d.ended ≡ true → rest ≡ [] = λ ended. (let no : true ≡ false = sym ended ∙ on in cc) in
      let within : d.taken ≤ input_limit = omega (arith, all) in
      let size : length w.streams.fed ≡ input_limit = sym w.streams.count ∙ all in
      let nothing : take (input_limit - length w.streams.fed) rest ≡ [] = ap (λ (n : ℕ). take n rest) (let zero_left : input_limit - length w.streams.fed ≡ 0 = omega (arith, size) in zero_left) in
      let longer : nat_lt input_limit (length input) ≡ true =
      lt-ltb input_limit (length input) (omega (arith, ap length w.streams.consumed, length-append w.streams.fed rest, ap length more, length-append byte behind, size, one)) in
      let is : left d (take (input_limit - length w.streams.fed) rest) (nat_lt input_limit (length input)) ≡ ends Wanting = rw (nothing, longer) wanting in
      let reading : input_reading key input ≡ record { chunks = w.chunks; ending = Wanting } = ended-reading input rest taken taken' d w.chunks (concat w.chunks) w.streams within end Wanting is in
      record {
        tells = ap (λ (r : Reading). r.ending) reading;
        writes = subst (Appends taken taken') (ap (λ (r : Reading). concat r.chunks) (sym reading)) w.streams.wrote;
        takes = (w.streams.fed ++ byte, omega (arith, length-append w.streams.fed byte, size, one), Consumes-trans (Some input) (Some rest) (Some behind) w.streams.fed byte w.streams.consumed more);
        near = λ cause. elim cause [ inl is ↦ cc | inr is ↦ (let no = is.1 in cc) ];
      }

  -- ---- what stays written

  pub written-kept : (at mid at' taken taken' : Option (List ℕ)) (d : Decoding) → HasWritten key at mid taken taken' d → Keeps mid at' → HasWritten key at at' taken taken' d
  written-kept at mid at' taken taken' d w kept = record {
    chunks = w.chunks;
    streams = record {
      fed = w.streams.fed;
      consumed = Consumes-kept at mid at' w.streams.fed w.streams.consumed kept;
      count = w.streams.count;
      given = w.streams.given;
      wrote = w.streams.wrote;
      placed = w.streams.placed;
      keys = w.streams.keys;
    };
  }

  -- the end of the input was told
  pub written-ended : (at mid at' taken taken' : Option (List ℕ)) (d d2 : Decoding) (piece : List ℕ) → ((fed : List ℕ) (chunks : List (List ℕ)) → HasGiven (go_keys key) fed chunks d → HasGiven (go_keys key) fed chunks (record d { ended = true }))
      → HasWritten key at mid taken taken' d → Consumes mid at' piece → length piece ≡ 0 → d2 ≡ record d { ended = true } → IsPlaced d2 → HasWritten key at at' taken taken' d2
  written-ended at mid at' taken taken' d d2 piece law w more none is placed =
      let nothing : piece ≡ [] = nil_from_length piece none in
      let fed : w.streams.fed ++ piece ≡ w.streams.fed = ap (λ (x : List ℕ). w.streams.fed ++ x) nothing ∙ append-nil w.streams.fed in
      record {
        chunks = w.chunks;
        streams = record {
          fed = w.streams.fed;
          consumed = subst (Consumes at at') fed (Consumes-trans at mid at' w.streams.fed piece w.streams.consumed more);
          count = ap (λ (x : Decoding). x.taken) is ∙ w.streams.count;
          given = subst (HasGiven (go_keys key) w.streams.fed w.chunks) (sym is) (law w.streams.fed w.chunks w.streams.given);
          wrote = w.streams.wrote;
          placed = placed;
          keys = ap (λ (x : Decoding). x.keys) is ∙ w.streams.keys;
        };
      }

  -- nothing was fed yet
  pub written-nothing : (at taken : Option (List ℕ)) (d : Decoding) → d ≡ started (go_keys key) → HasGiven (go_keys key) [] [] (started (go_keys key)) → HasWritten key at at taken taken d
  written-nothing at taken d is given = rw is (record {
    chunks = [];
    streams = record {
      fed = [];
      consumed = Consumes-nil at;
      count = refl;
      given = given;
      wrote = Appends-nil taken;
      placed = record { given = omega arith; near = omega arith; none_before_the_header = λ none. refl; few = omega arith };
      keys = refl;
    };
  })
