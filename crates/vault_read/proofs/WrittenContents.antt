-- What was written of a content that a reader gives chunk by chunk.
use Rattle.std.proofs.Common.{◌≡◌, ◌⊎◌, ℕ, zero, suc, ◌+◌, ◌≤◌, ◌<◌, List, [], ◌∷◌, ◌++◌, length, take, replicate, Option, Result, Ok, Err, inl, inr, refl, sym, ap, ◌∙◌, subst, arith, append-nil, append_assoc, length-append}
use Rattle.std.specs.List.{concat}
use Rattle.std.specs.Io.KnownBytes.{Appends}
use Rattle.std.proofs.KnownBytes.{Appends-nil, Appends-trans, Keeps-refl}
use Rattle.std.proofs.Math.Seq.{take-append-add, take-append_seam}
use Rattle.std.proofs.lemmas.List.{length-take, length-take-le, take-append-le, take_min}
use Rattle.std.proofs.lemmas.List.Folds.{concat-append}
use Rattle.port_model.specs.Told.{AppendsPrefix}
use Rattle.folder_spec.specs.Path.{Path}
use Rattle.folder_spec.specs.View.{View}
use Rattle.plain_tree.specs.Names as plain
use Rattle.chunk_files.specs.Reading.{Ending, Whole, Wanting, Faulty, Reading, ends, chunk_before}
use Rattle.chunk_files.specs.Decoding.{chunks_before}
use Rattle.vault_spec.specs.Format.{Format}
use Rattle.vault_read.specs.Contents.{IsCatFault, IsReaderFault, Passes, Stops, GivesBytes, Gives, Writes, IsContent, Cats, content_at}
use Rattle.vault_faults.specs.Contents.{of_find}
use Rattle.vault_read.specs.Reading.{HasWritten}
use Rattle.vault_faults.specs.declared.fault.FindFault.{FindFault}
use Rattle.vault_faults.specs.declared.fault.FindFault.TheVariants as finds
use Rattle.vault_faults.specs.declared.fault.Limit.TheVariants.{Depth, Items, Length, Input}
use Rattle.vault_faults.specs.declared.fault.CatFault.{CatFault}
use Rattle.vault_faults.specs.declared.fault.CatFault.TheVariants.{Find, Damaged, Limit, Sink, Failed, NoMemory}
use Rattle.vault_read.specs.Finding.{Refuses}

nothing_joined : (k : ℕ) → concat (replicate {A = List ℕ} k []) ≡ []
nothing_joined zero = refl
nothing_joined (suc k) = nothing_joined k

chunks_joined : (one two : List (List ℕ)) (rest : Reading) → chunks_before one (chunks_before two rest) ≡ chunks_before (one ++ two) rest
chunks_joined one two rest = ap (λ (cs : List (List ℕ)). record { chunks = cs; ending = rest.ending }) (sym (append_assoc one two rest.chunks))

module _ (reading : Reading) (taken : Option (List ℕ)) (total : ℕ) where
  -- chunks without bytes
  pub written_passed : (taken' : Option (List ℕ)) (before after : Reading) → HasWritten reading taken taken' total before → Passes before after → HasWritten reading taken taken' total after
  written_passed taken' before after w (k, passed) =
      let all : List (List ℕ) = w.chunks ++ replicate k [] in
      let joined : concat all ≡ concat w.chunks = concat-append w.chunks (replicate k []) ∙ ap (λ (x : List ℕ). concat w.chunks ++ x) (nothing_joined k) ∙ append-nil (concat w.chunks) in
      record {
        chunks = all;
        is = w.is ∙ ap (chunks_before w.chunks) passed ∙ chunks_joined w.chunks (replicate k []) after;
        wrote = subst (Appends taken taken') (sym joined) w.wrote;
        count = w.count ∙ ap length (sym joined);
      }

  -- a chunk
  pub written_more : (taken' taken2 : Option (List ℕ)) (chunk : List ℕ) (after : Reading) → HasWritten reading taken taken' total (chunk_before chunk after) → Appends taken' taken2 chunk
      → HasWritten reading taken taken2 (total + length chunk) after
  written_more taken' taken2 chunk after w piece =
      let all : List (List ℕ) = w.chunks ++ (chunk ∷ []) in
      let joined : concat w.chunks ++ chunk ≡ concat all = sym (concat-append w.chunks (chunk ∷ []) ∙ ap (λ (x : List ℕ). concat w.chunks ++ x) (append-nil chunk)) in
      record {
        chunks = all;
        is = w.is ∙ chunks_joined w.chunks (chunk ∷ []) after;
        wrote = subst (Appends taken taken2) joined (Appends-trans taken taken' taken2 (concat w.chunks) chunk w.wrote piece);
        count = ap (λ (n : ℕ). n + length chunk) w.count ∙ sym (length-append (concat w.chunks) chunk) ∙ ap length joined;
      }

  module _ (taken' : Option (List ℕ)) where
    -- a reading that stopped
    pub written_stopped : (before after : Reading) (ending : Ending) → HasWritten reading taken taken' total before → Stops ending before after
        → (reading.ending ≡ ending) × (total ≡ length (concat reading.chunks)) × Appends taken taken' (concat reading.chunks)
    written_stopped before after ending w (passed, is) =
        let here = written_passed taken' before (ends ending) w passed in
        let chunks : reading.chunks ≡ here.chunks = ap (λ (r : Reading). r.chunks) here.is ∙ append-nil here.chunks in
        (ap (λ (r : Reading). r.ending) here.is, here.count ∙ ap (λ (cs : List (List ℕ)). length (concat cs)) (sym chunks), subst (Appends taken taken') (ap concat (sym chunks)) here.wrote)

    -- one that may go on
    pub written_front : (before : Reading) → HasWritten reading taken taken' total before → (k : ℕ) × Appends taken taken' (concat (take k reading.chunks))
    written_front before w =
        let front : take (length w.chunks) reading.chunks ≡ w.chunks = ap (λ (r : Reading). take (length w.chunks) r.chunks) w.is ∙ take-append_seam w.chunks before.chunks in
        (length w.chunks, subst (Appends taken taken') (ap concat (sym front)) w.wrote)

    -- an output that failed in a chunk
    pub written_part : (taken2 : Option (List ℕ)) (chunk : List ℕ) (after : Reading) → HasWritten reading taken taken' total (chunk_before chunk after) → AppendsPrefix taken' taken2 chunk
        → AppendsPrefix taken taken2 (concat reading.chunks)
    written_part taken2 chunk after w (n, piece) =
        let part : List ℕ = take n chunk in
        let short : length part ≤ length chunk = omega (arith, length-take n chunk) in
        let again : take (length part) chunk ≡ part = front_again chunk n in
        let all : concat reading.chunks ≡ concat w.chunks ++ (chunk ++ concat after.chunks) =
        ap (λ (r : Reading). concat r.chunks) w.is ∙ concat-append w.chunks (chunk ∷ after.chunks) in
        let front : take (length (concat w.chunks) + length part) (concat reading.chunks) ≡ concat w.chunks ++ part =
        ap (take (length (concat w.chunks) + length part)) all ∙ take-append-add (concat w.chunks) (chunk ++ concat after.chunks) (length part)
        ∙ ap (λ (x : List ℕ). concat w.chunks ++ x) (take-append-le (length part) chunk (concat after.chunks) short ∙ again) in
        (length (concat w.chunks) + length part, subst (Appends taken taken2) (sym front) (Appends-trans taken taken' taken2 (concat w.chunks) part w.wrote piece))
      where
        front_again : (xs : List ℕ) (n : ℕ) → take (length (take n xs)) xs ≡ take n xs
        front_again xs n = ap (λ (m : ℕ). take m xs) (length-take n xs) ∙ take_min n xs

    -- ---- the steps

    -- the end
    pub written_end : (n : ℕ) (buffer : List ℕ) (before after : Reading) → HasWritten reading taken taken' total before → n ≡ 0 → GivesBytes n buffer before after
        → (reading.ending ≡ Whole) × (total ≡ length (concat reading.chunks)) × Appends taken taken' (concat reading.chunks)
    written_end zero buffer before after w none gives = written_stopped before after Whole w gives
    written_end (suc n) buffer before after w none gives = absurd (omega (arith, none))

    given_chunk : (n : ℕ) (buffer : List ℕ) (before after : Reading) → HasWritten reading taken taken' total before → 0 < n → GivesBytes n buffer before after
        → HasWritten reading taken taken' total (chunk_before (take n buffer) after)
    given_chunk zero buffer before after w some gives = absurd (omega (arith, some))
    given_chunk (suc n) buffer before after w some gives = written_passed taken' before (chunk_before (take (suc n) buffer) after) w gives

    -- a chunk that was written
    pub written_bytes : (n : ℕ) (buffer : List ℕ) (before after : Reading) → HasWritten reading taken taken' total before → 0 < n → n ≤ length buffer → GivesBytes n buffer before after
        → (taken2 : Option (List ℕ)) → Appends taken' taken2 (take n buffer) → HasWritten reading taken taken2 (total + n) after
    written_bytes n buffer before after w some few gives taken2 piece =
        let size : length (take n buffer) ≡ n = length-take-le n buffer few in
        subst (λ (m : ℕ). HasWritten reading taken taken2 (total + m) after) size (written_more taken' taken2 (take n buffer) after (given_chunk n buffer before after w some gives) piece)

    -- one that was written in part
    pub written_sink : (n : ℕ) (buffer : List ℕ) (before after : Reading) → HasWritten reading taken taken' total before → 0 < n → GivesBytes n buffer before after
        → (taken2 : Option (List ℕ)) → AppendsPrefix taken' taken2 (take n buffer) → AppendsPrefix taken taken2 (concat reading.chunks)
    written_sink n buffer before after w some gives taken2 piece = written_part taken2 (take n buffer) after (given_chunk n buffer before after w some gives) piece

    -- ---- the answers

    -- of a step that gives no chunk
    pub written_fault : (at : Path) (fault : CatFault) (buffer : List ℕ) (before after : Reading) → HasWritten reading taken taken' total before → Gives at (Err fault) buffer before after
        → Writes at (Err fault) reading taken taken'
    written_fault at (Damaged path fault) buffer before after w (is, stops) = let s = written_stopped before after (Faulty fault) w stops in (is, s.0, s.2)
    written_fault at (Limit (Length path)) buffer before after w (is, stops) = let s = written_stopped before after Wanting w stops in (is, s.0, s.2)
    written_fault at (Limit Depth) buffer before after w h = h
    written_fault at (Limit Items) buffer before after w h = h
    written_fault at (Limit Input) buffer before after w h = h
    written_fault at Failed buffer before after w h = written_front before w
    written_fault at NoMemory buffer before after w h = written_front before w
    written_fault at (Find fault) buffer before after w h = h
    written_fault at Sink buffer before after w h = absurd h

pub written_nothing : (reading : Reading) (taken : Option (List ℕ)) → HasWritten reading taken taken 0 reading
written_nothing reading taken = record { chunks = []; is = refl; wrote = Appends-nil taken; count = refl }

-- ---- `cat`

pub cat_fault_found : (fault : FindFault) → IsCatFault (of_find fault)
cat_fault_found (finds.NotFound at) = tt
cat_fault_found (finds.WrongKind at) = tt
cat_fault_found (finds.NoDirKey at) = tt
cat_fault_found (finds.NoFolder at) = tt
cat_fault_found finds.Failed = tt
cat_fault_found finds.NoMemory = tt

pub cat_fault_read : (at : Path) (fault : CatFault) → IsReaderFault at fault → IsCatFault fault
cat_fault_read at (Damaged path fault) h = tt
cat_fault_read at (Limit (Length path)) h = tt
cat_fault_read at (Limit Depth) h = h
cat_fault_read at (Limit Items) h = h
cat_fault_read at (Limit Input) h = h
cat_fault_read at Failed h = tt
cat_fault_read at NoMemory h = tt
cat_fault_read at (Find fault) h = absurd h
cat_fault_read at Sink h = tt

module _ (f : Format) (root : Path) (v : View) (path : plain.Path) where
  -- before the reading began
  pub cats_unread : (fault : CatFault) (taken : Option (List ℕ)) → (fault ≡ Failed) ⊎ (fault ≡ NoMemory) → Cats f root v path (Err fault) taken taken
  cats_unread Failed taken cause = inl (Keeps-refl taken)
  cats_unread NoMemory taken cause = inl (Keeps-refl taken)
  cats_unread fault taken (inl is) = cc is
  cats_unread fault taken (inr is) = cc is

  pub cats_unfound : (fault : FindFault) (taken : Option (List ℕ)) → Refuses root (content_at f root v path) fault → Cats f root v path (Err (of_find fault)) taken taken
  cats_unfound (finds.NotFound at) taken h = (h, Keeps-refl taken)
  cats_unfound (finds.WrongKind at) taken h = (h, Keeps-refl taken)
  cats_unfound (finds.NoDirKey at) taken h = (h, Keeps-refl taken)
  cats_unfound (finds.NoFolder at) taken h = (h, Keeps-refl taken)
  cats_unfound finds.Failed taken h = inl (Keeps-refl taken)
  cats_unfound finds.NoMemory taken h = inl (Keeps-refl taken)

  pub cats_read : (result : Result ℕ CatFault) (taken taken' : Option (List ℕ)) (at : Path) (reading : Reading) → IsContent f root v path at reading → Writes at result reading taken taken'
      → Cats f root v path result taken taken'
  cats_read (Ok n) taken taken' at reading content writes = (at, reading, content, writes)
  cats_read (Err (Find fault)) taken taken' at reading content writes = absurd writes
  cats_read (Err (Damaged path fault)) taken taken' at reading content writes = (at, reading, content, writes)
  cats_read (Err (Limit limit)) taken taken' at reading content writes = (at, reading, content, writes)
  cats_read (Err Sink) taken taken' at reading content writes = (at, reading, content, writes)
  cats_read (Err Failed) taken taken' at reading content writes = inr (at, reading, content, writes)
  cats_read (Err NoMemory) taken taken' at reading content writes = inr (at, reading, content, writes)
