-- What a reader gives of a content that is compared.
use Rattle.std.proofs.Common.{◌≡◌, ℕ, zero, suc, ◌+◌, ◌-◌, ◌≤◌, List, [], ◌∷◌, ◌++◌, replicate, length, take, drop, Err, refl, sym, ap, ◌∙◌, arith}
use Rattle.std.specs.List.{concat}
use Rattle.std.proofs.lemmas.List.{length-take-le, length-take, length-drop, nil_from_length, drop-take, drop-drop}
use Rattle.chunk_files.specs.Reading.{Reading, Whole, Wanting, Faulty, ends}
use Rattle.folder_spec.specs.Path.{Path}
use Rattle.vault_read.specs.Contents.{Passes, GivesBytes, Gives}
use Rattle.vault_faults.specs.declared.fault.Limit.TheVariants.{Depth, Items, Length, Input}
use Rattle.vault_faults.specs.declared.fault.CatFault.{CatFault}
use Rattle.vault_faults.specs.declared.fault.CatFault.TheVariants as cat
use Rattle.tree_match.specs.Comparing.{IsFault, content_of}
use Rattle.tree_match.specs.Pieces.{Opened, nothing_before, of_reader, uncompared}
use Rattle.tree_match.proofs.Fronts.{front}

nothing_joined : (k : ℕ) (chunks : List (List ℕ)) → concat (replicate k [] ++ chunks) ≡ concat chunks
nothing_joined zero chunks = refl
nothing_joined (suc k) chunks = nothing_joined k chunks

module _ (at : Path) (before after : Reading) where
  passes : Passes before after → content_of at before ≡ content_of at after
  passes (k, is) = ap (content_of at) is ∙ ap (λ (bytes : List ℕ). record { at = at; bytes = bytes; ending = after.ending }) (nothing_joined k after.chunks)

module _ (at : Path) where
  pub read_fault : (fault : CatFault) (buffer : List ℕ) (before after : Reading) → Gives at (Err fault) buffer before after
      → IsFault (λ path ending. content_of at before ≡ nothing_before path ending) (of_reader fault)
  read_fault (cat.Damaged path fault) buffer before after h =
      passes at before (ends (Faulty fault)) h.1.0 ∙ ap (λ (p : Path). nothing_before p (Faulty fault)) (sym h.0)
  read_fault (cat.Limit (Length path)) buffer before after h = passes at before (ends Wanting) h.1.0 ∙ ap (λ (p : Path). nothing_before p Wanting) (sym h.0)
  read_fault (cat.Limit Depth) buffer before after h = h
  read_fault (cat.Limit Items) buffer before after h = h
  read_fault (cat.Limit Input) buffer before after h = h
  read_fault cat.Failed buffer before after h = tt
  read_fault cat.NoMemory buffer before after h = tt
  read_fault (cat.Find fault) buffer before after h = tt
  read_fault cat.Sink buffer before after h = tt

  pub read_bytes : (n : ℕ) (buffer : List ℕ) (before after : Reading) → GivesBytes n buffer before after → content_of at before ≡ front (take n buffer) (content_of at after)
  read_bytes zero buffer before after h = passes at before (ends Whole) h.0 ∙ ap (content_of at) (sym h.1)
  read_bytes (suc n) buffer before after h = passes at before (record { chunks = take (suc n) buffer ∷ after.chunks; ending = after.ending }) h

  pub read_end : (n : ℕ) (buffer : List ℕ) (before after : Reading) → n ≤ length buffer → GivesBytes n buffer before after → take n buffer ≡ [] → content_of at before ≡ nothing_before at Whole
  read_end zero buffer before after few h none = passes at before (ends Whole) h.0
  read_end (suc n) buffer before after few h none = absurd (omega (arith, length-take-le (suc n) buffer few, ap length none))

-- ---- the bytes ahead

-- of a buffer from a place to another
abbrev pub between : ℕ → ℕ → List ℕ → List ℕ
between start end buffer = take (end - start) (drop start buffer)

pub none_between : (start end : ℕ) (buffer : List ℕ) → end ≤ start → between start end buffer ≡ []
none_between start end buffer past = nil_from_length (between start end buffer) (omega (arith, length-take (end - start) (drop start buffer)))

pub length_between : (start end : ℕ) (buffer : List ℕ) → end ≤ length buffer → length (between start end buffer) ≡ end - start
length_between start end buffer few = length-take-le (end - start) (drop start buffer) (omega (arith, length-drop start buffer))

pub between_passed : (start end n : ℕ) (buffer : List ℕ) → start + n ≤ end → between (start + n) end buffer ≡ drop n (between start end buffer)
between_passed start end n buffer few =
    let rest : end - start ≡ n + (end - (start + n)) = omega arith in
    sym (ap (λ (m : ℕ). drop n (take m (drop start buffer))) rest ∙ drop-take n (end - (start + n)) (drop start buffer) ∙ ap (take (end - (start + n))) (drop-drop n start buffer))

-- where nothing is ahead
pub uncompared_none : (s : Opened) (file : List ℕ) → s.ahead ≡ [] → uncompared s file ≡ uncompared (record { at = s.at; decoding = s.decoding; ahead = [] }) file
uncompared_none s file none = ap (λ (xs : List ℕ). uncompared (record { at = s.at; decoding = s.decoding; ahead = xs }) file) none
