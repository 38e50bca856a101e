-- What stays in a buffer behind what was put there, and what stands in its front.
use Rattle.std.proofs.Common.{◌≡◌, ℕ, ◌+◌, ◌-◌, ◌≤◌, List, length, take, drop, Result, Ok, Err, refl, sym, ap, ◌∙◌, subst, arith, length-drop, length-take}
use Rattle.std.proofs.lemmas.List.{drop-drop}
use Rattle.std.proofs.lemmas.Slice.{drop-put_mid}
use borrow.Rule.Slice.PartMut.{put_mid}
use Rattle.chunk_files.specs.declared.fault.ChunkFault.{ChunkFault}
use Rattle.chunk_files.specs.declared.step.Step.{Step}
use Rattle.chunk_files.specs.declared.step.Step.TheVariants.{More, Chunk, End}
use Rattle.chunk_files.specs.Buffers.{HasOnlyOf, KeepsBehind}
use Rattle.chunk_files.specs.Decoding.{Decoding, LeavesBuffer, next_stored}

-- what stays behind a place stays behind a later one
pub kept-later : (a b : ℕ) (old new : List ℕ) → a ≤ b → KeepsBehind a old new → KeepsBehind b old new
kept-later a b old new within kept =
    let rest : a + (b - a) ≡ b = omega (arith, within) in
    let behind : (bytes : List ℕ) → drop b bytes ≡ drop (b - a) (drop a bytes) = λ bytes. ap (λ (m : ℕ). drop m bytes) (sym rest) ∙ sym (drop-drop (b - a) a bytes) in
    behind new ∙ ap (drop (b - a)) kept ∙ sym (behind old)

-- a nonce and a text were put at the front, the text was sealed where it stands, and its tag put behind it
pub sealed-kept : (n whole end tag size : ℕ) (old first second third last : List ℕ) → n ≤ size → whole ≤ size → end ≤ size → tag ≡ size
    → KeepsBehind n old first → KeepsBehind whole first second → KeepsBehind end second third → KeepsBehind tag third last → KeepsBehind size old last
sealed-kept n whole end tag size old first second third last a b c same one two three four =
    subst (λ (m : ℕ). KeepsBehind m third last) same four
    ∙ kept-later end size second third c three ∙ kept-later whole size first second b two ∙ kept-later n size old first a one

-- what stands between two places
pub length-part : (n end : ℕ) (buffer : List ℕ) → n ≤ end → end ≤ length buffer → length (take (end - n) (drop n buffer)) ≡ end - n
length-part n end buffer some within = omega (arith, length-take (end - n) (drop n buffer), length-drop n buffer, some, within)

-- other bytes in its place
pub part-kept : (n end : ℕ) (buffer new : List ℕ) → n ≤ end → end ≤ length buffer → length new ≡ end - n → KeepsBehind end buffer (put_mid n (end - n) buffer new)
part-kept n end buffer new some within size = drop-put_mid n (end - n) buffer new end (omega (arith, some)) (omega (arith, some, within)) size

-- a buffer that is as it was
pub none-of : (stored old new : List ℕ) → new ≡ old → HasOnlyOf stored old new
none-of stored old new same = record { before = 0; count = 0; within = omega arith; is = same }

pub left-alone : (d : Decoding) (step : Result Step ChunkFault) (buffer : List ℕ) → LeavesBuffer d step buffer buffer
left-alone d (Ok (Chunk size)) buffer = refl
left-alone d (Ok More) buffer = refl
left-alone d (Ok End) buffer = refl
left-alone d (Err fault) buffer = none-of (next_stored d) buffer buffer refl
