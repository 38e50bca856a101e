-- How the reading of a content ends, by what a step gives of it.
use Rattle.std.proofs.Common.{◌≡◌, ◌≢◌, ℕ, zero, suc, List, Option, Some, Result, Ok, Err, IfOk, IfErr, refl, sym, ap, ◌∙◌, subst}
use Rattle.chunk_files.specs.declared.fault.ChunkFault.{ChunkFault}
use Rattle.chunk_files.specs.Reading.{Ending, Whole, Wanting, Faulty, Reading}
use Rattle.folder_spec.specs.Path.{Path}
use Rattle.folder_spec.specs.View.{View}
use Rattle.vault_read.specs.Contents.{Gives, GivesBytes, IsReaderFault, Passes, Reader, Stops, limited_reading, still}
use Rattle.vault_spec.specs.Format.{Format}
use Rattle.vault_faults.specs.declared.fault.Limit.{Limit}
use Rattle.vault_faults.specs.declared.fault.Limit.TheVariants.{Depth, Items, Length, Input}
use Rattle.vault_faults.specs.declared.fault.CatFault.{CatFault}
use Rattle.vault_faults.specs.declared.fault.CatFault.TheVariants as cat
use Rattle.vault_check.specs.Contents.{EndsAs, IsContentFault, StillEnds, ended_by}
use Rattle.vault_check.specs.declared.fault.CheckFault.{CheckFault}
use Rattle.vault_check.specs.declared.fault.CheckFault.TheVariants as check

passed : (before after : Reading) → Passes before after → before.ending ≡ after.ending
passed before after (k, is) = ap (λ (r : Reading). r.ending) is

stopped : (ending : Ending) (before after : Reading) → Stops ending before after → before.ending ≡ ending
stopped ending before after (passes, is) = ap (λ (r : Reading). r.ending) passes.1

-- a chunk
pub ends_later : (n : ℕ) (buffer : List ℕ) (before after : Reading) → n ≢ 0 → GivesBytes n buffer before after → before.ending ≡ after.ending
ends_later zero buffer before after some gives = absurd (some refl)
ends_later (suc n) buffer before after some (k, is) = ap (λ (r : Reading). r.ending) is

-- the end
pub ends_whole : (n : ℕ) (buffer : List ℕ) (before after : Reading) → n ≡ 0 → GivesBytes n buffer before after → before.ending ≡ Whole
ends_whole zero buffer before after none gives = stopped Whole before after gives
ends_whole (suc n) buffer before after none gives = cc

-- a fault
pub ends_faulty : (at path : Path) (fault : ChunkFault) (found : CatFault) (buffer : List ℕ) (before after : Reading) → found ≡ cat.Damaged path fault
    → Gives at (Err found) buffer before after → before.ending ≡ Faulty fault
ends_faulty at path fault found buffer before after is gives =
    let here : Gives at (Err (cat.Damaged path fault)) buffer before after = subst (λ x. Gives at (Err x) buffer before after) is gives in
    stopped (Faulty fault) before after here.1

-- the limit
by_limit : (at named : Path) (limit : Limit) (buffer : List ℕ) (before after : Reading) → Gives at (Err (cat.Limit limit)) buffer before after
    → limit ≡ Length named → (named ≡ at) × (before.ending ≡ Wanting)
by_limit at named (Length path) buffer before after gives is = let same : path ≡ named = cc in (sym same ∙ gives.0, stopped Wanting before after gives.1)
by_limit at named Depth buffer before after gives is = absurd gives
by_limit at named Items buffer before after gives is = absurd gives
by_limit at named Input buffer before after gives is = absurd gives

pub ends_wanting : (at named : Path) (limit : Limit) (found : CatFault) (buffer : List ℕ) (before after : Reading) → found ≡ cat.Limit limit → Gives at (Err found) buffer before after
    → limit ≡ Length named → (named ≡ at) × (before.ending ≡ Wanting)
ends_wanting at named limit found buffer before after is gives =
    by_limit at named limit buffer before after (subst (λ x. Gives at (Err x) buffer before after) is gives)

-- ---- what is answered where the reading ends by a fault

abbrev pub Answer : Type 0
Answer = Result (Option ChunkFault) CheckFault

pub answers_damage : (fault : CatFault) (answer : Answer) (P : Option ChunkFault → Type 0) → answer ≡ ended_by fault → ((path : Path) (found : ChunkFault) → fault ≡ cat.Damaged path found → P (Some found)) → IfOk answer P
answers_damage (cat.Damaged path found) answer P is holds = subst (λ a. IfOk a P) (sym is) (holds path found refl)
answers_damage (cat.Limit limit) answer P is holds = subst (λ a. IfOk a P) (sym is) tt
answers_damage cat.Failed answer P is holds = subst (λ a. IfOk a P) (sym is) tt
answers_damage cat.NoMemory answer P is holds = subst (λ a. IfOk a P) (sym is) tt
answers_damage (cat.Find fault) answer P is holds = subst (λ a. IfOk a P) (sym is) tt
answers_damage cat.Sink answer P is holds = subst (λ a. IfOk a P) (sym is) tt

pub answers_length : (fault : CatFault) (named : Path) (answer : Answer) → answer ≡ ended_by fault → answer ≡ Err (check.Limit (Length named)) → fault ≡ cat.Limit (Length named)
answers_length (cat.Limit limit) named answer is same =
    let both : Err (check.Limit limit) ≡ Err (check.Limit (Length named)) = sym is ∙ same in
    let its : limit ≡ Length named = cc both in
    ap cat.Limit its
answers_length (cat.Damaged path found) named answer is same = let clash : Ok (Some found) ≡ Err (check.Limit (Length named)) = sym is ∙ same in cc clash
answers_length cat.Failed named answer is same = let clash : Err check.Failed ≡ Err (check.Limit (Length named)) = sym is ∙ same in cc clash
answers_length cat.NoMemory named answer is same = let clash : Err check.NoMemory ≡ Err (check.Limit (Length named)) = sym is ∙ same in cc clash
answers_length (cat.Find fault) named answer is same = let clash : Err check.NoMemory ≡ Err (check.Limit (Length named)) = sym is ∙ same in cc clash
answers_length cat.Sink named answer is same = let clash : Err check.NoMemory ≡ Err (check.Limit (Length named)) = sym is ∙ same in cc clash

pub answers_failed : (fault : CatFault) (answer : Answer) → answer ≡ ended_by fault → answer ≡ Err check.Failed → fault ≡ cat.Failed
answers_failed cat.Failed answer is same = refl
answers_failed (cat.Damaged path found) answer is same = let clash : Ok (Some found) ≡ Err check.Failed = sym is ∙ same in cc clash
answers_failed (cat.Limit limit) answer is same = let clash : Err (check.Limit limit) ≡ Err check.Failed = sym is ∙ same in cc clash
answers_failed cat.NoMemory answer is same = let clash : Err check.NoMemory ≡ Err check.Failed = sym is ∙ same in cc clash
answers_failed (cat.Find fault) answer is same = let clash : Err check.NoMemory ≡ Err check.Failed = sym is ∙ same in cc clash
answers_failed cat.Sink answer is same = let clash : Err check.NoMemory ≡ Err check.Failed = sym is ∙ same in cc clash

by_length : (limit : Limit) (at : Path) → IsReaderFault at (cat.Limit limit) → IsContentFault (check.Limit limit)
by_length (Length path) at reader = tt
by_length Depth at reader = absurd reader
by_length Items at reader = absurd reader
by_length Input at reader = absurd reader

pub answers_fault : (fault : CatFault) (at : Path) (answer : Answer) → answer ≡ ended_by fault → IsReaderFault at fault → IfErr answer IsContentFault
answers_fault (cat.Damaged path found) at answer is reader = subst (λ a. IfErr a IsContentFault) (sym is) tt
answers_fault (cat.Limit limit) at answer is reader = subst (λ a. IfErr a IsContentFault) (sym is) (by_length limit at reader)
answers_fault cat.Failed at answer is reader = subst (λ a. IfErr a IsContentFault) (sym is) tt
answers_fault cat.NoMemory at answer is reader = subst (λ a. IfErr a IsContentFault) (sym is) tt
answers_fault (cat.Find fault) at answer is reader = absurd reader
answers_fault cat.Sink at answer is reader = absurd reader

-- a content file of which nothing was read ends as its content does
pub ends_of : (f : Format) (v : View) (at : Path) (reader : Reader) (ending : Ending) → reader.at ≡ at
    → ((bytes : List ℕ) → still reader.decoding bytes ≡ limited_reading f.content bytes) → StillEnds v reader ending → EndsAs f v at ending
ends_of f v at reader ending is same ends = (ends.0, ap v (sym is) ∙ ends.1, ap (λ (r : Reading). r.ending) (sym (same ends.0)) ∙ ends.2)
