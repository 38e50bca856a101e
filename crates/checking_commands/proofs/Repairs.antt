-- What `repair` did, from what its parts say.
use Rattle.std.proofs.Common.{◌≡◌, ℕ, ◌≤◌, true, false, List, [], Option, Result, Ok, Err, IfOk, IfErr, inl, inr, refl, sym, ◌∙◌, subst}
use Rattle.std.specs.Prelude.{◌⊎◌, IsTrue}
use Rattle.std.proofs.lemmas.Bool.{or_left}
use Rattle.std.specs.Io.KnownBytes.{Keeps}
use Rattle.std.proofs.KnownBytes.{Keeps-refl}
use Rattle.port_model.specs.Counts.{CountRose}
use Rattle.folder_model.specs.Answers.{CountsAbove}
use Rattle.folder_model.proofs.Counting.{rose_since}
use Rattle.folder_spec.specs.declared.FolderFault.{FolderFault as Fault}
use Rattle.folder_spec.specs.declared.FolderFault.TheVariants as folder
use Rattle.folder_spec.specs.Path.{Path, parent}
use Rattle.folder_spec.specs.Event.{Told, FromTo}
use Rattle.folder_spec.specs.Image.{Image, IsImage}
use Rattle.folder_spec.specs.Seen.{IfSeen, IsSeen, ShowsFree, seen, under}
use Rattle.folder_spec.specs.State.{HasNothingPending, IsSound, State}
use Rattle.folder_spec.specs.View.{Found, NoEntry, Folder, FileOf, Special, View, view_of}
use Rattle.vault_read.specs.Laws.{HaveOneAnswer}
use Rattle.vault_read.specs.OwnFolders.{HasOwnFolders}
use Rattle.vault_spec.specs.Adding.{OpensAs}
use Rattle.vault_spec.specs.Moving.{IsStray}
use Rattle.vault_faults.specs.declared.fault.Limit.TheVariants as limited
use Rattle.vault_spec.specs.Vault.{Vault, Either, format_of}
use Rattle.vault_walk.specs.Survey.{HasTooMany}
use Rattle.vault_walk.specs.Surveyed.{IsOnlyTooDeep}
use Rattle.vault_spec.specs.Format.{Format}
use Rattle.vault_check.specs.Answers.{IsRepairFault, of_folder}
use Rattle.vault_check.specs.Repairing.{AreMoved, HasMadeAll, HasNoStrays, IsRepairing, RepairsAt, StopsMoving, repair_calls}
use Rattle.folder_spec.specs.Apart.{AreApart}
use Rattle.vault_check.specs.declared.fault.CheckFault.{CheckFault}
use Rattle.vault_check.specs.declared.fault.CheckFault.TheVariants as check
use Rattle.checking_commands.specs.Faults.{of_check}
use Rattle.open_for_reading.specs.Opening.{Opens}
use Rattle.open_for_reading.specs.Refusing.{Unless, RefusesOpening}
use Rattle.open_for_reading.specs.Places.{OfDirectory, OfMissing, OfFree, overlap, RefusesOverlap}
use Rattle.checking_commands.specs.Repair.{IsOfMoving, Moved, TooMany, TooDeep, OfRepairing, OpensFree, MovesStrays, HasMovedStrays, HasStopped, TellsMoved, TellsMovedStrays, RepairsApart, RepairsVault, is_of_test, moved_text}
use Rattle.open_for_reading.specs.Tests.{is_of_moving}
use Rattle.command_answers.specs.Printing.{PrintsText}
use Rattle.open_for_reading.proofs.Printings.{IsPrinted, nothing_printed, printed, printed_is_own}
use Rattle.open_for_reading.proofs.Overlaps.{apart_by, refuses_overlap}
use Rattle.open_for_reading.specs.Shown.{IsCutShort, is_of_end, refused}
use Rattle.open_for_reading.specs.World.{World}
use Rattle.command_answers.specs.declared.answer.Answer.{Answer}
use Rattle.command_answers.specs.declared.answer.Answer.TheVariants.{Done, FolderFault, OutOfMemory, OutputFault, Overlap}
use Rattle.command_words.specs.declared.commands.Repairing.{Repairing}
use Rattle.open_for_reading.proofs.Refusals.{opened_gives, opened_is, unless_opened}

-- ---- the tests

missing_then : (at : Path) (there : Found) (answer : Answer) (P Q : Type 0) → (P → Q) → OfMissing at there answer P → OfMissing at there answer Q
missing_then at NoEntry answer P Q f x = f x
missing_then at Folder answer P Q f x = x
missing_then at (FileOf bytes) answer P Q f x = x
missing_then at Special answer P Q f x = x

directory_then : (at : Path) (there : Found) (answer : Answer) (P Q : Type 0) → (P → Q) → OfDirectory at there answer P → OfDirectory at there answer Q
directory_then at NoEntry answer P Q f x = x
directory_then at Folder answer P Q f x = f x
directory_then at (FileOf bytes) answer P Q f x = x
directory_then at Special answer P Q f x = x

free_then : (v : View) (at : Path) (answer : Answer) (P Q : Type 0) → (P → Q) → OfFree v at answer P → OfFree v at answer Q
free_then v at answer P Q f =
    directory_then (parent at) (v (parent at)) answer (OfMissing at (v at) answer P) (OfMissing at (v at) answer Q) (missing_then at (v at) answer P Q f)

free_gives : (v : View) (at : Path) (answer : Answer) (P : Type 0) → ShowsFree v at → P → OfFree v at answer P
free_gives v at answer P free holds =
    subst (λ x. OfDirectory (parent at) x answer (OfMissing at (v at) answer P)) (sym free.1) (subst (λ x. OfMissing at x answer P) (sym free.0) holds)

-- ---- the moving

module _ (target : Repairing) (v : View) where
  abbrev Next : Answer → Vault → Type 0
  Next answer vault = OfFree v target.lost answer (IsOfMoving (format_of vault) (under target.vault v) answer)

  pub not_opened : (answer : Answer) → RefusesOpening v target.vault target.pass answer → Unless answer (OfRepairing target v answer)
  not_opened answer = unless_opened v target.vault target.pass answer (Next answer)

  pub not_free : (vault : Vault) (answer : Answer) → Opens v target.vault target.pass vault → Unless answer (OfFree v target.lost answer ⊥) → Unless answer (OfRepairing target v answer)
  not_free vault answer opens (inl failed) = inl failed
  not_free vault answer opens (inr (inl memory)) = inr (inl memory)
  not_free vault answer opens (inr (inr free)) =
      inr (inr (opened_gives v target.vault target.pass (refused answer) (Next answer) vault opens
      (free_then v target.lost answer ⊥ (IsOfMoving (format_of vault) (under target.vault v) answer) (λ none. absurd none) free)))

  pub moving : (vault : Vault) (answer : Answer) → Opens v target.vault target.pass vault → ShowsFree v target.lost → IsOfMoving (format_of vault) (under target.vault v) answer → OfRepairing target v answer
  moving vault answer opens free is =
      opened_gives v target.vault target.pass (refused answer) (Next answer) vault opens
      (free_gives v target.lost answer (IsOfMoving (format_of vault) (under target.vault v) answer) free is)

  pub moving_or_not : (vault : Vault) (answer : Answer) → Opens v target.vault target.pass vault → ShowsFree v target.lost → Unless answer (IsOfMoving (format_of vault) (under target.vault v) answer)
      → Unless answer (OfRepairing target v answer)
  moving_or_not vault answer opens free (inl failed) = inl failed
  moving_or_not vault answer opens free (inr (inl memory)) = inr (inl memory)
  moving_or_not vault answer opens free (inr (inr is)) = inr (inr (moving vault answer opens free is))

-- a limit, or the folder, or memory
pub not_moved : (f : Format) (w : View) (fault : CheckFault) → IsRepairFault fault → (fault ≡ check.Limit limited.Items → HasTooMany f w) → (fault ≡ check.Limit limited.Depth → IsOnlyTooDeep f w)
    → Unless (of_check fault) (IsOfMoving f w (of_check fault))
not_moved f w (check.Limit limited.Items) is items depth = inr (inr (TooMany refl (items refl)))
not_moved f w (check.Limit limited.Depth) is items depth = inr (inr (TooDeep refl (depth refl)))
not_moved f w (check.Limit (limited.Length at)) is items depth = absurd is
not_moved f w (check.Limit limited.Input) is items depth = absurd is
not_moved f w check.Failed is items depth = inl refl
not_moved f w check.NoMemory is items depth = inr (inl refl)

-- a call of the folder
pub folder_stops : (fault : Fault) (P : Type 0) → Unless (of_check (of_folder fault)) P
folder_stops folder.Failed P = inl refl
folder_stops folder.Refused P = inl refl
folder_stops folder.NoMemory P = inr (inl refl)

pub folder_blamed : (fault : Fault) (n0 n1 n2 : ℕ) → n0 ≤ n1 → CountsAbove {T = Unit {0}} n1 n2 (Err fault) → of_check (of_folder fault) ≡ FolderFault → CountRose n0 n2
folder_blamed folder.Failed n0 n1 n2 le counts is = rose_since n0 n1 n2 le counts.1
folder_blamed folder.Refused n0 n1 n2 le counts is = rose_since n0 n1 n2 le counts.1
folder_blamed folder.NoMemory n0 n1 n2 le counts is = cc is

pub folder_is_no_test : (fault : Fault) → ¬ IsTrue (is_of_test (of_check (of_folder fault)))
folder_is_no_test folder.Failed is = cc
folder_is_no_test folder.Refused is = cc
folder_is_no_test folder.NoMemory is = cc

-- what is known of an answer, and more
pub when_err : {T E : Type 0} (result : Result T E) (P Q : E → Type 0) → ((e : E) → P e → Q e) → IfErr result P → IfErr result Q
when_err (Ok value) P Q more holds = tt
when_err (Err e) P Q more holds = more e holds

pub when_ok : {T E : Type 0} (result : Result T E) (P Q : T → Type 0) → ((x : T) → P x → Q x) → IfOk result P → IfOk result Q
when_ok (Ok value) P Q more holds = more value holds
when_ok (Err e) P Q more holds = tt

-- what a repair of the opened vault says, of what was told before the vault was opened
module _ (target : Repairing) (root : Path) (vault : Vault) (told entered told' : Option Told) (same : root ≡ target.vault) (still : entered ≡ told)
    (opens : IfSeen told (λ v. Opens v target.vault target.pass vault)) (apart : overlap target.vault target.lost ≡ false) where
  pub has_moved : (text : List ℕ) → TellsMoved vault root target.lost text entered told'
      → ((root lost : Path) (moved : List Path) (a b : Told) → IsSound a.state → AreApart root lost → HasOwnFolders vault (under root (seen a.state)) → AreMoved root (format_of vault) lost moved a b
      → OpensAs (format_of vault) (under root (seen a.state)) (under root (seen b.state)) × ((at : Path) → ¬ IsStray (format_of vault) (under root (seen b.state)) at))
      → TellsMovedStrays target text told told'
  has_moved text tells law = (
    tells.moved,
    tells.text_is,
    record {
      vault = vault;
      opens = opens;
      are = subst (λ t. FromTo (λ a b. AreMoved target.vault (format_of vault) target.lost tells.moved a b) t told') still
          (subst (λ p. FromTo (λ a b. AreMoved p (format_of vault) target.lost tells.moved a b) entered told') same tells.are);
      all = subst (λ t. FromTo (HasMadeAll (repair_calls target.lost tells.moved)) t told') still tells.all;
      nothing = λ none. tells.nothing none ∙ still;
      leaves = λ a b sound own moves. law target.vault target.lost tells.moved a b sound (apart_by target.vault target.lost apart) own moves;
    },
  )

  pub has_stopped : (told' ≡ entered) ⊎ FromTo (StopsMoving root (format_of vault) target.lost) entered told' → (told' ≡ told) ⊎ HasStopped target told told'
  has_stopped (inl unchanged) = inl (unchanged ∙ still)
  has_stopped (inr stops) = inr (record {
    vault = vault;
    opens = opens;
    stops = subst (λ t. FromTo (StopsMoving target.vault (format_of vault) target.lost) t told') still
        (subst (λ p. FromTo (StopsMoving p (format_of vault) target.lost) entered told') same stops);
  })

  pub moves_strays : RepairsAt root (format_of vault) target.lost entered told'
      → ((v : View) → IsSeen entered v → HasNoStrays (format_of vault) (under root v) → told' ≡ entered)
      → ((root lost : Path) (s0 s : State) (image : Image) → IsSound s0 → HasNothingPending s0 → AreApart root lost → HasOwnFolders vault (under root (seen s0))
      → IsRepairing root (format_of vault) lost s0 s → IsImage s image → OpensAs (format_of vault) (under root (seen s0)) (under root (view_of image)))
      → MovesStrays target told told'
  moves_strays moments bare law = record {
    vault = vault;
    opens = opens;
    apart = apart_by target.vault target.lost apart;
    moments = subst (λ t. RepairsAt target.vault (format_of vault) target.lost t told') still (subst (λ p. RepairsAt p (format_of vault) target.lost entered told') same moments);
    keeps = λ s0 s image sound settled own repairing is. law target.vault target.lost s0 s image sound settled (apart_by target.vault target.lost apart) own repairing is;
    bare = λ v seen none. bare v (subst (λ t. IsSeen t v) (sym still) seen) (subst (λ p. HasNoStrays (format_of vault) (under p v)) (sym same) none) ∙ still;
  }

pub of_moving : (fault : CheckFault) → IsTrue (is_of_moving (of_check fault))
of_moving (check.Limit limit) = refl
of_moving check.Failed = refl
of_moving check.NoMemory = refl

-- ---- the whole

cut_or : (answer : Answer) (P : Type 0) → Unless answer P → IsCutShort answer ⊎ P
cut_or answer P (inl failed) = inl (inl failed)
cut_or answer P (inr (inl memory)) = inl (inr (inr memory))
cut_or answer P (inr (inr holds)) = inr holds

-- where the vault passes no limit and the place is free, the strays are moved, unless the command is cut short
pub moved_or_cut : HaveOneAnswer → (target : Repairing) (v : View) (answer : Answer) → Unless answer (OfRepairing target v answer) → OpensFree target v → (answer ≡ Done) ⊎ IsCutShort answer
moved_or_cut law target v answer (inl failed) opens = inr (inl failed)
moved_or_cut law target v answer (inr (inl memory)) opens = inr (inr (inr memory))
moved_or_cut law target v answer (inr (inr of)) opens = by_moving (opened_is law v target.vault target.pass (refused answer) (Next target v answer) opens.vault opens.opens of)
  where
    within : IsOfMoving (format_of opens.vault) (under target.vault v) answer → (answer ≡ Done) ⊎ IsCutShort answer
    within (Moved done fits) = inl done
    within (TooMany is many) = absurd (opens.within.items many)
    within (TooDeep is deep) = absurd (opens.within.depth deep.deep)

    by_moving : Next target v answer opens.vault → (answer ≡ Done) ⊎ IsCutShort answer
    by_moving of =
        within (subst (λ x. OfMissing target.lost x answer (IsOfMoving (format_of opens.vault) (under target.vault v) answer)) opens.free.0
        (subst (λ x. OfDirectory (parent target.lost) x answer (OfMissing target.lost (v target.lost) answer (IsOfMoving (format_of opens.vault) (under target.vault v) answer))) opens.free.1 of))

pub repair_refused : (target : Repairing) (answer : Answer) (told told' : Option Told) (taken : Option (List ℕ)) → IsTrue (is_of_moving answer)
    → IfSeen told (λ v. Unless answer (OfRepairing target v answer)) → ((v : View) → IsSeen told v → OpensFree target v → (answer ≡ Done) ⊎ IsCutShort answer)
    → (IsTrue (is_of_test answer) → told' ≡ told) → (told' ≡ told) ⊎ MovesStrays target told told' → (told' ≡ told) ⊎ HasStopped target told told' → RepairsApart target answer told told' taken taken
repair_refused target answer told told' taken own cause complete tested moves stops = record {
  own = or_left (is_of_moving answer) (is_of_end answer) own;
  cause = λ v is. cut_or answer (OfRepairing target v answer) (cause v is);
  complete = complete;
  tested = tested;
  moves = moves;
  ends = inr stops;
  prints = nothing_printed moved_text (λ moved. HasMovedStrays target moved told told') is_of_moving answer taken own refl refl;
}

done_or_cut : (answer : Answer) → IsPrinted answer → (answer ≡ Done) ⊎ IsCutShort answer
done_or_cut answer (inl done) = inl done
done_or_cut answer (inr output) = inr (inr output)

cause_printed : (target : Repairing) (v : View) (answer : Answer) → OfRepairing target v Done → IsPrinted answer → IsCutShort answer ⊎ OfRepairing target v answer
cause_printed target v answer passed (inl done) = inr (subst (λ a. OfRepairing target v a) (sym done) passed)
cause_printed target v answer passed (inr output) = inl (inr output)

not_of_test : (answer : Answer) → IsPrinted answer → ¬ IsTrue (is_of_test answer)
not_of_test answer (inl done) test = let none : IsTrue (is_of_test Done) = subst (λ a. IsTrue (is_of_test a)) done test in cc
not_of_test answer (inr (inl output)) test = let none : IsTrue (is_of_test OutputFault) = subst (λ a. IsTrue (is_of_test a)) output test in cc
not_of_test answer (inr (inr memory)) test = let none : IsTrue (is_of_test OutOfMemory) = subst (λ a. IsTrue (is_of_test a)) memory test in cc

pub repair_printed : (target : Repairing) (text : List ℕ) (answer : Answer) (told told' : Option Told) (taken taken' : Option (List ℕ)) → TellsMovedStrays target text told told'
    → IfSeen told (λ v. OfRepairing target v Done) → (told' ≡ told) ⊎ MovesStrays target told told' → PrintsText text answer taken taken'
    → (answer ≡ Done) ⊎ (answer ≡ OutputFault) → RepairsApart target answer told told' taken taken'
repair_printed target text answer told told' taken taken' tells passed moves prints answers = record {
  own = printed_is_own is_of_moving answer refl is_printed;
  cause = λ v is. cause_printed target v answer (passed v is) is_printed;
  complete = λ v is opens. done_or_cut answer is_printed;
  tested = λ test. absurd (not_of_test answer is_printed test);
  moves = moves;
  ends = inl answers;
  prints = printed moved_text (λ moved. HasMovedStrays target moved told told') tells.0 answer taken taken' tells.2 (subst (λ t. PrintsText t answer taken taken') tells.1 prints) is_printed;
}
  where
    is_printed : IsPrinted answer
    is_printed = elim answers as (λ _. IsPrinted answer) [ inl done ↦ inl done | inr output ↦ inr (inl output) ]

-- of folders that don't overlap
pub repaired_apart : (target : Repairing) (answer : Answer) (before after : World) → overlap target.vault target.lost ≡ false → Keeps before.left after.left → after.random ≡ before.random
    → RepairsApart target answer before.told after.told before.taken after.taken → RepairsVault target answer before after
repaired_apart target answer before after apart untouched undrawn repairs = record {
  apart = subst (λ b. Either b (RefusesOverlap target.vault target.lost answer before after) (RepairsApart target answer before.told after.told before.taken after.taken)) (sym apart) repairs;
  untouched = untouched;
  undrawn = undrawn;
}

-- of others
pub not_repaired : (target : Repairing) (answer : Answer) (w : World) → overlap target.vault target.lost ≡ true → (answer ≡ Overlap target.vault target.lost) ⊎ (answer ≡ OutOfMemory) → RepairsVault target answer w w
not_repaired target answer w overlaps answers = record {
  apart = subst (λ b. Either b (RefusesOverlap target.vault target.lost answer w w) (RepairsApart target answer w.told w.told w.taken w.taken)) (sym overlaps)
      (refuses_overlap target.vault target.lost answer w w.told answers refl);
  untouched = Keeps-refl w.left;
  undrawn = refl;
}
