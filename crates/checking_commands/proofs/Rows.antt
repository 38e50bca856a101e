-- How `fsck` and `repair` carry out what they do, whose answers are of their rows.
use Rattle.std.proofs.Common.{◌≡◌, Bool, true, false, IsTrue, Some, inl, inr, refl, sym, subst}
use Rattle.std.specs.Prelude.{⊤}
use Rattle.vault_spec.specs.Vault.{Either}
use Rattle.command_answers.specs.Answers.{status_of}
use Rattle.command_answers.specs.Rows.{Ends, may_end}
use Rattle.command_answers.specs.declared.answer.Answer.{Answer}
use Rattle.command_answers.specs.declared.answer.Answer.TheVariants.{Done, FolderFault, InputFault, OutputFault, RandomFault}
use Rattle.open_for_reading.proofs.Carrying.{blamed, carried, unnamed}
use Rattle.open_for_reading.specs.Carrying.{CarriesOut}
use Rattle.open_for_reading.specs.Places.{overlap, RefusesOverlap}
use Rattle.open_for_reading.specs.World.{World}
use Rattle.command_words.specs.declared.commands.Checking.{Checking}
use Rattle.command_words.specs.declared.commands.Command.TheVariants.{Fsck, Repair}
use Rattle.command_words.specs.declared.commands.Repairing.{Repairing}
use Rattle.checking_commands.specs.Fsck.{ChecksVault, is_of_checking}
use Rattle.checking_commands.specs.Repair.{RepairsApart, RepairsVault, is_of_repairing}

-- by the answer: the first clause takes one, and the last each of the others
checking_row : (checking : Checking) (answer : Answer) → IsTrue (is_of_checking answer) → IsTrue (may_end (Some (Fsck checking)) (status_of answer))
checking_row checking Done own = cc
checking_row checking answer own = cc

repairing_row : (repairing : Repairing) (answer : Answer) → IsTrue (is_of_repairing answer) → IsTrue (may_end (Some (Repair repairing)) (status_of answer))
repairing_row repairing Done own = cc
repairing_row repairing answer own = cc

pub fsck_carried : (target : Checking) (answer : Answer) (before after : World) (folder input output random : Type 0) → ChecksVault target answer before after → (answer ≡ FolderFault → folder) → (answer ≡ OutputFault → output)
    → CarriesOut (Fsck target) (ChecksVault target) (λ v. ⊤) answer before after folder input output random
fsck_carried target answer before after folder input output random did failed unwritten =
    let ends : Ends (Some (Fsck target)) answer = checking_row target answer did.own in
    carried (Fsck target) (ChecksVault target) answer before after folder input output random refl did ends
    (blamed answer folder input output random failed (unnamed (Fsck target) answer InputFault input ends refl) unwritten (unnamed (Fsck target) answer RandomFault random ends refl))

repair_row : (target : Repairing) (answer : Answer) (before after : World) → RepairsVault target answer before after → Ends (Some (Repair target)) answer
repair_row target answer before after did = by (overlap target.vault target.lost) did.apart
  where
    by : (b : Bool) → Either b (RefusesOverlap target.vault target.lost answer before after) (RepairsApart target answer before.told after.told before.taken after.taken) → Ends (Some (Repair target)) answer
    by true refuses = elim refuses.answers [ inl two ↦ subst (Ends (Some (Repair target))) (sym two) refl | inr memory ↦ subst (Ends (Some (Repair target))) (sym memory) refl ]
    by false repairs = repairing_row target answer repairs.own

pub repair_carried : (target : Repairing) (answer : Answer) (before after : World) (folder input output random : Type 0) → RepairsVault target answer before after → (answer ≡ FolderFault → folder) → (answer ≡ OutputFault → output)
    → CarriesOut (Repair target) (RepairsVault target) (λ v. ⊤) answer before after folder input output random
repair_carried target answer before after folder input output random did failed unwritten =
    let ends : Ends (Some (Repair target)) answer = repair_row target answer before after did in
    carried (Repair target) (RepairsVault target) answer before after folder input output random refl did ends
    (blamed answer folder input output random failed (unnamed (Repair target) answer InputFault input ends refl) unwritten (unnamed (Repair target) answer RandomFault random ends refl))
