-- What an answer to a call that makes something tells of the call.
use Rattle.std.proofs.Common.{◌≡◌, ◌⊎◌, Result, Ok, Err, IfErr, inl, inr, refl, subst}
use Rattle.item_making.specs.declared.fault.PutFault.{PutFault}
use Rattle.item_making.specs.declared.fault.PutFault.TheVariants as puts
use Rattle.vault_faults.specs.declared.fault.FindFault.TheVariants as finds
use Rattle.writing_commands.specs.Faults.{answer_to_making}
use Rattle.command_answers.specs.declared.answer.Answer.{Answer}
use Rattle.command_answers.specs.declared.answer.Answer.TheVariants.{Done, FolderFault, InputFault, RandomFault}

abbrev Tells : Answer → Result (Unit {0}) PutFault → Type 0
Tells Done result = result ≡ Ok tt
Tells FolderFault result = (result ≡ Err puts.Failed) ⊎ (result ≡ Err (puts.Find finds.Failed))
Tells InputFault result = result ≡ Err puts.Source
Tells RandomFault result = result ≡ Err puts.Random
Tells answer result = Unit {0}

tells : (result : Result (Unit {0}) PutFault) → Tells (answer_to_making result) result
tells (Ok done) = refl
tells (Err puts.Failed) = inl refl
tells (Err (puts.Find finds.Failed)) = inr refl
tells (Err puts.Source) = refl
tells (Err puts.Random) = refl
tells (Err (puts.Find fault)) = tt
tells (Err fault) = tt

told_by : (result : Result (Unit {0}) PutFault) (answer : Answer) → answer_to_making result ≡ answer → Tells answer result
told_by result answer is = subst (λ a. Tells a result) is (tells result)

pub all_done : (result : Result (Unit {0}) PutFault) → answer_to_making result ≡ Done → result ≡ Ok tt
all_done result is = told_by result Done is

-- the folder failed, where finding isn't answered so
pub folder_failed : (Is : PutFault → Type 0) → ¬ Is (puts.Find finds.Failed) → (result : Result (Unit {0}) PutFault) → IfErr result Is → answer_to_making result ≡ FolderFault → result ≡ Err puts.Failed
folder_failed Is none result own is = elim (told_by result FolderFault is) [ inl failed ↦ failed | inr found ↦ absurd (none (subst (λ r. IfErr r Is) found own)) ]

pub input_failed : (result : Result (Unit {0}) PutFault) → answer_to_making result ≡ InputFault → result ≡ Err puts.Source
input_failed result is = told_by result InputFault is

pub random_failed : (result : Result (Unit {0}) PutFault) → answer_to_making result ≡ RandomFault → result ≡ Err puts.Random
random_failed result is = told_by result RandomFault is
