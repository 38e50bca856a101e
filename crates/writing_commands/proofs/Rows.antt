-- How `init`, `mkdir`, `put` and `passwd` carry out what they do, whose answers are of their rows.
use Rattle.std.proofs.Common.{◌≡◌, ◌⊎◌, Bool, true, false, IsTrue, List, ℕ, Option, Some, Result, Ok, Err, inl, inr, refl, sym, subst}
use Rattle.std.specs.Prelude.{⊤}
use Rattle.item_making.specs.declared.fault.PutFault.{PutFault}
use Rattle.item_making.specs.declared.fault.PutFault.TheVariants as puts
use Rattle.cryptomator_conf.specs.declared.conf.Combo.{Combo}
use Rattle.cryptomator_conf.specs.declared.conf.Combo.TheVariants.{SivGcm, SivCtrMac}
use Rattle.folder_spec.specs.Path.{Part, Path}
use Rattle.folder_spec.specs.View.{View}
use Rattle.port_model.specs.Draws.{ByteStream}
use Rattle.vault_read.specs.declared.fault.LoadFault.TheVariants as load
use Rattle.vault_spec.specs.Vault.{Either}
use Rattle.passwd_core.specs.declared.fault.PassFault.{PassFault}
use Rattle.passwd_core.specs.declared.fault.PassFault.TheVariants as fault
use Rattle.command_answers.specs.Answers.{status_of}
use Rattle.command_answers.specs.Rows.{Ends, may_end}
use Rattle.command_answers.specs.declared.answer.Answer.{Answer}
use Rattle.command_answers.specs.declared.answer.Answer.TheVariants.{Done, OutOfMemory, FolderFault, InputFault, OutputFault, RandomFault, Overlap}
use Rattle.command_words.specs.declared.commands.Change.{Change}
use Rattle.command_words.specs.declared.commands.Command.{Command}
use Rattle.command_words.specs.declared.commands.Command.TheVariants.{Init, Mkdir, Put, Passwd}
use Rattle.command_words.specs.declared.commands.NewPass.{NewPass}
use Rattle.command_words.specs.declared.commands.NewVault.{NewVault}
use Rattle.command_words.specs.declared.values.Format.{Format}
use Rattle.command_words.specs.declared.values.Format.TheVariants.{Gocryptfs, Cryptomator, CryptomatorCtrMac}
use Rattle.open_for_changing.specs.Faults.{of_put}
use Rattle.open_for_changing.specs.Beginning.{MakesApart, MakesBeside}
use Rattle.open_for_reading.proofs.Carrying.{blamed, carried, unnamed}
use Rattle.open_for_reading.specs.Carrying.{CarriesOut}
use Rattle.open_for_reading.specs.Tests.{is_of_beginning, is_of_readying}
use Rattle.writing_commands.specs.Faults.{answer_to_making}
use Rattle.writing_commands.specs.Init.{DrawsCryptomator, DrawsVault, MakesVault}
use Rattle.writing_commands.specs.Mkdir.{MakesDirectoryIn, is_of_directory}
use Rattle.open_for_reading.specs.Places.{overlap, RefusesOverlap}
use Rattle.writing_commands.specs.Passwd.{ChangesPassphrase, answer_to_change}
use Rattle.writing_commands.specs.Put.{StoresFile, is_of_file}
use Rattle.open_for_reading.specs.World.{World}

-- ---- by the answer: the first clause takes one, and the last each of the others

readying_row : (new : NewVault) (answer : Answer) → IsTrue (is_of_readying answer) → IsTrue (may_end (Some (Init new)) (status_of answer))
readying_row new Done own = cc
readying_row new answer own = cc

directory_begun : (change : Change) (answer : Answer) → IsTrue (is_of_beginning answer) → IsTrue (may_end (Some (Mkdir change)) (status_of answer))
directory_begun change Done own = cc
directory_begun change answer own = cc

directory_row : (change : Change) (answer : Answer) → IsTrue (is_of_directory answer) → IsTrue (may_end (Some (Mkdir change)) (status_of answer))
directory_row change Done own = cc
directory_row change answer own = cc

file_begun : (change : Change) (answer : Answer) → IsTrue (is_of_beginning answer) → IsTrue (may_end (Some (Put change)) (status_of answer))
file_begun change Done own = cc
file_begun change answer own = cc

file_row : (change : Change) (answer : Answer) → IsTrue (is_of_file answer) → IsTrue (may_end (Some (Put change)) (status_of answer))
file_row change Done own = cc
file_row change answer own = cc

passwd_readied : (new : NewPass) (answer : Answer) → IsTrue (is_of_readying answer) → IsTrue (may_end (Some (Passwd new)) (status_of answer))
passwd_readied new Done own = cc
passwd_readied new answer own = cc

-- a passphrase that is changed, or isn't
change_row : (new : NewPass) (result : Result (Unit {0}) PassFault) → IsTrue (may_end (Some (Passwd new)) (status_of (answer_to_change new.vault result)))
change_row new (Ok done) = refl
change_row new (Err (fault.Load (load.Missing at))) = refl
change_row new (Err (fault.Load (load.WrongKind at))) = refl
change_row new (Err (fault.Load (load.TooLarge at))) = refl
change_row new (Err (fault.Load (load.Go why))) = refl
change_row new (Err (fault.Load (load.Cm at why))) = refl
change_row new (Err (fault.Load load.WrongPass)) = refl
change_row new (Err (fault.Load load.BadSignature)) = refl
change_row new (Err (fault.Load load.Failed)) = refl
change_row new (Err (fault.Load load.NoMemory)) = refl
change_row new (Err fault.ZeroRandom) = refl
change_row new (Err fault.Random) = refl
change_row new (Err fault.Failed) = refl
change_row new (Err fault.NoMemory) = refl

-- a vault of Cryptomator that isn't founded
cryptomator_row : (new : NewVault) (combo : Combo) (phrase : List ℕ) (made : View) (files : List (Part × List ℕ)) (stream stream' : Option ByteStream) (fault : PutFault)
    → DrawsCryptomator combo phrase made files stream stream' (Err fault) → IsTrue (may_end (Some (Init new)) (status_of (of_put fault)))
cryptomator_row new combo phrase made files stream stream' puts.Failed draws = refl
cryptomator_row new combo phrase made files stream stream' puts.NoMemory draws = refl
cryptomator_row new combo phrase made files stream stream' puts.ZeroRandom draws = refl
cryptomator_row new combo phrase made files stream stream' puts.Random draws = refl
cryptomator_row new combo phrase made files stream stream' fault draws = absurd draws.4

-- a vault that is founded, or isn't
founding_row : (new : NewVault) (kind : Format) (phrase : List ℕ) (made : View) (files : List (Part × List ℕ)) (stream stream' : Option ByteStream) (result : Result (Unit {0}) PutFault)
    → DrawsVault kind phrase made files stream stream' result → IsTrue (may_end (Some (Init new)) (status_of (answer_to_making result)))
founding_row new kind phrase made files stream stream' (Ok done) draws = refl
founding_row new Gocryptfs phrase made files stream stream' (Err puts.Failed) draws = refl
founding_row new Gocryptfs phrase made files stream stream' (Err puts.NoMemory) draws = refl
founding_row new Gocryptfs phrase made files stream stream' (Err puts.ZeroRandom) draws = refl
founding_row new Gocryptfs phrase made files stream stream' (Err puts.Random) draws = refl
founding_row new Gocryptfs phrase made files stream stream' (Err fault) draws = absurd draws.5
founding_row new Cryptomator phrase made files stream stream' (Err fault) draws = cryptomator_row new SivGcm phrase made files stream stream' fault draws
founding_row new CryptomatorCtrMac phrase made files stream stream' (Err fault) draws = cryptomator_row new SivCtrMac phrase made files stream stream' fault draws

-- ---- by the command

-- overlapping folders, where the row has 15
two_row : (command : Option Command) (answer : Answer) (one other : Path) → Ends command (Overlap one other) → Ends command OutOfMemory → (answer ≡ Overlap one other) ⊎ (answer ≡ OutOfMemory) → Ends command answer
two_row command answer one other overlaps memory (inl two) = subst (Ends command) (sym two) overlaps
two_row command answer one other overlaps memory (inr none) = subst (Ends command) (sym none) memory

-- what makes something beside a work folder
beside_row : (command : Option Command) (is_own : Answer → Bool) (vault work : Path) (Tests : View → Type 0) (Makes : Type 0) (answer : Answer) (before after : World) → MakesBeside is_own vault work Tests Makes answer before after
    → Ends command (Overlap vault work) → Ends command OutOfMemory → (IsTrue (is_own answer) → Ends command answer) → (Makes → Ends command answer) → Ends command answer
beside_row command is_own vault work Tests Makes answer before after did overlaps memory ended made = by (overlap vault work) did.apart
  where
    by : (b : Bool) → Either b (RefusesOverlap vault work answer before after) (MakesApart is_own work Tests Makes answer before after) → Ends command answer
    by true refuses = two_row command answer vault work overlaps memory refuses.answers
    by false makes = elim makes.comes [ inl ends ↦ ended ends.own | inr comes ↦ made comes ]

init_row : (new : NewVault) (answer : Answer) (before after : World) → MakesVault new answer before after → Ends (Some (Init new)) answer
init_row new answer before after did =
    beside_row (Some (Init new)) is_of_readying new.vault new.work _ _ answer before after did.makes refl refl (readying_row new answer)
    (λ founds. subst (Ends (Some (Init new))) (sym founds.is) (founding_row new new.format founds.phrase founds.made founds.files before.random after.random founds.result founds.draws))

mkdir_row : (change : Change) (answer : Answer) (before after : World) → MakesDirectoryIn change answer before after → Ends (Some (Mkdir change)) answer
mkdir_row change answer before after did =
    beside_row (Some (Mkdir change)) is_of_beginning change.target.vault change.work _ _ answer before after did.changes refl refl (directory_begun change answer) (λ there. directory_row change answer there.own)

put_row : (change : Change) (answer : Answer) (before after : World) → StoresFile change answer before after → Ends (Some (Put change)) answer
put_row change answer before after did =
    beside_row (Some (Put change)) is_of_beginning change.target.vault change.work _ _ answer before after did refl refl (file_begun change answer) (λ there. file_row change answer there.own)

passwd_row : (new : NewPass) (answer : Answer) (before after : World) → ChangesPassphrase new answer before after → Ends (Some (Passwd new)) answer
passwd_row new answer before after did =
    beside_row (Some (Passwd new)) is_of_readying new.vault new.work _ _ answer before after did.changes refl refl (passwd_readied new answer)
    (λ rekeys. elim rekeys.is [ inl memory ↦ subst (Ends (Some (Passwd new))) (sym memory) refl | inr is ↦ subst (Ends (Some (Passwd new))) (sym is) (change_row new rekeys.result) ])

pub init_carried : (new : NewVault) (answer : Answer) (before after : World) (folder input output random : Type 0) → MakesVault new answer before after → (answer ≡ FolderFault → folder) → (answer ≡ RandomFault → random)
    → CarriesOut (Init new) (MakesVault new) (λ v. ⊤) answer before after folder input output random
init_carried new answer before after folder input output random did failed undrawn =
    let ends : Ends (Some (Init new)) answer = init_row new answer before after did in
    carried (Init new) (MakesVault new) answer before after folder input output random refl did ends
    (blamed answer folder input output random failed (unnamed (Init new) answer InputFault input ends refl) (unnamed (Init new) answer OutputFault output ends refl) undrawn)

pub mkdir_carried : (change : Change) (answer : Answer) (before after : World) (folder input output random : Type 0) → MakesDirectoryIn change answer before after → (answer ≡ FolderFault → folder) → (answer ≡ RandomFault → random)
    → CarriesOut (Mkdir change) (MakesDirectoryIn change) (λ v. ⊤) answer before after folder input output random
mkdir_carried change answer before after folder input output random did failed undrawn =
    let ends : Ends (Some (Mkdir change)) answer = mkdir_row change answer before after did in
    carried (Mkdir change) (MakesDirectoryIn change) answer before after folder input output random refl did ends
    (blamed answer folder input output random failed (unnamed (Mkdir change) answer InputFault input ends refl) (unnamed (Mkdir change) answer OutputFault output ends refl) undrawn)

pub put_carried : (change : Change) (answer : Answer) (before after : World) (folder input output random : Type 0) → StoresFile change answer before after → (answer ≡ FolderFault → folder) → (answer ≡ InputFault → input) → (answer ≡ RandomFault → random)
    → CarriesOut (Put change) (StoresFile change) (λ v. ⊤) answer before after folder input output random
put_carried change answer before after folder input output random did failed unread undrawn =
    let ends : Ends (Some (Put change)) answer = put_row change answer before after did in
    carried (Put change) (StoresFile change) answer before after folder input output random refl did ends
    (blamed answer folder input output random failed unread (unnamed (Put change) answer OutputFault output ends refl) undrawn)

pub passwd_carried : (new : NewPass) (answer : Answer) (before after : World) (folder input output random : Type 0) → ChangesPassphrase new answer before after → (answer ≡ FolderFault → folder) → (answer ≡ RandomFault → random)
    → CarriesOut (Passwd new) (ChangesPassphrase new) (λ v. ⊤) answer before after folder input output random
passwd_carried new answer before after folder input output random did failed undrawn =
    let ends : Ends (Some (Passwd new)) answer = passwd_row new answer before after did in
    carried (Passwd new) (ChangesPassphrase new) answer before after folder input output random refl did ends
    (blamed answer folder input output random failed (unnamed (Passwd new) answer InputFault input ends refl) (unnamed (Passwd new) answer OutputFault output ends refl) undrawn)
