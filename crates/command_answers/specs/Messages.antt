-- Messages. Each is one line on the error stream, and a command that is done writes none, nor does a check that has findings. Paths, and
-- the texts of a configuration, are in their shown form.
use Rattle.std.specs.Prelude.{◌≡◌, ◌⊎◌, ℕ, Bool, true, false, List, [], ◌∷◌, ◌++◌, codes, decimal, nat_eq, if◌then◌else◌, Option}
use Rattle.std.specs.Io.KnownBytes.{Appends}
use Rattle.port_model.specs.Counts.{CountRose}
use Rattle.port_model.specs.Told.{AppendsPrefix}
use Rattle.chunk_files.specs.Fault.{fault_text}
use Rattle.cryptomator_conf.specs.Fault as cryptomator
use Rattle.gocrypt_conf.specs.Fault as gocryptfs
use Rattle.hex.specs.Hex.{encode_lower}
use Rattle.plain_tree.specs.Shown.{shown, shown_path}
use Rattle.command_answers.specs.declared.answer.Answer.{Answer}
use Rattle.command_answers.specs.declared.answer.Answer.TheVariants.{Done, Findings, BadCommandLine, OutOfMemory, FolderFault, InputFault, OutputFault, RandomFault, Refused, WrongPass, NotFound, WrongKind, DamagedInput, Damaged, NotAllowed, NotClean, Overlap, NotEmpty, Begun, Unusable, Changed, Differ, ZeroRandom, Taken, Limit, Retired, Meet}
use Rattle.command_answers.specs.declared.answer.Named.{Named}
use Rattle.command_answers.specs.declared.answer.Named.TheVariants as named
use Rattle.command_answers.specs.declared.answer.Refusal.{Refusal}
use Rattle.command_answers.specs.declared.answer.Refusal.TheVariants as refusal
use Rattle.command_answers.specs.declared.answer.Damage.{Damage}
use Rattle.command_answers.specs.declared.answer.Damage.TheVariants as damage
use Rattle.command_answers.specs.declared.answer.Difference.{Difference}
use Rattle.command_answers.specs.declared.answer.Difference.TheVariants as difference
use Rattle.command_answers.specs.declared.answer.Flaw.{Flaw}
use Rattle.command_answers.specs.declared.answer.Flaw.TheVariants as flaw
use Rattle.command_answers.specs.declared.answer.Limit as limits
use Rattle.command_answers.specs.declared.answer.Limit.TheVariants as limit

abbrev pub named_text : Named → List ℕ
named_text (named.Folder at) = shown_path at
named_text (named.Plain path) = shown_path path

abbrev pub refusal_text : Refusal → List ℕ
refusal_text (refusal.Gocryptfs fault) = shown (gocryptfs.fault_text fault)
refusal_text (refusal.Cryptomator fault) = shown (cryptomator.fault_text fault)
refusal_text refusal.Signature = codes "signature"

abbrev pub damage_text : Damage → List ℕ
damage_text (damage.Content fault) = fault_text fault
damage_text damage.NoDirKey = codes "no directory key"
damage_text damage.NoFolder = codes "no folder"

abbrev pub limit_text : limits.Limit → List ℕ
limit_text limit.Depth = codes "depth"
limit_text limit.Items = codes "items"
limit_text (limit.Length at) = codes "length " ++ shown_path at
limit_text limit.PassFile = codes "pass file"
limit_text limit.Input = codes "input"
limit_text limit.Removal = codes "removal"

-- the name of the findings of a number
abbrev pub name_numbered : ℕ → List ℕ
name_numbered n =
    if nat_eq n 1 then codes "BadStoredName"
    else if nat_eq n 2 then codes "NoDirKey"
    else if nat_eq n 3 then codes "LongNameLost"
    else if nat_eq n 4 then codes "OrphanLongName"
    else if nat_eq n 5 then codes "DirIdTwice"
    else if nat_eq n 6 then codes "NoFolder"
    else if nat_eq n 7 then codes "OrphanFolder"
    else if nat_eq n 8 then codes "SymlinkFound"
    else if nat_eq n 9 then codes "WrongKind"
    else if nat_eq n 10 then codes "ExtraEntry"
    else if nat_eq n 11 then codes "TwoKinds"
    else if nat_eq n 12 then codes "HeaderDamaged"
    else if nat_eq n 13 then codes "ChunkDamaged"
    else codes "EmptyOrphan"

abbrev pub flaw_text : Flaw → List ℕ
flaw_text flaw.Missing = codes "missing"
flaw_text (flaw.Line number) = codes "line " ++ decimal number
flaw_text flaw.Building = codes "building"

-- a digest and a number of items
abbrev pub plan_text : List ℕ → ℕ → List ℕ
plan_text plan items = encode_lower plan ++ codes " " ++ decimal items

abbrev pub differing_text : Difference → List ℕ
differing_text difference.Missing = codes "missing"
differing_text difference.Kind = codes "kind"
differing_text difference.Content = codes "content"
differing_text difference.Extra = codes "extra"

abbrev pub message_of : Answer → List ℕ
message_of Done = []
message_of Findings = []
message_of BadCommandLine = codes "bad command line"
message_of OutOfMemory = codes "out of memory"
message_of FolderFault = codes "folder fault"
message_of InputFault = codes "input fault"
message_of OutputFault = codes "output fault"
message_of RandomFault = codes "random fault"
message_of (Refused at why) = codes "configuration refused: " ++ shown_path at ++ codes ": " ++ refusal_text why
message_of (WrongPass root) = codes "wrong passphrase: " ++ shown_path root
message_of (NotFound what) = codes "not found: " ++ named_text what
message_of (WrongKind what) = codes "wrong kind: " ++ named_text what
message_of (DamagedInput fault) = codes "damaged: input: " ++ fault_text fault
message_of (Damaged at how) = codes "damaged: " ++ shown_path at ++ codes ": " ++ damage_text how
message_of (NotAllowed path) = codes "name not allowed: " ++ shown_path path
message_of (NotClean at number) = codes "vault not clean: " ++ shown_path at ++ codes ": " ++ name_numbered number
message_of (Overlap first second) = codes "folders overlap: " ++ shown_path first ++ codes " " ++ shown_path second
message_of (NotEmpty at) = codes "not empty: " ++ shown_path at
message_of (Begun work) = codes "already begun: " ++ shown_path work
message_of (Unusable work why) = codes "no usable journal: " ++ shown_path work ++ codes ": " ++ flaw_text why
message_of (Changed plan items plan' items') = codes "source changed: " ++ plan_text plan items ++ codes " " ++ plan_text plan' items'
message_of (Differ path how) = codes "trees differ: " ++ shown_path path ++ codes ": " ++ differing_text how
message_of ZeroRandom = codes "zero random bytes"
message_of (Taken at) = codes "place taken: " ++ shown_path at
message_of (Limit which) = codes "limit: " ++ limit_text which
message_of (Retired work) = codes "source retired: " ++ shown_path work
message_of (Meet one other) = codes "names meet: " ++ shown_path one ++ codes " " ++ shown_path other

abbrev pub line : List ℕ → List ℕ
line text = codes "vaultmove: " ++ text ++ 10 ∷ []

-- the line of a message, where there is one
abbrev pub line_with : List ℕ → List ℕ
line_with [] = []
line_with (byte ∷ text) = line (byte ∷ text)

abbrev pub line_of : Answer → List ℕ
line_of answer = line_with (message_of answer)

-- whether an answer's message names nothing, so that its line takes no memory
abbrev pub is_plain : Answer → Bool
is_plain Done = true
is_plain Findings = true
is_plain BadCommandLine = true
is_plain OutOfMemory = true
is_plain FolderFault = true
is_plain InputFault = true
is_plain OutputFault = true
is_plain RandomFault = true
is_plain ZeroRandom = true
is_plain answer = false

-- a stream took this text, or a front part of it where its count of faults rose
abbrev pub TakesText : Option (List ℕ) → Option (List ℕ) → ℕ → ℕ → List ℕ → Type 0
TakesText taken taken' faults faults' text = Appends taken taken' text ⊎ (CountRose faults faults' × AppendsPrefix taken taken' text)

-- what is reported of an answer: it, or want of memory, where the message of one that names something found none
abbrev pub IsReported : Answer → Answer → Type 0
IsReported answer reported = (reported ≡ answer) ⊎ ((reported ≡ OutOfMemory) × (is_plain answer ≡ false))
