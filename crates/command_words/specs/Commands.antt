-- The command that words make: the values of what they ask for, in their order, are the arguments of the command. Any other words make none.
use Rattle.std.specs.Prelude.{ℕ, Bool, true, false, List, [], ◌∷◌, drop, Option, None, Some, option_map, option_and_then}
use Rattle.folder_spec.specs.Path.{Path}
use Rattle.plain_tree.specs.Names as plain
use Rattle.plain_tree.specs.declared.name_map.NameMap.{NameMap}
use Rattle.plain_tree.specs.declared.name_map.NameMap.TheVariants.{Same, Nfc}
use Rattle.command_words.specs.Requests.{Request, request_of}
use Rattle.command_words.specs.Values.{flag_value, folder_value, format_value, key_value, number_value, plain_value}
use Rattle.command_words.specs.declared.commands.Change.{Change}
use Rattle.command_words.specs.declared.commands.Checking.{Checking}
use Rattle.command_words.specs.declared.commands.Command.{Command}
use Rattle.command_words.specs.declared.commands.Command.TheVariants as command
use Rattle.command_words.specs.declared.commands.Demonstration.{Demonstration}
use Rattle.command_words.specs.declared.commands.Moving.{Moving}
use Rattle.command_words.specs.declared.commands.NewPass.{NewPass}
use Rattle.command_words.specs.declared.commands.NewVault.{NewVault}
use Rattle.command_words.specs.declared.commands.Passes.{Passes}
use Rattle.command_words.specs.declared.commands.Repairing.{Repairing}
use Rattle.command_words.specs.declared.commands.Resuming.{Resuming}
use Rattle.command_words.specs.declared.commands.Target.{Target}
use Rattle.command_words.specs.declared.rows.Verb.{Verb}
use Rattle.command_words.specs.declared.rows.Verb.TheVariants as verb
use Rattle.command_words.specs.declared.values.Format.{Format}
use Rattle.command_words.specs.declared.values.Value.{Value}

abbrev pub first : List Value → Option Value
first [] = None
first (value ∷ values) = Some value

abbrev pub second : List Value → Option Value
second values = first (drop 1 values)

abbrev pub third : List Value → Option Value
third values = first (drop 1 (drop 1 values))

abbrev pub fourth : List Value → Option Value
fourth values = first (drop 1 (drop 1 (drop 1 values)))

abbrev pub fifth : List Value → Option Value
fifth values = first (drop 1 (drop 1 (drop 1 (drop 1 values))))

abbrev pub sixth : List Value → Option Value
sixth values = first (drop 1 (drop 1 (drop 1 (drop 1 (drop 1 values)))))

abbrev pub new_vault_by : Option Format → Option Path → Option Path → Option Path → Option NewVault
new_vault_by (Some format) (Some vault) (Some pass) (Some work) = Some (record { format = format; vault = vault; pass = pass; work = work })
new_vault_by _ _ _ _ = None

-- `KIND VAULT`, `--pass`, `--work`
abbrev pub new_vault_of : List Value → Option NewVault
new_vault_of values =
    new_vault_by (format_value (first values)) (folder_value (second values)) (folder_value (third values)) (folder_value (fourth values))

abbrev pub new_pass_by : Option Path → Option Path → Option Path → Option Path → Option NewPass
new_pass_by (Some vault) (Some pass) (Some new_pass) (Some work) = Some (record { vault = vault; pass = pass; new_pass = new_pass; work = work })
new_pass_by _ _ _ _ = None

-- `VAULT`, `--pass`, `--new-pass`, `--work`
abbrev pub new_pass_of : List Value → Option NewPass
new_pass_of values =
    new_pass_by (folder_value (first values)) (folder_value (second values)) (folder_value (third values)) (folder_value (fourth values))

abbrev pub target_by : Option Path → Option plain.Path → Option Path → Option Target
target_by (Some vault) (Some path) (Some pass) = Some (record { vault = vault; path = path; pass = pass })
target_by _ _ _ = None

-- `VAULT PATH`, `--pass`
abbrev pub target_of : List Value → Option Target
target_of values = target_by (folder_value (first values)) (plain_value (second values)) (folder_value (third values))

abbrev pub checking_by : Option Path → Option Path → Option Checking
checking_by (Some vault) (Some pass) = Some (record { vault = vault; pass = pass })
checking_by _ _ = None

-- `VAULT`, `--pass`
abbrev pub checking_of : List Value → Option Checking
checking_of values = checking_by (folder_value (first values)) (folder_value (second values))

abbrev pub change_by : Option Target → Option Path → Option Change
change_by (Some target) (Some work) = Some (record { target = target; work = work })
change_by _ _ = None

-- `VAULT PATH`, `--pass`, `--work`
abbrev pub change_of : List Value → Option Change
change_of values = change_by (target_of values) (folder_value (fourth values))

abbrev pub repairing_by : Option Path → Option Path → Option Path → Option Repairing
repairing_by (Some vault) (Some lost) (Some pass) = Some (record { vault = vault; lost = lost; pass = pass })
repairing_by _ _ _ = None

-- `VAULT LOST`, `--pass`
abbrev pub repairing_of : List Value → Option Repairing
repairing_of values = repairing_by (folder_value (first values)) (folder_value (second values)) (folder_value (third values))

abbrev pub passes_of : Option Path → Option Path → Option Passes
passes_of (Some source) (Some target) = Some (record { source = source; target = target })
passes_of _ _ = None

-- the rule for names, with `--nfc` or without it
abbrev pub names_by : Bool → NameMap
names_by true = Nfc
names_by false = Same

abbrev pub moving_by : Option Path → Option Path → Option Path → Option Passes → Option Bool → Option Moving
moving_by (Some source) (Some target) (Some work) (Some passes) (Some nfc) =
    Some (record { source = source; target = target; work = work; passes = passes; names = names_by nfc })
moving_by _ _ _ _ _ = None

-- `FROM TO WORK`, `--from-pass`, `--to-pass`, `--nfc`
abbrev pub moving_of : List Value → Option Moving
moving_of values =
    moving_by (folder_value (first values)) (folder_value (second values)) (folder_value (third values))
    (passes_of (folder_value (fourth values)) (folder_value (fifth values))) (flag_value (sixth values))

abbrev pub resuming_by : Option Path → Option Passes → Option Resuming
resuming_by (Some work) (Some passes) = Some (record { work = work; passes = passes })
resuming_by _ _ = None

-- `WORK`, `--from-pass`, `--to-pass`
abbrev pub resuming_of : List Value → Option Resuming
resuming_of values = resuming_by (folder_value (first values)) (passes_of (folder_value (second values)) (folder_value (third values)))

abbrev pub demonstration_by : Option ℕ → Option ℕ → Option Demonstration
demonstration_by (Some seed) (Some count) = Some (record { seed = seed; count = count })
demonstration_by _ _ = None

-- `SEED COUNT`
abbrev pub demonstration_of : List Value → Option Demonstration
demonstration_of values = demonstration_by (number_value (first values)) (number_value (second values))

-- the command of what its words write
abbrev pub command_by : Verb → List Value → Option Command
command_by verb.DecryptFile values = option_map command.DecryptFile (key_value (first values))
command_by verb.Init values = option_map command.Init (new_vault_of values)
command_by verb.Ls values = option_map command.Ls (target_of values)
command_by verb.Cat values = option_map command.Cat (target_of values)
command_by verb.Fsck values = option_map command.Fsck (checking_of values)
command_by verb.Mkdir values = option_map command.Mkdir (change_of values)
command_by verb.Put values = option_map command.Put (change_of values)
command_by verb.Repair values = option_map command.Repair (repairing_of values)
command_by verb.Migrate values = option_map command.Migrate (moving_of values)
command_by verb.Resume values = option_map command.Resume (resuming_of values)
command_by verb.Retire values = option_map command.Retire (resuming_of values)
command_by verb.Passwd values = option_map command.Passwd (new_pass_of values)
command_by verb.Demo values = option_map command.Demo (demonstration_of values)

abbrev pub command_in : Request → Option Command
command_in request = command_by request.row.verb request.values

-- the command that words make
abbrev pub command_of : List (List ℕ) → Option Command
command_of words = option_and_then command_in (request_of words)

-- which command it is
abbrev pub verb_of : Command → Verb
verb_of (command.DecryptFile key) = verb.DecryptFile
verb_of (command.Init new) = verb.Init
verb_of (command.Mkdir change) = verb.Mkdir
verb_of (command.Put change) = verb.Put
verb_of (command.Ls target) = verb.Ls
verb_of (command.Cat target) = verb.Cat
verb_of (command.Fsck checking) = verb.Fsck
verb_of (command.Repair repairing) = verb.Repair
verb_of (command.Migrate moving) = verb.Migrate
verb_of (command.Resume resuming) = verb.Resume
verb_of (command.Retire resuming) = verb.Retire
verb_of (command.Passwd new) = verb.Passwd
verb_of (command.Demo demonstration) = verb.Demo
