-- `demo`: what it prints, and how it ends.
use Rattle.std.specs.Prelude.{◌≡◌, ◌≢◌, ◌==◌, ◌||◌, ℕ, Bool, true, false, List, [], ◌∷◌, ◌++◌, codes, decimal, Option, Some, Result, Ok, Err, IsTrue}
use Rattle.std.specs.Io.KnownBytes.{Appends, Keeps}
use Rattle.demo_core.specs.Demonstration.{totals_of}
use Rattle.demo_core.specs.Drawing.{Drew, seed_stream}
use Rattle.demo_core.specs.Sharing.{SharesPlace}
use Rattle.folder_model.specs.Memory.{new_told}
use Rattle.folder_spec.specs.Event.{Told}
use Rattle.folder_spec.specs.Path.{Part, Path}
use Rattle.folder_spec.specs.Seen.{IsSeen}
use Rattle.folder_spec.specs.View.{Folder, NoEntry, View}
use Rattle.item_making.specs.declared.fault.PutFault.TheVariants as put
use Rattle.migrate_core.specs.Completing.{IsOfChance}
use Rattle.migrate_core.specs.declared.fault.MoveFault.{MoveFault}
use Rattle.migrate_core.specs.declared.fault.MoveFault.TheVariants.{Failed, Match as Matching, Place}
use Rattle.port_model.specs.Counts.{CountRose}
use Rattle.port_model.specs.Draws.{ByteStream}
use Rattle.port_model.specs.Told.{AppendsPrefix}
use Rattle.tree_match.specs.declared.answer.MatchFault.TheVariants as match
use Rattle.vault_faults.specs.declared.fault.Limit.TheVariants as limit
use Rattle.migration_answers.specs.Stops.{is_of_stop}
use Rattle.open_for_reading.specs.World.{World}
use Rattle.command_answers.specs.declared.answer.Answer.{Answer}
use Rattle.command_answers.specs.declared.answer.Answer.TheVariants.{Done, OutOfMemory, FolderFault, OutputFault, RandomFault, Unusable, ZeroRandom, Taken}
use Rattle.demonstration.specs.declared.leading.Led.{Led}
use Rattle.demonstration.specs.declared.leading.Led.TheVariants.{Stopped, Retired}
use Rattle.demonstration.specs.declared.leading.Leg.{Leg}
use Rattle.demonstration.specs.declared.leading.Leg.TheVariants.{There, Back}
use Rattle.demonstration.specs.declared.demonstrating.Way.{Way as Ended}
use Rattle.demonstration.specs.declared.demonstrating.Way.TheVariants as ways
use Rattle.command_words.specs.declared.commands.Demonstration.{Demonstration}

-- what the items come to, once they stand
abbrev pub made_text : ℕ → ℕ → List ℕ
made_text seed count =
    codes "demo seed " ++ decimal seed ++ codes " count " ++ decimal count ++ 10 ∷ []
    ++ codes "directories " ++ decimal (totals_of seed count).directories ++ codes " files " ++ decimal (totals_of seed count).files
    ++ codes " bytes " ++ decimal (totals_of seed count).bytes ++ 10 ∷ []

-- the status of each migration
abbrev pub to_cryptomator_text : ℕ → List ℕ
to_cryptomator_text status = codes "to cryptomator " ++ decimal status ++ 10 ∷ []

abbrev pub to_gocryptfs_text : ℕ → List ℕ
to_gocryptfs_text status = codes "to gocryptfs " ++ decimal status ++ 10 ∷ []

-- how many items each retired vault had
abbrev pub retired_text : ℕ → ℕ → List ℕ
retired_text first second = codes "items " ++ decimal first ++ codes " " ++ decimal second ++ 10 ∷ []

-- The way that the demonstration goes: the migration there ends it with this status, or the migration back does, or both are done, and
-- the vaults that were retired had so many items.
pub data Way : Type 0 where
  StoppedThere : ℕ → Way
  StoppedBack : ℕ → Way
  Arrived : ℕ → ℕ → Way

-- the lines behind those of the items, up to that of a migration which ends the work
abbrev pub way_text : Way → List ℕ
way_text (StoppedThere status) = to_cryptomator_text status
way_text (StoppedBack status) = to_cryptomator_text 0 ++ to_gocryptfs_text status
way_text (Arrived first second) = to_cryptomator_text 0 ++ (to_gocryptfs_text 0 ++ retired_text first second)

-- What may befall the demonstration: the folder fails, or the random source does, or sixteen zero bytes in a row are drawn, or an item has no
-- place of its own. And what may be known when it begins; then nothing else stops it but want of memory.
pub record Chances : Type 1 where
  pub folder : Type 0
  pub random : Type 0
  pub zeros : Type 0
  pub shared : Type 0
  pub known : Type 0

-- the statuses of these
abbrev pub is_status_of_chance : ℕ → Bool
is_status_of_chance status = status == 4 || (status == 7 || (status == 21 || status == 22))

-- The status of a migration that isn't 0. It isn't want of memory, which ends the work.
pub record EndsWork (c : Chances) (status : ℕ) : Type 0 where
  pub stops : status ≢ 0
  pub memory : status ≢ 3
  pub folder : status ≡ 4 → c.folder
  pub random : status ≡ 7 → c.random
  pub zeros : c.known → status ≡ 21 → c.zeros
  pub shared : c.known → status ≡ 22 → c.shared
  pub others : c.known → IsTrue (is_status_of_chance status)

-- a way of a demonstration of so many items: both vaults that are retired have all of them
abbrev pub IsWay : Chances → ℕ → Way → Type 0
IsWay c count (StoppedThere status) = EndsWork c status
IsWay c count (StoppedBack status) = EndsWork c status
IsWay c count (Arrived first second) = c.known → (first ≡ count) × (second ≡ count)

-- the output took all of a text where the work was done, and else a front part
abbrev pub TakesBy : Answer → Option (List ℕ) → Option (List ℕ) → List ℕ → Type 0
TakesBy Done taken taken' text = Appends taken taken' text
TakesBy answer taken taken' text = AppendsPrefix taken taken' text

-- where both migrations are done
abbrev pub OnArrival : Type 0 → Way → Type 0
OnArrival brought (StoppedThere status) = Unit {0}
OnArrival brought (StoppedBack status) = Unit {0}
OnArrival brought (Arrived first second) = brought

-- the lines of the demonstration, and what was brought about where all is done
abbrev pub PrintsDemonstration : Chances → (brought : Type 0) → ℕ → ℕ → Answer → Option (List ℕ) → Option (List ℕ) → Type 0
PrintsDemonstration c brought seed count answer taken taken' =
    (way : Way) × IsWay c count way × TakesBy answer taken taken' (made_text seed count ++ way_text way) × (answer ≡ Done → OnArrival brought way)

-- whether a demonstration may be answered so
abbrev pub is_of_fault : Answer → Bool
is_of_fault OutputFault = true
is_of_fault (Unusable work why) = true
is_of_fault answer = is_of_stop answer

abbrev pub is_of_demonstration : Answer → Bool
is_of_demonstration Done = true
is_of_demonstration RandomFault = false
is_of_demonstration answer = is_of_fault answer

-- whether an answer is one of these chances, or want of memory, or the output's, or none
abbrev pub is_of_chance : Answer → Bool
is_of_chance Done = true
is_of_chance OutOfMemory = true
is_of_chance FolderFault = true
is_of_chance OutputFault = true
is_of_chance RandomFault = true
is_of_chance ZeroRandom = true
is_of_chance (Taken at) = true
is_of_chance answer = false

-- how the work may end, by what is known when it begins
pub record EndsSo (c : Chances) (answer : Answer) : Type 0 where
  pub zeros : c.known → answer ≡ ZeroRandom → c.zeros
  pub shared : c.known → (at : Path) → answer ≡ Taken at → c.shared
  pub others : c.known → IsTrue (is_of_chance answer)

-- in one of the vaults
abbrev pub SharesOne : Option Told → Option Told → Option ByteStream → Option ByteStream → ℕ → Type 0
SharesOne told told' stream stream' count = (root : Path) × SharesPlace root told told' stream stream' count

-- The chances of a demonstration in a folder that tells so before and after it. Its random source is the stream of its seed, and never fails.
abbrev pub chances_of : (folder_failed known : Type 0) → (seed count : ℕ) → Option Told → Option Told → Chances
chances_of folder_failed known seed count told told' = record {
  folder = folder_failed;
  random = ⊥;
  zeros = (rest : Option ByteStream) × Drew (Unit {0}) (Some (seed_stream seed)) rest;
  shared = (rest : Option ByteStream) × SharesOne told told' (Some (seed_stream seed)) rest count;
  known = known;
}

-- the folder tells its state, and nothing stands in it
pub record IsBare (told : Option Told) : Type 0 where
  pub view : View
  pub seen : IsSeen told view
  pub base : view [] ≡ Folder
  pub entries : (name : Part) → view (name ∷ []) ≡ NoEntry

-- `demo`, which uses neither the folder nor the input nor the random source: its own folder never fails, and all is known of it
pub record Demonstrates (demonstration : Demonstration) (answer : Answer) (before after : World) : Type 0 where
  pub own : IsTrue (is_of_demonstration answer)
  pub steady : answer ≢ FolderFault
  pub told : Option Told
  pub ends : EndsSo (chances_of ⊥ (Unit {0}) demonstration.seed demonstration.count (Some new_told) told) answer
  pub prints : PrintsDemonstration (chances_of ⊥ (Unit {0}) demonstration.seed demonstration.count (Some new_told) told) (Unit {0}) demonstration.seed demonstration.count answer before.taken after.taken
  pub unchanged : after.told ≡ before.told
  pub untouched : Keeps before.left after.left
  pub undrawn : after.random ≡ before.random

-- ---- private contracts

-- the chances of a part of the work: by both counts of faults, and by what is drawn, told and known, of so many items
abbrev pub chances : (f f' r r' : ℕ) → Option ByteStream → Option ByteStream → Option Told → Option Told → ℕ → Type 0 → Chances
chances f f' r r' stream stream' told told' count known = record {
  folder = CountRose f f';
  random = CountRose r r';
  zeros = Drew (Unit {0}) stream stream';
  shared = SharesOne told told' stream stream' count;
  known = known;
}

-- those of a migration, by the fault with which it stops: known is that it is one of chance, and no content passes the limit
abbrev pub chances_by : MoveFault → Chances
chances_by fault = record {
  folder = fault ≡ Failed;
  random = fault ≡ Place put.Random;
  zeros = fault ≡ Place put.ZeroRandom;
  shared = (at : Path) × (fault ≡ Place (put.Taken at));
  known = IsOfChance fault × ((at : Path) → fault ≢ Matching (match.Limit (limit.Length at)));
}

-- the status of a migration, whichever it is
abbrev pub IsStatus : Chances → ℕ → Type 0
IsStatus c status = status ≢ 0 → EndsWork c status

-- the folder failed, or memory was refused
abbrev pub is_of_folder : Answer → Bool
is_of_folder FolderFault = true
is_of_folder OutOfMemory = true
is_of_folder answer = false

abbrev pub is_of_telling : Answer → Bool
is_of_telling OutputFault = true
is_of_telling OutOfMemory = true
is_of_telling answer = false

-- the same of a part of the work that may stop with an answer
abbrev pub TakesPart : {T : Type 0} → Result T Answer → Option (List ℕ) → Option (List ℕ) → List ℕ → Type 0
TakesPart (Ok value) taken taken' text = Appends taken taken' text
TakesPart (Err answer) taken taken' text = AppendsPrefix taken taken' text

-- the status of a migration
abbrev pub moved_text : Leg → ℕ → List ℕ
moved_text There status = to_cryptomator_text status
moved_text Back status = to_gocryptfs_text status

-- one migration, by how it ends
abbrev pub led_text : Leg → Led → List ℕ
led_text leg (Stopped status) = moved_text leg status
led_text leg (Retired items) = moved_text leg 0

abbrev pub IsLed : Chances → ℕ → Led → Type 0
IsLed c count (Stopped status) = EndsWork c status
IsLed c count (Retired items) = c.known → items ≡ count

-- where its source is retired
abbrev pub OnRetired : Type 0 → Led → Type 0
OnRetired left (Stopped status) = Unit {0}
OnRetired left (Retired items) = left

-- by the way that it went, or some way
abbrev pub PrintsLed : Chances → ℕ → Leg → Result Led Answer → Option (List ℕ) → Option (List ℕ) → Type 0
PrintsLed c count leg (Ok led) taken taken' = IsLed c count led × Appends taken taken' (led_text leg led)
PrintsLed c count leg (Err answer) taken taken' = (led : Led) × IsLed c count led × AppendsPrefix taken taken' (led_text leg led)

abbrev pub way_of : Ended → Way
way_of (ways.StoppedThere status) = StoppedThere status
way_of (ways.StoppedBack status) = StoppedBack status
way_of (ways.Arrived first second) = Arrived first second

abbrev pub OnEnd : Type 0 → Ended → Type 0
OnEnd brought ended = OnArrival brought (way_of ended)

-- all the work or the rest of it, by the way that it went, or some way
abbrev pub PrintsBy : (Way → Type 0) → (Way → List ℕ) → Result Ended Answer → Option (List ℕ) → Option (List ℕ) → Type 0
PrintsBy Is text (Ok way) taken taken' = Is (way_of way) × Appends taken taken' (text (way_of way))
PrintsBy Is text (Err answer) taken taken' = (way : Way) × Is way × AppendsPrefix taken taken' (text way)

abbrev pub PrintsAll : Chances → ℕ → ℕ → Result Ended Answer → Option (List ℕ) → Option (List ℕ) → Type 0
PrintsAll c seed count = PrintsBy (IsWay c count) (λ way. made_text seed count ++ way_text way)

abbrev pub PrintsWay : Chances → ℕ → Result Ended Answer → Option (List ℕ) → Option (List ℕ) → Type 0
PrintsWay c count = PrintsBy (IsWay c count) way_text

-- the way back, which the first migration doesn't end, but retires so many
abbrev pub IsWayBack : Chances → (count retired : ℕ) → Way → Type 0
IsWayBack c count retired (StoppedThere status) = ⊥
IsWayBack c count retired (StoppedBack status) = EndsWork c status
IsWayBack c count retired (Arrived first second) = (first ≡ retired) × (c.known → second ≡ count)

abbrev pub back_text : Way → List ℕ
back_text (StoppedThere status) = []
back_text (StoppedBack status) = to_gocryptfs_text status
back_text (Arrived first second) = to_gocryptfs_text 0 ++ retired_text first second

abbrev pub PrintsBack : Chances → (count retired : ℕ) → Result Ended Answer → Option (List ℕ) → Option (List ℕ) → Type 0
PrintsBack c count retired = PrintsBy (IsWayBack c count retired) back_text
