-- `init`: a new vault at a path where nothing stands.
use Rattle.std.specs.Prelude.{◌≡◌, ◌⊎◌, ℕ, List, [], ◌∷◌, Result, OnOk, Option, IsTrue}
use Rattle.std.specs.Io.KnownBytes.{Keeps}
use Rattle.item_making.specs.declared.fault.PutFault.{PutFault}
use Rattle.cryptomator_conf.specs.declared.conf.CmDraw.{CmDraw}
use Rattle.cryptomator_conf.specs.declared.conf.Combo.{Combo}
use Rattle.cryptomator_conf.specs.declared.conf.Combo.TheVariants.{SivGcm, SivCtrMac}
use Rattle.folder_spec.specs.Path.{Part, Path}
use Rattle.folder_spec.specs.State.{State}
use Rattle.folder_spec.specs.Edit.{Edit, PublishesIn, HasSettledIn}
use Rattle.folder_spec.specs.Event.{Told, FromTo}
use Rattle.folder_spec.specs.Moments.{Moments}
use Rattle.folder_spec.specs.Region.{IsAsBefore, Spares, apart_from, apart_from_both}
use Rattle.folder_spec.specs.Seen.{IfSeen}
use Rattle.folder_spec.specs.View.{View}
use Rattle.folder_spec.specs.Written.{HoldFronts}
use Rattle.gocrypt_conf.specs.declared.conf.GoDraw.{GoDraw}
use Rattle.kdf_suite.specs.ScryptCost.{Cost}
use Rattle.port_model.specs.Draws.{ByteStream, Draws}
use Rattle.command_words.specs.declared.values.Format.{Format}
use Rattle.command_words.specs.declared.values.Format.TheVariants.{Gocryptfs, Cryptomator, CryptomatorCtrMac}
use Rattle.vault_spec.specs.NewVault.{go_files, cm_files, new_go_vault, new_cm_vault}
use Rattle.vault_spec.specs.Vault.{Vault}
use Rattle.work_folder.specs.Entering.{IsFresh}
use Rattle.vault_write.specs.Founding.{FoundsGo, FoundsCm, IsGoDraw, IsCmDraw, GoDrew, CmDrew, MakesDrawn, IsNewVault, founding, texts, vault_edit}
use Rattle.item_making.specs.Making.{StagesOrPlaces}
use Rattle.open_for_reading.specs.Tests.{is_of_readying}
use Rattle.open_for_changing.specs.Beginning.{ChangesWork, MakesBeside, OfWork}
use Rattle.open_for_reading.specs.Places.{OfFree}
use Rattle.writing_commands.specs.Faults.{answer_to_making}
use Rattle.open_for_reading.specs.Opening.{IsPhrase, OfPassFile}
use Rattle.open_for_reading.specs.Shown.{refused}
use Rattle.open_for_reading.specs.World.{World}
use Rattle.command_answers.specs.declared.answer.Answer.{Answer}
use Rattle.command_answers.specs.declared.answer.Answer.TheVariants.{Done, RandomFault, ZeroRandom}
use Rattle.command_words.specs.declared.commands.NewVault.{NewVault}

-- the cost of scrypt in new vaults of Cryptomator, and in those of each kind
abbrev pub cm_cost : Cost
cm_cost = record { n = 32768; r = 8; p = 1 }

abbrev pub cost_of : Format → Cost
cost_of Gocryptfs = record { n = 65536; r = 8; p = 1 }
cost_of Cryptomator = cm_cost
cost_of CryptomatorCtrMac = cm_cost

-- The tests of `init` behind that of overlapping folders, by what is seen at first.
abbrev pub OfNewPlace : NewVault → View → Answer → Type 0 → Type 0
OfNewPlace new v answer next =
    OfPassFile new.pass (v new.pass) (refused answer) (λ phrase.
    OfWork v new.work answer (OfFree v new.vault answer next))

-- where all pass, the vault is made, or the random source fails or gives zeros
abbrev pub IsOfFounding : Answer → Type 0
IsOfFounding answer = (answer ≡ Done) ⊎ ((answer ≡ RandomFault) ⊎ (answer ≡ ZeroRandom))

-- a new Cryptomator vault with these ciphers, under the bytes drawn: its view, and its files
abbrev pub DrawsCryptomator : Combo → List ℕ → View → List (Part × List ℕ) → Option ByteStream → Option ByteStream → Result (Unit {0}) PutFault → Type 0
DrawsCryptomator combo phrase made files stream stream' result =
    (d : CmDraw) × (drawn : List ℕ) × IsCmDraw d × Draws stream stream' drawn × CmDrew d drawn result
    × (made ≡ new_cm_vault phrase cm_cost combo d) × (files ≡ cm_files phrase cm_cost combo d)

-- a new vault of a kind
abbrev pub DrawsVault : Format → List ℕ → View → List (Part × List ℕ) → Option ByteStream → Option ByteStream → Result (Unit {0}) PutFault → Type 0
DrawsVault Gocryptfs phrase made files stream stream' result =
    (d : GoDraw) × (key drawn : List ℕ) × IsGoDraw d key × Draws stream stream' drawn × GoDrew d key drawn result
    × (made ≡ new_go_vault phrase (cost_of Gocryptfs) d key) × (files ≡ go_files phrase (cost_of Gocryptfs) d key)
DrawsVault Cryptomator phrase made files stream stream' result = DrawsCryptomator SivGcm phrase made files stream stream' result
DrawsVault CryptomatorCtrMac phrase made files stream stream' result = DrawsCryptomator SivCtrMac phrase made files stream stream' result

-- Since s0 the vault is being made: outside the work folder what was shown is shown, or that with the whole vault, all else is as it
-- was, and each file that was made holds a front part of one of the vault's.
pub record IsMakingVault (work : Path) (vault : Edit) (files : List (List ℕ)) (s0 s : State) : Type 0 where
  pub publishes : PublishesIn (apart_from work) (vault ∷ []) s0 s
  pub others : IsAsBefore (apart_from_both work vault.at) s0 s
  pub fronts : HoldFronts files s0 s

-- The vault is made, and no file of it before all its bytes are drawn. After Ok it stands there for good, the passphrase opens it, it has
-- no items, and in the work folder stands nothing but an empty stage.
pub record FoundsVault (new : NewVault) (answer : Answer) (told told' : Option Told) (stream stream' : Option ByteStream) : Type 0 where
  pub phrase : List ℕ
  pub reads : IfSeen told (λ v. IsPhrase (v new.pass) phrase)
  pub result : Result (Unit {0}) PutFault
  pub is : answer ≡ answer_to_making result
  pub made : View
  pub files : List (Part × List ℕ)
  pub draws : DrawsVault new.format phrase made files stream stream' result
  pub made_drawn : MakesDrawn (ChangesWork new.work told told') result
  pub moments : Moments (IsMakingVault new.work (vault_edit new.vault made) (texts files))
      (λ s0 s e. Spares (apart_from new.work) e.call ⊎ StagesOrPlaces new.work (founding new.vault made files) s e.call) told told'
  pub settled : OnOk result (FromTo (λ a b. HasSettledIn (apart_from new.work) (vault_edit new.vault made ∷ []) a.state b.state) told told')
  pub vault : OnOk result ((vault : Vault) × IsNewVault made phrase vault)
  pub fresh : OnOk result (IfSeen told' (λ v. IsFresh v new.work))

-- `init`, which takes nothing of the input and writes nothing
pub record MakesVault (new : NewVault) (answer : Answer) (before after : World) : Type 0 where
  pub makes : MakesBeside is_of_readying new.vault new.work (λ v. OfNewPlace new v answer (IsOfFounding answer)) (FoundsVault new answer before.told after.told before.random after.random) answer before after
  pub untouched : Keeps before.left after.left

-- ---- private contracts

-- a vault of a kind is founded
abbrev pub FoundsNew : Format → Path → Path → List ℕ → Option ByteStream → Option ByteStream → Option Told → Option Told → Result (Unit {0}) PutFault → Type 0
FoundsNew Gocryptfs work at phrase stream stream' before after result = FoundsGo work at phrase (cost_of Gocryptfs) stream stream' before after result
FoundsNew Cryptomator work at phrase stream stream' before after result = FoundsCm work at phrase cm_cost SivGcm stream stream' before after result
FoundsNew CryptomatorCtrMac work at phrase stream stream' before after result = FoundsCm work at phrase cm_cost SivCtrMac stream stream' before after result

-- the place is tested by what is seen, and then the vault is founded
abbrev pub OfPlace : NewVault → View → Answer → Type 0
OfPlace new v answer = OfFree v new.vault answer (IsOfFounding answer)

-- it is refused, and nothing has changed
pub record RefusesPlace (answer : Answer) (told told' : Option Told) (stream stream' : Option ByteStream) : Type 0 where
  pub own : IsTrue (is_of_readying answer)
  pub unchanged : told' ≡ told
  pub undrawn : Draws stream stream' []

-- or the vault is founded
pub record FoundsAs (new : NewVault) (phrase : List ℕ) (answer : Answer) (told told' : Option Told) (stream stream' : Option ByteStream) : Type 0 where
  pub result : Result (Unit {0}) PutFault
  pub is : answer ≡ answer_to_making result
  pub founds : FoundsNew new.format new.work new.vault phrase stream stream' told told' result
