-- Making a whole vault at a path where nothing stands, so that it comes there at once.
use Rattle.std.specs.Prelude.{◌≡◌, ◌⊎◌, ◌<◌, ℕ, slice_index, false, true, List, [], ◌∷◌, ◌++◌, Contains, codes, length, Option, Result, Ok, Err, IfOk, OnOk}
use Rattle.chunk_files.specs.Zeros.{is_all_zero}
use Rattle.item_making.specs.declared.fault.PutFault.{PutFault}
use Rattle.item_making.specs.declared.fault.PutFault.TheVariants as puts
use Rattle.cryptomator_conf.specs.declared.conf.CmDraw.{CmDraw}
use Rattle.cryptomator_conf.specs.declared.conf.Combo.{Combo}
use Rattle.cryptomator_conf.specs.Text as cryptomator
use Rattle.gocrypt_conf.specs.declared.conf.GoDraw.{GoDraw}
use Rattle.gocrypt_conf.specs.Keys as gocryptfs
use Rattle.kdf_suite.specs.ScryptCost.{Cost}
use Rattle.port_model.specs.Draws.{ByteStream, Draws}
use Rattle.folder_spec.specs.declared.FolderFault.{FolderFault}
use Rattle.folder_spec.specs.Path.{Part, Path}
use Rattle.folder_spec.specs.State.{State}
use Rattle.folder_spec.specs.Edit.{Edit, directory_edit, view_after, PublishesIn, HasSettledIn}
use Rattle.folder_spec.specs.Event.{Told, FromTo}
use Rattle.folder_spec.specs.Moments.{Moments}
use Rattle.folder_spec.specs.Region.{IsAsBefore}
use Rattle.folder_spec.specs.Seen.{IfSeen, ShowsFree}
use Rattle.folder_spec.specs.View.{View}
use Rattle.folder_spec.specs.Written.{HoldFronts}
use Rattle.folder_staging.specs.Folders.{StagesFolder, HasStaged}
use Rattle.work_folder.specs.Entering.{IsReady}
use Rattle.vault_spec.specs.Cryptomator.{top, shelf_named, folder_named}
use Rattle.vault_spec.specs.Empty.{IsEmptyVault}
use Rattle.vault_spec.specs.Gocryptfs.{key_file}
use Rattle.vault_spec.specs.NewVault.{go_files, cm_files, new_go_vault, new_cm_vault}
use Rattle.vault_spec.specs.Tidy.{IsTidy}
use Rattle.vault_spec.specs.Vault.{Vault, Gocryptfs, Cryptomator, format_of, IsVault}
use Rattle.vault_write.specs.declared.drawing.GoParts.{GoParts}
use Rattle.item_making.specs.Making.{Making, is_unstaged, is_apart, StagesOrPlaces}
use Rattle.item_making.specs.Placing.{MayMake}

-- the stage is ready, and nothing stands at the path in a directory
pub record MayFound (told : Option Told) (work at : Path) : Type 0 where
  pub make : MayMake told work at
  pub free : IfSeen told (λ v. ShowsFree v at)

-- the bytes of some files
abbrev pub texts : List (Part × List ℕ) → List (List ℕ)
texts [] = []
texts (file ∷ files) = file.1 ∷ texts files

-- at this path this view comes to stand
abbrev pub vault_edit : Path → View → Edit
vault_edit at made = record { at = at; made = made }

-- the one edit that founds a vault of this view and these files
abbrev pub founding : Path → View → List (Part × List ℕ) → Making
founding at made files = record { edits = vault_edit at made ∷ []; files = texts files; replaces = false }

-- Since s0 the vault is being founded: what was shown outside the stage is shown, or that with the whole vault, all else is as it was,
-- and each file that was made holds a front part of one of the vault's.
pub record IsFounding (work : Path) (vault : Edit) (files : List (List ℕ)) (s0 s : State) : Type 0 where
  pub publishes : PublishesIn (is_unstaged work) (vault ∷ []) s0 s
  pub others : IsAsBefore (is_apart work vault.at) s0 s
  pub fronts : HoldFronts files s0 s

-- A call founds a vault of this view and these files. After Ok it stands there for good, no directory change is pending, and the stage is
-- ready again.
pub record Founds {E : Type 0} (work at : Path) (made : View) (files : List (Part × List ℕ)) (before after : Option Told) (result : Result (Unit {0}) E) : Type 0 where
  pub moments : Moments (IsFounding work (vault_edit at made) (texts files)) (λ s0 s e. StagesOrPlaces work (founding at made files) s e.call) before after
  pub done : OnOk result (FromTo (λ a b. HasSettledIn (is_unstaged work) (vault_edit at made ∷ []) a.state b.state) before after)
  pub ready : OnOk result (IfSeen after (λ v. IsReady v work))

-- The passphrase opens the view as this vault, and it is tidy and has no items.
pub record IsNewVault (made : View) (pass : List ℕ) (vault : Vault) : Type 0 where
  pub opens : IsVault made pass vault
  pub empty : IsEmptyVault (format_of vault) made
  pub tidy : IsTidy (format_of vault) made

-- ---- what a vault draws, in order

abbrev pub go_drawn : GoDraw → List ℕ → List ℕ
go_drawn d key = d.master ++ d.salt ++ d.nonce ++ key

abbrev pub cm_drawn : CmDraw → List ℕ
cm_drawn d = d.enc ++ d.mac ++ d.salt ++ d.jti

-- so many bytes
pub record AreBytes (count : ℕ) (bytes : List ℕ) : Type 0 where
  pub size : length bytes ≡ count
  pub small : (place : ℕ) → slice_index bytes place < 256

pub record IsGoDraw (d : GoDraw) (key : List ℕ) : Type 0 where
  pub master : AreBytes 32 d.master
  pub salt : AreBytes 32 d.salt
  pub nonce : AreBytes 16 d.nonce
  pub root : AreBytes 16 key

pub record IsCmDraw (d : CmDraw) : Type 0 where
  pub enc : AreBytes 32 d.enc
  pub mac : AreBytes 32 d.mac
  pub salt : AreBytes 8 d.salt
  pub jti : AreBytes 16 d.jti

-- all of it, and neither the nonce nor the key of the root is zeros
pub record DrewGo (d : GoDraw) (key drawn : List ℕ) : Type 0 where
  pub all : drawn ≡ go_drawn d key
  pub nonce : is_all_zero d.nonce ≡ false
  pub root : is_all_zero key ≡ false

-- up to the first of the two that is zeros
abbrev pub DrewGoZeros : GoDraw → List ℕ → List ℕ → Type 0
DrewGoZeros d key drawn =
    ((drawn ≡ d.master ++ d.salt ++ d.nonce) × (is_all_zero d.nonce ≡ true))
    ⊎ ((drawn ≡ go_drawn d key) × (is_all_zero d.nonce ≡ false) × (is_all_zero key ≡ true))

-- up to the part at which the source failed
abbrev pub DrewGoFront : GoDraw → List ℕ → Type 0
DrewGoFront d drawn =
    (drawn ≡ []) ⊎ ((drawn ≡ d.master) ⊎ ((drawn ≡ d.master ++ d.salt) ⊎ ((drawn ≡ d.master ++ d.salt ++ d.nonce) × (is_all_zero d.nonce ≡ false))))

abbrev pub DrewCmFront : CmDraw → List ℕ → Type 0
DrewCmFront d drawn = (drawn ≡ []) ⊎ ((drawn ≡ d.enc) ⊎ ((drawn ≡ d.enc ++ d.mac) ⊎ (drawn ≡ d.enc ++ d.mac ++ d.salt)))

-- What a gocryptfs vault has drawn, by the answer. There are no others.
abbrev pub GoDrew : {T : Type 0} → GoDraw → List ℕ → List ℕ → Result T PutFault → Type 0
GoDrew d key drawn (Ok value) = DrewGo d key drawn
GoDrew d key drawn (Err puts.Failed) = DrewGo d key drawn
GoDrew d key drawn (Err puts.NoMemory) = DrewGo d key drawn
GoDrew d key drawn (Err puts.ZeroRandom) = DrewGoZeros d key drawn
GoDrew d key drawn (Err puts.Random) = DrewGoFront d drawn
GoDrew d key drawn (Err (puts.Find fault)) = ⊥
GoDrew d key drawn (Err (puts.NotAllowed path)) = ⊥
GoDrew d key drawn (Err (puts.Taken at)) = ⊥
GoDrew d key drawn (Err (puts.Damaged at fault)) = ⊥
GoDrew d key drawn (Err (puts.Limit limit)) = ⊥
GoDrew d key drawn (Err puts.Source) = ⊥

-- The same of a Cryptomator vault.
abbrev pub CmDrew : {T : Type 0} → CmDraw → List ℕ → Result T PutFault → Type 0
CmDrew d drawn (Ok value) = drawn ≡ cm_drawn d
CmDrew d drawn (Err puts.Failed) = drawn ≡ cm_drawn d
CmDrew d drawn (Err puts.NoMemory) = drawn ≡ cm_drawn d
CmDrew d drawn (Err puts.Random) = DrewCmFront d drawn
CmDrew d drawn (Err puts.ZeroRandom) = ⊥
CmDrew d drawn (Err (puts.Find fault)) = ⊥
CmDrew d drawn (Err (puts.NotAllowed path)) = ⊥
CmDrew d drawn (Err (puts.Taken at)) = ⊥
CmDrew d drawn (Err (puts.Damaged at fault)) = ⊥
CmDrew d drawn (Err (puts.Limit limit)) = ⊥
CmDrew d drawn (Err puts.Source) = ⊥

-- What can't be drawn isn't made up: this holds where the random source failed, or gave zeros.
abbrev pub MakesDrawn : Type 0 → Result (Unit {0}) PutFault → Type 0
MakesDrawn Unmade (Err puts.Random) = Unmade
MakesDrawn Unmade (Err puts.ZeroRandom) = Unmade
MakesDrawn Unmade result = Unit {0}

-- the vaults that are founded under these draws
abbrev pub new_go : GoDraw → Vault
new_go d = Gocryptfs (gocryptfs.keys_of d.master)

abbrev pub new_cm : Combo → CmDraw → Vault
new_cm combo d = Cryptomator (record { keys = cryptomator.keys_of d; combo = combo; threshold = 220 })

-- A call founds a gocryptfs vault under the bytes that it draws, and changes nothing before all of them are there. After Ok it is what the
-- passphrase opens, and empty.
pub record FoundsGo (work at : Path) (pass : List ℕ) (cost : Cost) (stream stream' : Option ByteStream) (before after : Option Told) (result : Result (Unit {0}) PutFault) : Type 0 where
  pub draw : GoDraw
  pub key : List ℕ
  pub drawn : List ℕ
  pub sizes : IsGoDraw draw key
  pub were_drawn : Draws stream stream' drawn
  pub drew : GoDrew draw key drawn result
  pub made_drawn : MakesDrawn (after ≡ before) result
  pub founds : Founds work at (new_go_vault pass cost draw key) (go_files pass cost draw key) before after result
  pub vault : OnOk result (IsNewVault (new_go_vault pass cost draw key) pass (new_go draw))

pub record FoundsCm (work at : Path) (pass : List ℕ) (cost : Cost) (combo : Combo) (stream stream' : Option ByteStream) (before after : Option Told) (result : Result (Unit {0}) PutFault) : Type 0 where
  pub draw : CmDraw
  pub drawn : List ℕ
  pub sizes : IsCmDraw draw
  pub were_drawn : Draws stream stream' drawn
  pub drew : CmDrew draw drawn result
  pub made_drawn : MakesDrawn (after ≡ before) result
  pub founds : Founds work at (new_cm_vault pass cost combo draw) (cm_files pass cost combo draw) before after result
  pub vault : OnOk result (IsNewVault (new_cm_vault pass cost combo draw) pass (new_cm combo draw))

-- ---- private contracts

-- the files at the top of a new vault, with these bytes
abbrev pub go_two : List ℕ → List ℕ → List (List ℕ × List ℕ)
go_two conf key = (codes "gocryptfs.conf", conf) ∷ (key_file, key) ∷ []

abbrev pub cm_two : List ℕ → List ℕ → List (List ℕ × List ℕ)
cm_two master vault = (codes "masterkey.cryptomator", master) ∷ (codes "vault.cryptomator", vault) ∷ []

-- the parts are drawn, or the source fails, or gives zeros
pub record DrawsGo (stream stream' : Option ByteStream) (result : Result GoParts PutFault) : Type 0 where
  pub draw : GoDraw
  pub key : List ℕ
  pub drawn : List ℕ
  pub sizes : IsGoDraw draw key
  pub were_drawn : Draws stream stream' drawn
  pub drew : GoDrew draw key drawn result
  pub is : IfOk result (λ parts. parts ≡ record { draw = draw; key = key })

pub record DrawsCm (stream stream' : Option ByteStream) (result : Result CmDraw PutFault) : Type 0 where
  pub draw : CmDraw
  pub drawn : List ℕ
  pub sizes : IsCmDraw draw
  pub were_drawn : Draws stream stream' drawn
  pub drew : CmDrew draw drawn result
  pub is : IfOk result (λ parts. parts ≡ draw)

-- Sixteen bytes are drawn that aren't all zero, or it is said which fails.
abbrev pub SomeDrew : List ℕ → List ℕ → Result (List ℕ) PutFault → Type 0
SomeDrew bytes drawn (Ok value) = (value ≡ bytes) × (drawn ≡ bytes) × (is_all_zero bytes ≡ false)
SomeDrew bytes drawn (Err puts.ZeroRandom) = (drawn ≡ bytes) × (is_all_zero bytes ≡ true)
SomeDrew bytes drawn (Err puts.Random) = drawn ≡ []
SomeDrew bytes drawn (Err puts.Failed) = ⊥
SomeDrew bytes drawn (Err puts.NoMemory) = ⊥
SomeDrew bytes drawn (Err (puts.Find fault)) = ⊥
SomeDrew bytes drawn (Err (puts.NotAllowed path)) = ⊥
SomeDrew bytes drawn (Err (puts.Taken at)) = ⊥
SomeDrew bytes drawn (Err (puts.Damaged at fault)) = ⊥
SomeDrew bytes drawn (Err (puts.Limit limit)) = ⊥
SomeDrew bytes drawn (Err puts.Source) = ⊥

pub record DrawsSome (stream stream' : Option ByteStream) (result : Result (List ℕ) PutFault) : Type 0 where
  pub bytes : List ℕ
  pub drawn : List ℕ
  pub sizes : AreBytes 16 bytes
  pub were_drawn : Draws stream stream' drawn
  pub drew : SomeDrew bytes drawn result

-- A call stages a folder of this view, whose files these are.
abbrev pub StagesWhole : Path → View → List (List ℕ) → Option Told → Option Told → Result (Unit {0}) FolderFault → Type 0
StagesWhole staged made files old new result =
    (contents : List (List ℕ)) → ((file : List ℕ) → Contains files file → Contains contents file)
    → StagesFolder contents staged old new × OnOk result (HasStaged contents staged made old new)

-- with `d` and below it the content folder that a text names
abbrev pub with_home : List ℕ → View → View
with_home text made = view_after made (directory_edit (top ∷ []) ∷ directory_edit (shelf_named text) ∷ directory_edit (folder_named text) ∷ [])

-- A call stages these in a folder, since whenever it has been staged.
abbrev pub StagesHome : Path → List ℕ → Option Told → Option Told → Result (Unit {0}) FolderFault → Type 0
StagesHome staged text old new result =
    (before : Option Told) (contents : List (List ℕ)) (made : View) → HasStaged contents staged made before old
    → StagesFolder contents staged before new × OnOk result (HasStaged contents staged (with_home text made) before new)
