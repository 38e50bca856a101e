-- What each exit of a call that makes a vault says.
use Rattle.std.proofs.Common.{◌≡◌, ◌≢◌, ◌⊎◌, ℕ, List, [], Option, Some, Result, Ok, Err, OnOk, refl, ap, ◌∙◌, subst, inl, inr}
use Rattle.item_making.specs.declared.fault.PutFault.{PutFault}
use Rattle.item_making.specs.declared.fault.PutFault.TheVariants as puts
use Rattle.item_making.specs.Faults.{of_folder}
use Rattle.cryptomator_conf.specs.declared.conf.CmDraw.{CmDraw}
use Rattle.cryptomator_conf.specs.declared.conf.Combo.{Combo}
use Rattle.cryptomator_conf.specs.Laws as cm
use Rattle.cryptomator_conf.specs.Text.{keys_of, made_master, master_text, vault_text, version_bytes, version_mac}
use Rattle.folder_spec.specs.declared.FolderFault.{FolderFault}
use Rattle.folder_spec.specs.declared.FolderFault.TheVariants as folder
use Rattle.folder_spec.specs.Path.{Path}
use Rattle.folder_spec.specs.State.{IsSound}
use Rattle.folder_spec.specs.Edit.{folder_view}
use Rattle.folder_spec.specs.Event.{Told}
use Rattle.folder_spec.specs.View.{View}
use Rattle.gocrypt_conf.specs.declared.conf.GoDraw.{GoDraw}
use Rattle.gocrypt_conf.specs.Laws as go
use Rattle.gocrypt_conf.specs.Text.{conf_text, made_conf}
use Rattle.kdf_suite.specs.ScryptCost.{Cost, IsCost}
use Rattle.port_model.specs.Draws.{ByteStream}
use Rattle.vault_names.specs.Cryptomator.{cm_folder_of}
use Rattle.vault_spec.specs.NewVault.{go_files, cm_files, new_go_vault, new_cm_vault}
use Rattle.vault_write.specs.declared.drawing.GoParts.{GoParts}
use Rattle.vault_write.specs.Founding.{MayFound, IsNewVault, Founds, FoundsGo, FoundsCm, MakesDrawn, GoDrew, CmDrew, DrewGo, DrawsGo, DrawsCm, cm_two, go_two, new_cm, new_go, with_home}
use Rattle.vault_write.proofs.Founded.{founds_none}
use Rattle.vault_write.proofs.NewVaults.{GoEmpty, GoTidy, CmEmptyAndTidy, go_is_new, cm_is_new}

-- the same, with another fault or answer
as_fault : (work at : Path) (made : View) (files : List (List ℕ × List ℕ)) (t u : Option Told) (refused : FolderFault) (fault : PutFault)
    → Founds {E = FolderFault} work at made files t u (Err refused) → Founds {E = PutFault} work at made files t u (Err fault)
as_fault work at made files t u refused fault h = record { moments = h.moments; done = tt; ready = tt }

as_done : (work at : Path) (made : View) (files : List (List ℕ × List ℕ)) (t u : Option Told)
    → Founds {E = FolderFault} work at made files t u (Ok tt) → Founds {E = PutFault} work at made files t u (Ok tt)
as_done work at made files t u h = record { moments = h.moments; done = h.done; ready = h.ready }

-- drawing doesn't fail as a folder does
pub not_failed : (fault : PutFault) → (fault ≡ puts.ZeroRandom) ⊎ (fault ≡ puts.Random) → fault ≢ puts.Failed
not_failed fault kinds same = elim kinds as (λ _. ⊥) [
  | inl e ↦ cc
  | inr e ↦ cc
]

-- nothing was changed, whatever failed
unchanged : (t : Option Told) (fault : PutFault) → MakesDrawn (t ≡ t) (Err fault)
unchanged t puts.Random = refl
unchanged t puts.ZeroRandom = refl
unchanged t fault = tt

-- a folder fails only once all is drawn
made_drawn : (Unmade : Type 0) (fault : FolderFault) → MakesDrawn Unmade (Err (of_folder fault))
made_drawn Unmade folder.Failed = tt
made_drawn Unmade folder.Refused = tt
made_drawn Unmade folder.NoMemory = tt

-- ---- gocryptfs

go_drew : (d : GoDraw) (key drawn : List ℕ) (fault : PutFault) → GoDrew {T = GoParts} d key drawn (Err fault) → GoDrew {T = Unit {0}} d key drawn (Err fault)
go_drew d key drawn puts.ZeroRandom k = k
go_drew d key drawn puts.Random k = k
go_drew d key drawn puts.Failed k = k
go_drew d key drawn puts.NoMemory k = k
go_drew d key drawn (puts.Find f) k = absurd k
go_drew d key drawn (puts.NotAllowed path) k = absurd k
go_drew d key drawn (puts.Taken at) k = absurd k
go_drew d key drawn (puts.Damaged at f) k = absurd k
go_drew d key drawn (puts.Limit limit) k = absurd k
go_drew d key drawn puts.Source k = absurd k

go_all : (d : GoDraw) (key drawn : List ℕ) (fault : FolderFault) → DrewGo d key drawn → GoDrew {T = Unit {0}} d key drawn (Err (of_folder fault))
go_all d key drawn folder.Failed h = h
go_all d key drawn folder.Refused h = h
go_all d key drawn folder.NoMemory h = h

module _ (work at : Path) (pass : List ℕ) (cost : Cost) (s s' : Option ByteStream) (t : Option Told) (sound : (a : Told) → t ≡ Some a → IsSound a.state) (may : MayFound t work at) where
  -- under what was drawn
  go_founds : {r : Result GoParts PutFault} (h : DrawsGo s s' r) (u : Option Told) (result : Result (Unit {0}) PutFault) → GoDrew h.draw h.key h.drawn result → MakesDrawn (u ≡ t) result
      → Founds work at (new_go_vault pass cost h.draw h.key) (go_files pass cost h.draw h.key) t u result → OnOk result (IsNewVault (new_go_vault pass cost h.draw h.key) pass (new_go h.draw))
      → FoundsGo work at pass cost s s' t u result
  go_founds h u result drew drawn_first founds vault =
      record { draw = h.draw; key = h.key; drawn = h.drawn; sizes = h.sizes; were_drawn = h.were_drawn; drew = drew; made_drawn = drawn_first; founds = founds; vault = vault }

  pub go_undrawn : (fault : PutFault) → DrawsGo s s' (Err fault) → FoundsGo work at pass cost s s' t t (Err fault)
  go_undrawn fault h =
      go_founds h t (Err fault) (go_drew h.draw h.key h.drawn fault h.drew) (unchanged t fault) (founds_none fault refl sound may) tt

  module _ (parts : GoParts) (h : DrawsGo s s' (Ok parts)) where
    pub go_unmade : FoundsGo work at pass cost s s' t t (Err puts.NoMemory)
    go_unmade = go_founds h t (Err puts.NoMemory) h.drew tt (founds_none puts.NoMemory refl sound may) tt

    module _ (conf : List ℕ) (is_conf : conf ≡ conf_text (made_conf pass cost parts.draw)) (u : Option Told) where
      at_these : (result : Result (Unit {0}) FolderFault) → Founds work at (folder_view (go_two conf parts.key)) (go_two conf parts.key) t u result
          → Founds work at (new_go_vault pass cost h.draw h.key) (go_files pass cost h.draw h.key) t u result
      at_these result f =
          let same_conf : conf ≡ conf_text (made_conf pass cost h.draw) = is_conf ∙ ap (λ (p : GoParts). conf_text (made_conf pass cost p.draw)) h.is in
          let same_key : parts.key ≡ h.key = ap (λ (p : GoParts). p.key) h.is in
          subst (λ k. Founds work at (folder_view (go_two (conf_text (made_conf pass cost h.draw)) k)) (go_two (conf_text (made_conf pass cost h.draw)) k) t u result) same_key
          (subst (λ x. Founds work at (folder_view (go_two x parts.key)) (go_two x parts.key) t u result) same_conf f)

      pub go_failed : (fault : FolderFault) → Founds work at (folder_view (go_two conf parts.key)) (go_two conf parts.key) t u (Err fault)
          → FoundsGo work at pass cost s s' t u (Err (of_folder fault))
      go_failed fault f =
          go_founds h u (Err (of_folder fault)) (go_all h.draw h.key h.drawn fault h.drew) (made_drawn (u ≡ t) fault)
          (as_fault work at (new_go_vault pass cost h.draw h.key) (go_files pass cost h.draw h.key) t u fault (of_folder fault) (at_these (Err fault) f)) tt

      pub go_done : go.MadeTextReturns → GoEmpty → GoTidy → IsCost cost → Founds {E = FolderFault} work at (folder_view (go_two conf parts.key)) (go_two conf parts.key) t u (Ok tt)
          → FoundsGo work at pass cost s s' t u (Ok tt)
      go_done returns empty tidy is_cost f =
          go_founds h u (Ok tt) h.drew tt (as_done work at (new_go_vault pass cost h.draw h.key) (go_files pass cost h.draw h.key) t u (at_these (Ok tt) f))
          (go_is_new returns empty tidy pass cost h.draw h.key is_cost h.sizes h.drew.root)

-- ---- Cryptomator

cm_drew : (d : CmDraw) (drawn : List ℕ) (fault : PutFault) → CmDrew {T = CmDraw} d drawn (Err fault) → CmDrew {T = Unit {0}} d drawn (Err fault)
cm_drew d drawn puts.Random k = k
cm_drew d drawn puts.Failed k = k
cm_drew d drawn puts.NoMemory k = k
cm_drew d drawn puts.ZeroRandom k = absurd k
cm_drew d drawn (puts.Find f) k = absurd k
cm_drew d drawn (puts.NotAllowed path) k = absurd k
cm_drew d drawn (puts.Taken at) k = absurd k
cm_drew d drawn (puts.Damaged at f) k = absurd k
cm_drew d drawn (puts.Limit limit) k = absurd k
cm_drew d drawn puts.Source k = absurd k

cm_all : (d : CmDraw) (drawn : List ℕ) (fault : FolderFault) → CmDrew {T = Unit {0}} d drawn (Ok tt) → CmDrew {T = Unit {0}} d drawn (Err (of_folder fault))
cm_all d drawn folder.Failed h = h
cm_all d drawn folder.Refused h = h
cm_all d drawn folder.NoMemory h = h

-- a call that puts the vault of what was drawn at the path
abbrev pub FoundsDrawn : {E : Type 0} → Path → Path → List ℕ → Cost → Combo → CmDraw → Option Told → Option Told → Result (Unit {0}) E → Type 0
FoundsDrawn work at pass cost combo d t u result = Founds work at (new_cm_vault pass cost combo d) (cm_files pass cost combo d) t u result

module _ (work at : Path) (t u : Option Told) (result : Result (Unit {0}) FolderFault) where
  abbrev Made : List ℕ → List ℕ → List ℕ → Type 0
  Made m v x = Founds work at (with_home x (folder_view (cm_two m v))) (cm_two m v) t u result

  pub cm_made : (pass : List ℕ) (cost : Cost) (combo : Combo) (d : CmDraw) (master vault home : List ℕ) → master ≡ master_text (made_master pass cost d) (version_mac d.mac version_bytes) → vault ≡ vault_text combo d
      → home ≡ cm_folder_of (keys_of d) [] → Made master vault home → FoundsDrawn work at pass cost combo d t u result
  cm_made pass cost combo d master vault home is_master is_vault is_home f =
      subst (λ x. Made (master_text (made_master pass cost d) (version_mac d.mac version_bytes)) (vault_text combo d) x) is_home
      (subst (λ v. Made (master_text (made_master pass cost d) (version_mac d.mac version_bytes)) v home) is_vault
      (subst (λ m. Made m vault home) is_master f))

module _ (work at : Path) (pass : List ℕ) (cost : Cost) (combo : Combo) (s s' : Option ByteStream) (t : Option Told) (sound : (a : Told) → t ≡ Some a → IsSound a.state) (may : MayFound t work at) where
  cm_founds : {r : Result CmDraw PutFault} (h : DrawsCm s s' r) (u : Option Told) (result : Result (Unit {0}) PutFault) → CmDrew h.draw h.drawn result → MakesDrawn (u ≡ t) result
      → FoundsDrawn work at pass cost combo h.draw t u result → OnOk result (IsNewVault (new_cm_vault pass cost combo h.draw) pass (new_cm combo h.draw)) → FoundsCm work at pass cost combo s s' t u result
  cm_founds h u result drew drawn_first founds vault = record { draw = h.draw; drawn = h.drawn; sizes = h.sizes; were_drawn = h.were_drawn; drew = drew; made_drawn = drawn_first; founds = founds; vault = vault }

  pub cm_undrawn : (fault : PutFault) → DrawsCm s s' (Err fault) → FoundsCm work at pass cost combo s s' t t (Err fault)
  cm_undrawn fault h =
      cm_founds h t (Err fault) (cm_drew h.draw h.drawn fault h.drew) (unchanged t fault) (founds_none fault refl sound may) tt

  module _ (d : CmDraw) (h : DrawsCm s s' (Ok d)) (u : Option Told) where
    pub cm_failed : (fault : FolderFault) → FoundsDrawn {E = FolderFault} work at pass cost combo d t u (Err fault) → FoundsCm work at pass cost combo s s' t u (Err (of_folder fault))
    cm_failed fault f =
        cm_founds h u (Err (of_folder fault)) (cm_all h.draw h.drawn fault h.drew) (made_drawn (u ≡ t) fault)
        (as_fault work at (new_cm_vault pass cost combo h.draw) (cm_files pass cost combo h.draw) t u fault (of_folder fault)
        (subst (λ (e : CmDraw). FoundsDrawn {E = FolderFault} work at pass cost combo e t u (Err fault)) h.is f)) tt

    pub cm_done : cm.MadeFilesReturn → IsCost cost → CmEmptyAndTidy pass cost combo d → FoundsDrawn {E = FolderFault} work at pass cost combo d t u (Ok tt) → FoundsCm work at pass cost combo s s' t u (Ok tt)
    cm_done returns is_cost both f =
        cm_founds h u (Ok tt) h.drew tt
        (as_done work at (new_cm_vault pass cost combo h.draw) (cm_files pass cost combo h.draw) t u (subst (λ (e : CmDraw). FoundsDrawn {E = FolderFault} work at pass cost combo e t u (Ok tt)) h.is f))
        (cm_is_new returns pass cost combo h.draw is_cost h.sizes (subst (CmEmptyAndTidy pass cost combo) h.is both))
