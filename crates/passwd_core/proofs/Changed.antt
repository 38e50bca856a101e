-- A change of passphrase, at each exit.
use Rattle.std.proofs.Common.{◌≡◌, ◌⊎◌, ℕ, ◌≤◌, List, [], ◌∷◌, replicate, Option, Some, None, Result, Ok, Err, refl, sym, ap, ◌∙◌, subst, inl, inr, arith}
use Rattle.folder_model.proofs.Counting.{rose_since}
use Rattle.folder_spec.specs.declared.FolderFault.{FolderFault}
use Rattle.folder_spec.specs.declared.FolderFault.TheVariants as folder
use Rattle.folder_spec.specs.Path.{Part, Path, child}
use Rattle.folder_spec.specs.State.{IsSound}
use Rattle.folder_spec.specs.Event.{Told}
use Rattle.folder_spec.specs.Seen.{IfSeen, seen, under, ShowsFilePlace}
use Rattle.folder_spec.specs.View.{View}
use Rattle.folder_spec.proofs.Paths.{below-apart}
use Rattle.folder_staging.specs.Places.{ArePlacesApart}
use Rattle.port_model.specs.Counts.{Blames}
use Rattle.port_model.specs.Draws.{Draws}
use Rattle.vault_read.specs.Laws.{HaveOneAnswer}
use Rattle.vault_read.specs.Loading.{RefusesLoading}
use Rattle.vault_read.specs.Opened.{kind_of}
use Rattle.vault_read.specs.declared.fault.LoadFault.{LoadFault}
use Rattle.vault_read.specs.declared.fault.LoadFault.TheVariants as load
use Rattle.vault_read.specs.declared.vault.VaultKind.{VaultKind}
use Rattle.vault_spec.specs.Vault.{Vault, Loads, IsVault}
use Rattle.work_folder.specs.Setting.{Sets, HasSet, SetsIf, IsOfFolder}
use Rattle.passwd_core.specs.declared.fault.PassFault.{PassFault}
use Rattle.passwd_core.specs.declared.fault.PassFault.TheVariants as fault
use Rattle.passwd_core.specs.declared.reading.KeyFile.{KeyFile}
use Rattle.passwd_core.specs.Drawing.{Fresh, ForCryptomator, Drew}
use Rattle.passwd_core.specs.Faults.{of_load, of_folder, IsOfMachine}
use Rattle.passwd_core.specs.KeyFiles.{key_name, key_path, kind_of_file, HoldsKeys, IsFor}
use Rattle.passwd_core.specs.Rekeying.{Answers, ChangesPass, IsEarly, IsTold, Opens}
use Rattle.passwd_core.specs.Steps.{DrawsText, DrewFor, HoldsSome, OpensAs}
use Rattle.passwd_core.proofs.Drawn.{Stream, zeros}
use Rattle.passwd_core.proofs.Rekeyed.{Knows, ViewsShown, below_longer, set_done, set_moments, unchanged}
use Rattle.passwd_core.proofs.Vaults.{held}

-- ---- faults

-- a vault that isn't opened, or whose file isn't read again
answers_loading : (root : Path) (v : View) (pass : List ℕ) (why : LoadFault) → RefusesLoading root (Loads v pass) why ⊎ IsOfMachine why → Answers root v pass (Err (of_load why))
answers_loading root v pass load.Failed h = tt
answers_loading root v pass load.NoMemory h = tt
answers_loading root v pass (load.Missing at) (inl h) = h
answers_loading root v pass (load.WrongKind at) (inl h) = h
answers_loading root v pass (load.TooLarge at) (inl h) = h
answers_loading root v pass (load.Go f) (inl h) = h
answers_loading root v pass (load.Cm at f) (inl h) = h
answers_loading root v pass load.WrongPass (inl h) = h
answers_loading root v pass load.BadSignature (inl h) = h
answers_loading root v pass (load.Missing at) (inr never) = absurd never
answers_loading root v pass (load.WrongKind at) (inr never) = absurd never
answers_loading root v pass (load.TooLarge at) (inr never) = absurd never
answers_loading root v pass (load.Go f) (inr never) = absurd never
answers_loading root v pass (load.Cm at f) (inr never) = absurd never
answers_loading root v pass load.WrongPass (inr never) = absurd never
answers_loading root v pass load.BadSignature (inr never) = absurd never

told_loading : (why : LoadFault) → IsTold (Err (of_load why))
told_loading load.Failed = tt
told_loading load.NoMemory = tt
told_loading (load.Missing at) = λ never. never
told_loading (load.WrongKind at) = λ never. never
told_loading (load.TooLarge at) = λ never. never
told_loading (load.Go f) = λ never. never
told_loading (load.Cm at f) = λ never. never
told_loading load.WrongPass = λ never. never
told_loading load.BadSignature = λ never. never

drew_nothing : (t : Option Told) (why : LoadFault) → Drew t (ForCryptomator (replicate 8 0)) [] (Err (of_load why))
drew_nothing t load.Failed = inl refl
drew_nothing t load.NoMemory = inl refl
drew_nothing t (load.Missing at) = inl refl
drew_nothing t (load.WrongKind at) = inl refl
drew_nothing t (load.TooLarge at) = inl refl
drew_nothing t (load.Go f) = inl refl
drew_nothing t (load.Cm at f) = inl refl
drew_nothing t load.WrongPass = inl refl
drew_nothing t load.BadSignature = inl refl

-- ---- whom a fault blames

abbrev pub BlamesFolder : ℕ → ℕ → Result (Unit {0}) PassFault → Type 0
BlamesFolder n m result = Blames (result ≡ Err fault.Failed) n m

-- the same since before
pub blames_since : (result : Result (Unit {0}) PassFault) (l n m : ℕ) → l ≤ n → BlamesFolder n m result → BlamesFolder l m result
blames_since result l n m grew h = record { grows = (let more = h.grows in omega (arith, grew, more)); rose = λ is. rose_since l n m grew (h.rose is) }

-- a file that has its place is refused by the folder alone
pub set_blames : (t : Option Told) (at : Path) (n m : ℕ) (f : FolderFault) → IfSeen t (λ v. ShowsFilePlace v at) → IfSeen t (λ v. SetsIf (ShowsFilePlace v at) (Err f))
    → Blames (IsOfFolder t (Err f)) n m → BlamesFolder n m (Err (of_folder f))
set_blames t at n m f place answer h = record { grows = h.grows; rose = λ is. h.rose (by_fault t f place answer (cc is)) }
  where
    by_fault : (t : Option Told) (f : FolderFault) → IfSeen t (λ v. ShowsFilePlace v at) → IfSeen t (λ v. SetsIf (ShowsFilePlace v at) (Err f)) → of_folder f ≡ fault.Failed → IsOfFolder t (Err f)
    by_fault t folder.Failed place answer is = tt
    by_fault None folder.Refused place answer is = tt
    by_fault (Some a) folder.Refused place answer is = answer (seen a.state) refl (place (seen a.state) refl)
    by_fault t folder.NoMemory place answer is = cc is

-- ---- the file

pub at_key : (root : Path) (kind : VaultKind) (at : Path) (name : Part) → at ≡ child root name → name ≡ key_name kind → at ≡ key_path root kind
at_key root kind at name here named = here ∙ ap (child root) named

-- it is there
pub holds_some : (root : Path) (v : View) (pass : List ℕ) (kind : VaultKind) (at : Path) → at ≡ key_path root kind → OpensAs kind (under root v) pass → HoldsSome kind (v at)
holds_some root v pass kind at here opens =
    let there = held (under root v) pass opens.0 opens.1 in
    subst (λ p. HoldsSome kind (v p)) (sym here) (there.file, subst (λ k. HoldsKeys k (v (key_path root k)) there.file) (sym opens.2) there.holds)

pub file_apart : (work root : Path) (kind : VaultKind) (at : Path) → at ≡ key_path root kind → ArePlacesApart work root → ArePlacesApart work at
file_apart work root kind at here apart =
    subst (ArePlacesApart work) (sym here) (record { apart = below-apart work root (key_name kind ∷ []) apart.apart apart.beside; beside = below_longer root (key_name kind ∷ []) work apart.beside })

module _ (work root : Path) (kind : VaultKind) (at : Path) (here : at ≡ key_path root kind) (text given : List ℕ) (same_text : given ≡ text) (t t1 t2 : Option Told) (same : t1 ≡ t) where
  pub sets_from : Sets work at given t1 t2 → Sets work (key_path root kind) text t t2
  sets_from sets = subst (λ x. Sets work (key_path root kind) text x t2) same (subst (λ p. Sets work p text t1 t2) here (subst (λ bytes. Sets work at bytes t1 t2) same_text sets))

  pub has_set_from : HasSet work at given t1 t2 → HasSet work (key_path root kind) text t t2
  has_set_from set = subst (λ x. HasSet work (key_path root kind) text x t2) same (subst (λ p. HasSet work p text t1 t2) here (subst (λ bytes. HasSet work at bytes t1 t2) same_text set))

-- ---- the whole answer

module _ (work root : Path) (pass new_pass : List ℕ) (apart : ArePlacesApart work root) (law : ViewsShown) where
  -- before anything is drawn
  pub unloaded : (s s' : Stream) (t u : Option Told) (why : LoadFault) → u ≡ t → Draws s s' [] → IfSeen t (λ v. RefusesLoading root (Loads (under root v) pass) why ⊎ IsOfMachine why)
      → ChangesPass work root pass new_pass s s' t u (Err (of_load why))
  unloaded s s' t u why same none told = record {
    fresh = ForCryptomator (replicate 8 0);
    drawn = [];
    sizes = zeros 8;
    were_drawn = none;
    drew = drew_nothing t why;
    suits = inl refl;
    answer = λ v is. answers_loading root (under root v) pass why (told v is);
    told = told_loading why;
    early = λ is. same;
    moments = unchanged work root pass new_pass apart law t u same;
    done = tt;
  }

  module _ (one : HaveOneAnswer) (kind : VaultKind) (file : KeyFile) (of_kind : kind_of_file file ≡ kind) (s s' : Stream) (t : Option Told)
      (known : IfSeen t (Knows root pass kind file)) where
    suits : (fresh : Fresh) → IsFor (kind_of_file file) fresh → IfSeen t (λ v. (opened : Vault) → IsVault (under root v) pass opened → IsFor (kind_of opened) fresh)
    suits fresh is_for v is opened is_opened =
        let k = known v is in
        let same = one (under root v) pass (Ok k.opened) (Ok opened) k.is is_opened in
        let kinds : kind_of k.opened ≡ kind_of opened = cc same in
        subst (λ x. IsFor x fresh) kinds (subst (λ x. IsFor x fresh) k.of_kind (subst (λ x. IsFor x fresh) of_kind is_for))

    opens : IfSeen t (λ v. Opens (under root v) pass)
    opens v is = let k = known v is in (k.opened, k.is)

    -- nothing was set
    pub unset : (u : Option Told) (f : PassFault) → u ≡ t → DrawsText file pass new_pass s s' (Err f) → ChangesPass work root pass new_pass s s' t u (Err f)
    unset u f same d = record {
      fresh = d.fresh;
      drawn = d.drawn;
      sizes = d.sizes;
      were_drawn = d.were_drawn;
      drew = drew t known f d.drew;
      suits = inr (suits d.fresh d.is_for);
      answer = λ v is. answer f d.drew v is;
      told = told f d.drew;
      early = λ is. same;
      moments = unchanged work root pass new_pass apart law t u same;
      done = tt;
    }
      where
        drew : (t : Option Told) → IfSeen t (Knows root pass kind file) → (f : PassFault) → DrewFor file pass d.fresh d.drawn (Err f) → Drew t d.fresh d.drawn (Err f)
        drew None known (fault.Load why) h = inr (refl, h.0)
        drew (Some a) known (fault.Load why) h = (let k = known (seen a.state) refl in absurd (h.2 k.opened k.unlocks))
        drew t known fault.ZeroRandom h = h
        drew t known fault.Random h = h
        drew t known fault.Failed h = absurd h
        drew t known fault.NoMemory h = inr h

        told : (f : PassFault) → DrewFor file pass d.fresh d.drawn (Err f) → IsTold (Err f)
        told (fault.Load why) h = λ machine. subst IsOfMachine h.1 machine
        told fault.ZeroRandom h = tt
        told fault.Random h = tt
        told fault.Failed h = tt
        told fault.NoMemory h = tt

        answer : (f : PassFault) → DrewFor file pass d.fresh d.drawn (Err f) → IfSeen t (λ v. Answers root (under root v) pass (Err f))
        answer (fault.Load why) h v is = (let k = known v is in absurd (h.2 k.opened k.unlocks))
        answer fault.ZeroRandom h v is = opens v is
        answer fault.Random h v is = opens v is
        answer fault.Failed h v is = tt
        answer fault.NoMemory h v is = tt

    module _ (u : Option Told) (sound : (a : Told) → t ≡ Some a → IsSound a.state) (text : List ℕ) (d : DrawsText file pass new_pass s s' (Ok text)) (sets : Sets work (key_path root kind) text t u) where
      -- it fell while it was set
      pub fallen : (f : FolderFault) → ChangesPass work root pass new_pass s s' t u (Err (of_folder f))
      fallen f = record {
        fresh = d.fresh;
        drawn = d.drawn;
        sizes = d.sizes;
        were_drawn = d.were_drawn;
        drew = drew f;
        suits = inr (suits d.fresh d.is_for);
        answer = λ v is. answer (under root v) f;
        told = told f;
        early = early f;
        moments = set_moments work root pass new_pass apart law one kind file text t u sound known d.gives sets;
        done = tt;
      }
        where
          drew : (f : FolderFault) → Drew t d.fresh d.drawn (Err (of_folder f))
          drew folder.Failed = inr d.drew
          drew folder.Refused = inr d.drew
          drew folder.NoMemory = inr d.drew

          answer : (v : View) (f : FolderFault) → Answers root v pass (Err (of_folder f))
          answer v folder.Failed = tt
          answer v folder.Refused = tt
          answer v folder.NoMemory = tt

          told : (f : FolderFault) → IsTold (Err (of_folder f))
          told folder.Failed = tt
          told folder.Refused = tt
          told folder.NoMemory = tt

          early : (f : FolderFault) → IsEarly (Err (of_folder f)) → u ≡ t
          early folder.Failed never = absurd never
          early folder.Refused never = absurd never
          early folder.NoMemory never = absurd never

      pub done : HasSet work (key_path root kind) text t u → ChangesPass work root pass new_pass s s' t u (Ok tt)
      done set = record {
        fresh = d.fresh;
        drawn = d.drawn;
        sizes = d.sizes;
        were_drawn = d.were_drawn;
        drew = d.drew;
        suits = inr (suits d.fresh d.is_for);
        answer = opens;
        told = tt;
        early = λ never. absurd never;
        moments = set_moments work root pass new_pass apart law one kind file text t u sound known d.gives sets;
        done = set_done work root pass new_pass apart law one kind file text t u sound known d.gives d.fresh d.text set;
      }
