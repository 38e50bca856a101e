-- What a call promises that puts a content, by what stands at its path.
use Rattle.std.proofs.Common.{◌≡◌, ◌≢◌, ◌⊎◌, ℕ, List, [], ◌∷◌, ◌++◌, Option, Some, None, Result, Ok, Err, refl, sym, ap, ◌∙◌, inl, inr, subst, IsTrue}
use Rattle.chunk_files.specs.Encrypt.{encrypt}
use Rattle.port_model.specs.Draws.{ByteStream}
use Rattle.folder_spec.specs.Path.{Path}
use Rattle.folder_spec.specs.State.{IsSound}
use Rattle.folder_spec.specs.Event.{Told}
use Rattle.folder_spec.specs.Moments.{Went}
use Rattle.folder_spec.specs.Region.{at_or_below}
use Rattle.folder_spec.specs.Seen.{IfSeen, IsSeen, ShowsFile, seen, under}
use Rattle.folder_spec.specs.View.{View}
use Rattle.folder_spec.proofs.Tellings.{from_to_more}
use Rattle.folder_spec.proofs.Seen.{seen_of}
use Rattle.plain_tree.specs.Names as plain
use Rattle.vault_read.specs.Finding.{Refuses}
use Rattle.vault_read.specs.Laws.{KeepsVaults}
use Rattle.vault_spec.specs.Opened.{OpenedVault}
use Rattle.vault_faults.specs.declared.fault.FindFault.{FindFault}
use Rattle.vault_faults.specs.declared.fault.FindFault.TheVariants as finds
use Rattle.vault_spec.specs.Find as spec
use Rattle.vault_spec.specs.Find.{Refusal, enter}
use Rattle.vault_spec.specs.declared.Lack.TheVariants as lacks
use Rattle.vault_spec.specs.Format.{Format, Directory}
use Rattle.vault_spec.specs.Making.{NewFile, Allows}
use Rattle.vault_spec.specs.Opens.{opened_file}
use Rattle.vault_spec.specs.Standing.{Standing, Absent, Strange, File, Dir, root_of, standing, standing_from, standing_in}
use Rattle.vault_spec.specs.Vault as vaults
use Rattle.vault_spec.specs.Vault.{format_of}
use Rattle.item_making.specs.Ending.{Ending}
use Rattle.content_writing.specs.Content.{Coming}
use Rattle.item_making.specs.Faults.{of_find}
use Rattle.item_making.specs.declared.fault.PutFault.{PutFault}
use Rattle.item_making.specs.declared.fault.PutFault.TheVariants as puts
use Rattle.vault_write.specs.Calls.{InPlace, New}
use Rattle.vault_write.specs.Filing.{IsAtDirectory, IsDir, IsOverFault, MayReplace, PlacesFile, StandsAs, StandsUnder}
use Rattle.item_making.specs.Making.{Placing, format, path_of, put_by, put_item, new_item, StagesOrPlaces}
use Rattle.item_making.specs.Placing.{IsMaking, MayMake, making_at}
use Rattle.vault_write.specs.Refusing.{Answers, AnswersAtDirectory, AnswersOver, AnswersPut, AnswersPutBy}
use Rattle.vault_write.specs.Slots.{RefusesItem, placing}
use Rattle.vault_write.proofs.Found.{Enters}
use Rattle.vault_write.proofs.ItemMade.{at_itself}
use Rattle.vault_write.proofs.ReplacedMade.{IsReplaced, is_replaced}

-- ---- where nothing was changed

-- whatever stands there
pub put_anyway : (p : Placing) (ending : Ending) (u : View) (result : Result (Unit {0}) PutFault) → Answers p [] ending u result → AnswersOver p [] ending u result → AnswersAtDirectory p [] u result → AnswersPut p [] ending u result
put_anyway p ending u result new over directory = by_standing (standing (format p) u (path_of p))
  where
    by_standing : (s : Standing) → AnswersPutBy s p [] ending u result
    by_standing Absent = new
    by_standing (Strange at) = new
    by_standing (File at) = over
    by_standing (Dir at dir) = directory

-- ---- what stands under a name, by the directory

absent_rest : (f : Format) (v : View) (rest : plain.Path) → Absent ≡ standing_from f v Absent rest
absent_rest f v [] = refl
absent_rest f v (name ∷ rest) = refl

standing_rest : (f : Format) (v : View) (here : Standing) (front rest : plain.Path) → standing_from f v here (front ++ rest) ≡ standing_from f v (standing_from f v here front) rest
standing_rest f v here [] rest = refl
standing_rest f v (Dir at (Ok dir)) (name ∷ front) rest = standing_rest f v (standing_in f v dir name) front rest
standing_rest f v (Dir at (Err lack)) (name ∷ front) rest = absent_rest f v rest
standing_rest f v (File at) (name ∷ front) rest = absent_rest f v rest
standing_rest f v (Strange at) (name ∷ front) rest = absent_rest f v rest
standing_rest f v Absent (name ∷ front) rest = absent_rest f v rest

-- nothing stands in what isn't entered
absent_in : (f : Format) (v : View) (here : Standing) (name : List ℕ) → ((at : Path) (dir : Directory) → here ≢ Dir at (Ok dir)) → standing_from f v here (name ∷ []) ≡ Absent
absent_in f v (Dir at (Ok dir)) name never = absurd (never at dir refl)
absent_in f v (Dir at (Err lack)) name never = refl
absent_in f v (File at) name never = refl
absent_in f v (Strange at) name never = refl
absent_in f v Absent name never = refl

absent_under : Enters → (f : Format) (v : View) (front : plain.Path) (name : List ℕ) (refusal : Refusal) → enter f v front ≡ Err refusal → standing f v (front ++ name ∷ []) ≡ Absent
absent_under enters f v front name refusal refused =
    standing_rest f v (root_of f v) front (name ∷ [])
    ∙ absent_in f v (standing f v front) name (λ at dir stands. (let clash : Ok dir ≡ Err refusal = sym ((enters f v front dir).1 (record { at = at; stands = stands })) ∙ refused in cc))

-- what a call refuses that looks for a place, whatever stands there
pub over_refused : Enters → (vault : OpenedVault) (work : Path) (front : plain.Path) (name content : List ℕ) (t : Option Told) (fault : PutFault) → RefusesItem vault front name (NewFile content) [] t fault → IsOverFault vault front t fault
    → (ending : Ending) → IfSeen t (λ v. AnswersPut (placing vault work front name (NewFile content)) [] ending (under vault.root v) (Err fault))
over_refused enters vault work front name content t (puts.Find fault) refuses over ending v is =
    subst (λ s. AnswersPutBy s (placing vault work front name (NewFile content)) [] ending (under vault.root v) (Err (puts.Find fault)))
    (sym (absent_under enters (format_of vault.vault) (under vault.root v) front name (over v is).0 (over v is).1)) (refuses work ending v is)
over_refused enters vault work front name content t (puts.NotAllowed path) refuses over ending v is =
    put_anyway (placing vault work front name (NewFile content)) ending (under vault.root v) (Err (puts.NotAllowed path)) (refuses work ending v is) (refuses work ending v is) (refuses work ending v is)
over_refused enters vault work front name content t puts.Failed refuses over ending v is =
    put_anyway (placing vault work front name (NewFile content)) ending (under vault.root v) (Err puts.Failed) tt tt tt
over_refused enters vault work front name content t puts.NoMemory refuses over ending v is = put_anyway (placing vault work front name (NewFile content)) ending (under vault.root v) (Err puts.NoMemory) tt tt tt
over_refused enters vault work front name content t (puts.Taken at) refuses over ending v is = absurd over
over_refused enters vault work front name content t (puts.Damaged at fault) refuses over ending v is = absurd over
over_refused enters vault work front name content t (puts.Limit limit) refuses over ending v is = absurd over
over_refused enters vault work front name content t puts.ZeroRandom refuses over ending v is = absurd over
over_refused enters vault work front name content t puts.Source refuses over ending v is = absurd over
over_refused enters vault work front name content t puts.Random refuses over ending v is = absurd over

-- a directory stands there
at_directory : (s : Standing) (p : Placing) (ending : Ending) (u : View) (fault : FindFault) → IsDir s → Allows (format p) p.name → fault ≡ finds.WrongKind (path_of p) → AnswersPutBy s p [] ending u (Err (puts.Find fault))
at_directory (Dir at directory) p ending u fault is allowed same = (allowed, same, refl)
at_directory (File at) p ending u fault is allowed same = absurd is
at_directory (Strange at) p ending u fault is allowed same = absurd is
at_directory Absent p ending u fault is allowed same = absurd is

pub directory_refused : (vault : OpenedVault) (work : Path) (path front : plain.Path) (name content : List ℕ) (t : Option Told) (fault : PutFault) → path ≡ front ++ name ∷ [] → Allows (format_of vault.vault) name
    → IsAtDirectory vault path t fault → (ending : Ending) → IfSeen t (λ v. AnswersPut (placing vault work front name (NewFile content)) [] ending (under vault.root v) (Err fault))
directory_refused vault work path front name content t fault is allowed (inl failed) ending v seen_so =
    subst (λ x. AnswersPut (placing vault work front name (NewFile content)) [] ending (under vault.root v) (Err x)) (sym failed)
    (put_anyway (placing vault work front name (NewFile content)) ending (under vault.root v) (Err puts.Failed) tt tt tt)
directory_refused vault work path front name content t fault is allowed (inr (inl memory)) ending v seen_so =
    subst (λ x. AnswersPut (placing vault work front name (NewFile content)) [] ending (under vault.root v) (Err x)) (sym memory) (put_anyway (placing vault work front name (NewFile content)) ending (under vault.root v) (Err puts.NoMemory) tt tt tt)
directory_refused vault work path front name content t fault is allowed (inr (inr (same, dir))) ending v seen_so =
    subst (λ x. AnswersPut (placing vault work front name (NewFile content)) [] ending (under vault.root v) (Err x)) (sym same)
    (at_directory (standing (format_of vault.vault) (under vault.root v) (front ++ name ∷ [])) (placing vault work front name (NewFile content)) ending (under vault.root v) (finds.WrongKind path)
    (subst (λ q. IsDir (standing (format_of vault.vault) (under vault.root v) q)) is (dir v seen_so)) allowed (ap finds.WrongKind is))

-- ---- a new file where no item stands

abbrev IsNewAt : Standing → Type 0
IsNewAt Absent = Unit {0}
IsNewAt (Strange at) = Unit {0}
IsNewAt (File at) = ⊥
IsNewAt (Dir at directory) = ⊥

new_at : (s : Standing) (root : Path) → StandsAs root s None → IsNewAt s
new_at Absent root stands = tt
new_at (Strange at) root stands = tt
new_at (File at) root stands = absurd stands
new_at (Dir at directory) root stands = absurd stands

put_is_new : (s : Standing) (p : Placing) (drawn : List ℕ) (u : View) → IsNewAt s → put_by p drawn u s ≡ new_item p drawn u
put_is_new Absent p drawn u is = refl
put_is_new (Strange at) p drawn u is = refl
put_is_new (File at) p drawn u is = absurd is
put_is_new (Dir at directory) p drawn u is = absurd is

answers_new : (s : Standing) (p : Placing) (drawn : List ℕ) (ending : Ending) (u : View) (result : Result (Unit {0}) PutFault) → IsNewAt s → Answers p drawn ending u result → AnswersPutBy s p drawn ending u result
answers_new Absent p drawn ending u result is answers = answers
answers_new (Strange at) p drawn ending u result is answers = answers
answers_new (File at) p drawn ending u result is answers = absurd is
answers_new (Dir at directory) p drawn ending u result is answers = absurd is

pub put_new : {vault : OpenedVault} {work : Path} {front : plain.Path} {name : List ℕ} {coming left : Option Coming} {stream stream' : Option ByteStream} {t u : Option Told} {result : Result (Unit {0}) PutFault}
    → IfSeen t (λ v. StandsAs vault.root (standing (format_of vault.vault) (under vault.root v) (front ++ name ∷ [])) None)
    → PlacesFile New vault work front name coming left stream stream' t u result → PlacesFile InPlace vault work front name coming left stream stream' t u result
put_new {vault} {work} {front} {name} {t = t} {u = u} {result = result} stands k = record {
  writing = k.writing;
  takes = k.takes;
  one = record {
    enough = k.one.enough;
    makes = record {
      moments = from_to_more
          (λ a b. Went (IsMaking p k.writing.ending (making_at p (new_item p k.writing.drawn) a.state) a.state) (λ s e. StagesOrPlaces p.work (making_at p (new_item p k.writing.drawn) a.state) s e.call) a b)
          (λ a b. Went (IsMaking p k.writing.ending (making_at p (put_item p k.writing.drawn) a.state) a.state) (λ s e. StagesOrPlaces p.work (making_at p (put_item p k.writing.drawn) a.state) s e.call) a b) t u
          (λ a b is went. subst (λ n. Went (IsMaking p k.writing.ending n a.state) (λ s e. StagesOrPlaces p.work n s e.call) a b) (sym (put_is_new (stands_at a) p k.writing.drawn (under vault.root (seen a.state)) (is_new a is))) went)
          k.one.makes.moments;
      done = k.one.makes.done;
      ready = k.one.makes.ready;
      ends = k.one.makes.ends;
    };
    answer = λ v is. answers_new (standing (format_of vault.vault) (under vault.root v) (front ++ name ∷ [])) p k.writing.drawn k.writing.ending (under vault.root v) result
        (new_at (standing (format_of vault.vault) (under vault.root v) (front ++ name ∷ [])) vault.root (stands v is)) (k.one.answer v is);
    tested = k.one.tested;
    unpublished = k.one.unpublished;
    zeros = k.one.zeros;
    accepted = k.one.accepted;
  };
}
  where
    p : Placing
    p = placing vault work front name (NewFile k.writing.content)

    stands_at : Told → Standing
    stands_at a = standing (format_of vault.vault) (under vault.root (seen a.state)) (front ++ name ∷ [])

    is_new : (a : Told) → t ≡ Some a → IsNewAt (stands_at a)
    is_new a is = new_at (stands_at a) vault.root (stands (seen a.state) (seen_of t a is))

-- ---- a file that stands

pub stands_file : (s : Standing) (root at : Path) → StandsAs root s (Some at) → (place : Path) × (s ≡ File place) × (at ≡ root ++ place)
stands_file (File place) root at is = (place, refl, is)
stands_file (Dir place directory) root at is = absurd is
stands_file (Strange place) root at is = absurd is
stands_file Absent root at is = absurd is

abbrev pub HaveContents : Type 0
HaveContents = (vault : vaults.Vault) (v : View) (path : plain.Path) (at : Path) → standing (format_of vault) v path ≡ File at → ShowsFile v at

pub may_replace : HaveContents → (vault : OpenedVault) (work : Path) (front : plain.Path) (name : List ℕ) (at : Path) (t : Option Told) → ((a : Told) → t ≡ Some a → IsSound a.state) → MayMake t work vault.root
    → StandsUnder vault front name t at → (a : Told) → t ≡ Some a → MayReplace work vault.root at a
may_replace contents vault work front name at t sound may stands a is =
    let k : (place : Path) × (standing (format_of vault.vault) (under vault.root (seen a.state)) (front ++ name ∷ []) ≡ File place) × (at ≡ vault.root ++ place) =
    stands_file (standing (format_of vault.vault) (under vault.root (seen a.state)) (front ++ name ∷ [])) vault.root at (stands (seen a.state) (seen_of t a is)) in
    let file : ShowsFile (under vault.root (seen a.state)) k.0 = contents vault.vault (under vault.root (seen a.state)) (front ++ name ∷ []) k.0 k.1 in
    record {
      sound = sound a is;
      ready = may.ready (seen a.state) (seen_of t a is);
      apart = may.apart;
      beside = may.beside;
      inside = subst (λ q. IsTrue (at_or_below vault.root q)) (sym k.2) (at_itself vault.root k.0);
      file = (file.0, ap (seen a.state) k.2 ∙ file.1);
    }

pub replaced_at : (vault : OpenedVault) → KeepsVaults (format_of vault.vault) → (work : Path) (front : plain.Path) (name : List ℕ) (at : Path) (t : Option Told) → ((a : Told) → t ≡ Some a → IsSound a.state) → MayMake t work vault.root
    → StandsUnder vault front name t at → (content drawn : List ℕ) (a : Told) → t ≡ Some a
    → IsReplaced (placing vault work front name (NewFile content)) (opened_file (format_of vault.vault).content (Some (encrypt (format_of vault.vault).content drawn content))) drawn at (encrypt (format_of vault.vault).content drawn content) a
replaced_at vault laws work front name at t sound may stands content drawn a is =
    let k : (place : Path) × (standing (format_of vault.vault) (under vault.root (seen a.state)) (front ++ name ∷ []) ≡ File place) × (at ≡ vault.root ++ place) =
    stands_file (standing (format_of vault.vault) (under vault.root (seen a.state)) (front ++ name ∷ [])) vault.root at (stands (seen a.state) (seen_of t a is)) in
    is_replaced vault laws work front name content drawn at k.0 a (sound a is) k.2 k.1 may.apart may.beside

-- what stands under a name, by what stands at its path
pub stands_then : (vault : OpenedVault) (path front : plain.Path) (name : List ℕ) (file : Option Path) (t u : Option Told) → path ≡ front ++ name ∷ [] → u ≡ t
    → IfSeen t (λ v. StandsAs vault.root (standing (format_of vault.vault) (under vault.root v) path) file)
    → IfSeen u (λ v. StandsAs vault.root (standing (format_of vault.vault) (under vault.root v) (front ++ name ∷ [])) file)
stands_then vault path front name file t u is same stands v seen_so =
    subst (λ q. StandsAs vault.root (standing (format_of vault.vault) (under vault.root v) q) file) is (stands v (subst (λ o. IsSeen o v) same seen_so))

-- ---- entering

-- how looking for a directory fails
pub over_fault : (vault : OpenedVault) (front : plain.Path) (t : Option Told) (fault : FindFault) → IfSeen t (λ v. Refuses vault.root (enter (format_of vault.vault) (under vault.root v) front) fault)
    → IsOverFault vault front t (of_find fault)
over_fault vault front t (finds.NotFound path) refuses = λ v is. (spec.NotFound path, refuses v is)
over_fault vault front t (finds.WrongKind path) refuses = λ v is. (spec.WrongKind path, refuses v is)
over_fault vault front t (finds.NoDirKey path) refuses = λ v is. (spec.Locked (refuses v is).0 lacks.NoDirKey, (refuses v is).2)
over_fault vault front t (finds.NoFolder path) refuses = λ v is. (spec.Locked (refuses v is).0 lacks.NoFolder, (refuses v is).2)
over_fault vault front t finds.Failed refuses = tt
over_fault vault front t finds.NoMemory refuses = tt

pub not_allowed_over : (vault : OpenedVault) (front : plain.Path) (t : Option Told) (path : plain.Path) (X : Type 0) (fault : PutFault) → (fault ≡ puts.NoMemory) ⊎ ((fault ≡ puts.NotAllowed path) × X) → IsOverFault vault front t fault
not_allowed_over vault front t path X fault (inl memory) = subst (IsOverFault vault front t) (sym memory) tt
not_allowed_over vault front t path X fault (inr (is, x)) = subst (IsOverFault vault front t) (sym is) tt
