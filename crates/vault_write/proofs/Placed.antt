-- The edits of a directory are done one after the other, each where nothing stands.
use Rattle.std.specs.Prelude.{Contains}
use Rattle.std.specs.Result.{IsErr}
use Rattle.std.proofs.Common.{arith, true, false, Bool, not, ◌≡◌, ℕ, List, [], ◌∷◌, ◌++◌, Option, Some, None, Result, Ok, Err, OnOk, refl, sym, ap, ◌∙◌, inl, inr, subst, append-nil, IsTrue, cond}
use Rattle.folder_spec.specs.declared.FolderFault.{FolderFault}
use Rattle.folder_spec.specs.Path.{Path, below, parent}
use Rattle.folder_spec.specs.State.{IsSound}
use Rattle.folder_spec.specs.Edit.{Edit, edited, directory_edit, view_after}
use Rattle.folder_spec.specs.Event.{MakeDir, Told, Steps, Changes, FromTo}
use Rattle.folder_spec.specs.Seen.{IfSeen, ShowsFree, put_found, seen}
use Rattle.folder_spec.specs.View.{Folder, View}
use Rattle.folder_spec.proofs.Edits.{off_edit}
use Rattle.folder_spec.proofs.Paths.{below-parent, one_or_not, path_eq-same, parent-child, child-apart}
use Rattle.folder_spec.proofs.Seen.{seen_changed, seen_of}
use Rattle.folder_spec.proofs.Tellings.{from_to_more}
use Rattle.work_folder.specs.Entries.{stage_path}
use Rattle.item_making.specs.Making.{Making, is_inside, is_unstaged}
use Rattle.vault_write.specs.Editing.{Edits, HasEdited, HasFinished, AddsEdits, MayBePut, side_edits, shelf_edits, home_edits, GoPlaces, HomePlaces, CmPlaces}
use Rattle.vault_write.proofs.Seeing.{seen_then}

-- none of these edits comes to stand at a path or above it
abbrev pub AreOff : List Edit → Path → Type 0
AreOff [] q = Unit {0}
AreOff (e ∷ edits) q = (below e.at q ≡ None) × AreOff edits q

view_off : (v : View) (edits : List Edit) (q : Path) → AreOff edits q → view_after v edits q ≡ v q
view_off v [] q off = refl
view_off v (e ∷ edits) q off = view_off (edited v e) edits q off.1 ∙ off_edit v e q off.0

off_parent : (edits : List Edit) (q : Path) → AreOff edits q → AreOff edits (parent q)
off_parent [] q off = record {}
off_parent (e ∷ edits) q off = (below-parent e.at q off.0, off_parent edits q off.1)

pub off_both : (one two : List Edit) (q : Path) → AreOff one q → AreOff two q → AreOff (one ++ two) q
off_both [] two q first second = second
off_both (e ∷ one) two q first second = (first.0, off_both one two q first.1 second)

unstaged_at : (work q : Path) → below (stage_path work) q ≡ None → IsTrue (is_unstaged work q)
unstaged_at work q none = ap (λ o. not (is_inside o)) none

-- so a place where something may come stays so
pub may_still : (work root at : Path) (m : Making) (done more : List Edit) (t u : Option Told) → FromTo (HasEdited None work root m done more) t u
    → IfSeen t (λ v. MayBePut v work at × AreOff done at) → IfSeen u (λ w. MayBePut w work at)
may_still work root at m done more t u h may =
    seen_then (HasEdited None work root m done more) (λ w. MayBePut w work at) t u
    (λ a b is k.
    let there : MayBePut (seen a.state) work at × AreOff done at = may (seen a.state) (seen_of t a is) in
    let kept : (q : Path) → AreOff done q → below (stage_path work) q ≡ None → seen b.state q ≡ seen a.state q =
    λ q off none. k.views q (unstaged_at work q none) ∙ view_off (seen a.state) done q off in
    record {
      ready = k.ready;
      free = (kept at there.1 there.0.apart ∙ there.0.free.0, kept (parent at) (off_parent done at there.1) (below-parent (stage_path work) at there.0.apart) ∙ there.0.free.1);
      apart = there.0.apart;
    }) h

-- ---- a directory of gocryptfs

pub side_off : (wants : Bool) (side at : Path) (full : Option (List ℕ)) → (wants ≡ true → below side at ≡ None) → AreOff (side_edits wants side full) at
side_off false side at full apart = record {}
side_off true side at None apart = record {}
side_off true side at (Some text) apart = (apart refl, record {})

pub entry_may : (work root : Path) (m : Making) (wants : Bool) (side at : Path) (full : Option (List ℕ)) (more : List Edit) (t u : Option Told)
    → FromTo (HasEdited None work root m (side_edits wants side full) more) t u → IfSeen t (λ v. GoPlaces v work wants side at) → IfSeen u (λ w. MayBePut w work at)
entry_may work root m wants side at full more t u h places =
    may_still work root at m (side_edits wants side full) more t u h (λ v is. ((places v is).entry, side_off wants side at full (places v is).others))

-- so a free place stays free, whatever the stage has
pub entry_free : (held : Option View) (work root : Path) (m : Making) (wants : Bool) (side at : Path) (full : Option (List ℕ)) (more : List Edit) (t u : Option Told)
    → FromTo (HasEdited held work root m (side_edits wants side full) more) t u → IfSeen t (λ v. GoPlaces v work wants side at) → IfSeen u (λ w. ShowsFree w at)
entry_free held work root m wants side at full more t u h places =
    seen_then (HasEdited held work root m (side_edits wants side full) more) (λ w. ShowsFree w at) t u
    (λ a b is k.
    let there : GoPlaces (seen a.state) work wants side at = places (seen a.state) (seen_of t a is) in
    let off : AreOff (side_edits wants side full) at = side_off wants side at full there.others in
    let kept : (q : Path) → AreOff (side_edits wants side full) q → below (stage_path work) q ≡ None → seen b.state q ≡ seen a.state q =
    λ q apart none. k.views q (unstaged_at work q none) ∙ view_off (seen a.state) (side_edits wants side full) q apart in (
      kept at off there.entry.apart ∙ there.entry.free.0,
      kept (parent at) (off_parent (side_edits wants side full) at off) (below-parent (stage_path work) at there.entry.apart) ∙ there.entry.free.1,
    )) h

-- ---- the folders of one of Cryptomator

pub shelf_off : (wants : Bool) (shelf at : Path) → (wants ≡ true → below shelf at ≡ None) → AreOff (shelf_edits wants shelf) at
shelf_off false shelf at apart = record {}
shelf_off true shelf at apart = (apart refl, record {})

pub home_off : (wants : Bool) (shelf home at : Path) → (wants ≡ true → below shelf at ≡ None) → below home at ≡ None → AreOff (home_edits wants shelf home) at
home_off wants shelf home at apart home_apart = off_both (shelf_edits wants shelf) (directory_edit home ∷ []) at (shelf_off wants shelf at apart) (home_apart, record {})

pub entry_may_then : (work root : Path) (m : Making) (wants : Bool) (shelf home at : Path) (more : List Edit) (t u : Option Told)
    → FromTo (HasEdited None work root m (home_edits wants shelf home) more) t u → IfSeen t (λ v. CmPlaces v work wants shelf home at) → IfSeen u (λ w. MayBePut w work at)
entry_may_then work root m wants shelf home at more t u h places =
    may_still work root at m (home_edits wants shelf home) more t u h
    (λ v is. ((places v is).entry, home_off wants shelf home at (places v is).shelf_apart (places v is).home_apart))

-- a folder that is made is seen
pub made_shown : (at : Path) (t u : Option Told) (result : Result (Unit {0}) FolderFault) → ((a : Told) → t ≡ Some a → IsSound a.state) → Changes (MakeDir at) t u result
    → OnOk result (FromTo (λ a b. seen b.state ≡ put_found (seen a.state) at Folder) t u)
made_shown at t u (Err fault) sound changes = tt
made_shown at t u (Ok value) sound changes = from_to_more (λ a b. Steps (MakeDir at) a b (Ok value)) (λ a b. seen b.state ≡ put_found (seen a.state) at Folder) t u
    (λ a b is steps. ap (λ (c : Told). seen c.state) steps.1 ∙ seen_changed a.state (MakeDir at) (sound a is) steps.0) changes

-- so the folder in it has its place
pub home_free_then : (shelf home : Path) (t u : Option Told) → IfSeen t (λ v. HomePlaces v true shelf home) → FromTo (λ a b. seen b.state ≡ put_found (seen a.state) shelf Folder) t u
    → IfSeen u (λ w. ShowsFree w home)
home_free_then shelf home t u places =
    seen_then (λ a b. seen b.state ≡ put_found (seen a.state) shelf Folder) (λ w. ShowsFree w home) t u
    (λ a b is shown. subst (λ z. ShowsFree z home) (sym shown) (free_in (seen a.state) (places (seen a.state) (seen_of t a is))))
  where
    free_in : (v : View) → HomePlaces v true shelf home → ShowsFree (put_found v shelf Folder) home
    free_in v there = (
      off ∙ there.home_free,
      ap (put_found v shelf Folder) (ap parent there.inside.1 ∙ parent-child shelf there.inside.0) ∙ ap (λ t. cond t Folder (v shelf)) (path_eq-same shelf),
    )
      where
        off : put_found v shelf Folder home ≡ v home
        off = elim (one_or_not shelf home) [
          | inl same ↦ absurd (child-apart shelf there.inside.0 (sym there.inside.1 ∙ sym same))
          | inr apart ↦ ap (λ t. cond t Folder (v home)) apart.1
        ]

pub home_free_now : (shelf home : Path) (t : Option Told) → IfSeen t (λ v. HomePlaces v false shelf home) → IfSeen t (λ w. ShowsFree w home)
home_free_now shelf home t places w is =
    let there : HomePlaces w false shelf home = places w is in
    (there.home_free, ap w (ap parent there.inside.1 ∙ parent-child shelf there.inside.0) ∙ there.shelf_there refl)

-- ---- all edits of a making

pub doing : (work root : Path) (m : Making) (t w : Option Told) (result : Result (Unit {0}) FolderFault) → FromTo (HasEdited None work root m [] m.edits) t t → AddsEdits None work m.edits m.files t w result
    → FromTo (Edits work root m) t w × OnOk result (FromTo (HasEdited None work root m m.edits []) t w)
doing work root m t w result begun adds =
    adds root m [] [] t (λ file among. among)
    (from_to_more (HasEdited None work root m [] m.edits) (HasEdited None work root m [] (m.edits ++ [])) t t (λ a b is k. subst (λ es. HasEdited None work root m [] es a b) (sym (append-nil m.edits)) k) begun)

-- the first of them
pub doing_first : (work root : Path) (m : Making) (one two : List Edit) (files : List (List ℕ)) (t w : Option Told) (result : Result (Unit {0}) FolderFault) → m.edits ≡ one ++ two
    → ((file : List ℕ) → Contains files file → Contains m.files file)
    → FromTo (HasEdited None work root m [] m.edits) t t → AddsEdits None work one files t w result → FromTo (Edits work root m) t w × OnOk result (FromTo (HasEdited None work root m one two) t w)
doing_first work root m one two files t w result is within begun adds =
    adds root m [] two t within
    (from_to_more (HasEdited None work root m [] m.edits) (HasEdited None work root m [] (one ++ two)) t t (λ a b told k. subst (λ es. HasEdited None work root m [] es a b) is k) begun)

pub does_failed : (work root : Path) (m : Making) (t w : Option Told) (result : Result (Unit {0}) FolderFault) → IsErr result → FromTo (Edits work root m) t w
    → FromTo (Edits work root m) t w × OnOk result (FromTo (HasFinished work root m) t w)
does_failed work root m t w (Err fault) err edits = (edits, tt)
does_failed work root m t w (Ok value) err edits = let clash : false ≡ true = err in cc

-- any fault will do
pub adds_err : (work : Path) (edits : List Edit) (files : List (List ℕ)) (t u : Option Told) (fault : FolderFault) (result : Result (Unit {0}) FolderFault) → IsErr result → AddsEdits None work edits files t u (Err fault) → AddsEdits None work edits files t u result
adds_err work edits files t u fault (Err other) err adds = adds
adds_err work edits files t u fault (Ok value) err adds = let clash : false ≡ true = err in cc

pub shelf_home : (shelf home : Path) (wants : Bool) (t u : Option Told) (result : Result (Unit {0}) FolderFault) → wants ≡ true → IfSeen t (λ v. HomePlaces v wants shelf home)
    → OnOk result (FromTo (λ a b. seen b.state ≡ put_found (seen a.state) shelf Folder) t u) → OnOk result (IfSeen u (λ w. ShowsFree w home))
shelf_home shelf home wants t u (Err fault) is places shown = tt
shelf_home shelf home wants t u (Ok value) is places shown = home_free_then shelf home t u (λ v seen_so. subst (λ b. HomePlaces v b shelf home) is (places v seen_so)) shown

pub none_among : (files : List (List ℕ)) (file : List ℕ) → Contains [] file → Contains files file
none_among files file (k, lt, at) = absurd (omega (arith, lt))
