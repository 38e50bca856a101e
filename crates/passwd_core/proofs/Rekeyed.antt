-- What a crash leaves of a vault while its file of keys is set.
use Rattle.std.proofs.Common.{◌≡◌, ◌≢◌, ℕ, Bool, zero, suc, List, [], ◌∷◌, ◌++◌, Option, Some, None, refl, sym, ap, ◌∙◌, subst, inl, inr, arith, append-nil, append_assoc, IsTrue, Ok}
use Rattle.std.specs.Prelude.{Contains}
use Rattle.std.specs.Cmp.{first_so, second_so}
use Rattle.folder_spec.specs.declared.Spot.{Spot}
use Rattle.folder_spec.specs.declared.Spot.TheVariants.{Nothing, Directory, FileNode, Odd}
use Rattle.folder_spec.specs.Path.{Part, Path, below}
use Rattle.folder_spec.specs.State.{State, present, IsTableOf, Table, IsSound, HasNothingPendingIn}
use Rattle.folder_spec.specs.Image.{Image, IsImage}
use Rattle.folder_spec.specs.Event.{Event, Told, FromTo}
use Rattle.folder_spec.specs.Moments.{Went, Moments}
use Rattle.folder_spec.specs.Region.{IsAsBefore, AlikeIn, SparesOld, apart_from, apart_from_both, at_or_below}
use Rattle.folder_spec.specs.Replace.{IsOldOrNew}
use Rattle.folder_spec.specs.Seen.{IfSeen, seen, under}
use Rattle.folder_spec.specs.View.{NoEntry, FileOf, View, view_of, found, AgreeIn, ShowsAmong}
use Rattle.folder_spec.specs.Edit.{Edit, edited, grafted, file_edit, IsOutside, IsPartOf}
use Rattle.folder_spec.proofs.Moments.{went_nowhere, went_more}
use Rattle.folder_spec.proofs.Paths.{below-append, below-apart, below-both, begins_or_not, not_below, append-cancel}
use Rattle.folder_spec.proofs.Regions.{as_before}
use Rattle.folder_spec.proofs.Replaces.{apart-below, apart-from_below}
use Rattle.folder_spec.proofs.Seen.{file_seen, seen_of}
use Rattle.folder_spec.proofs.Sound.{above_is_directory}
use Rattle.folder_spec.proofs.Tables.{present_is_table}
use Rattle.folder_spec.proofs.Tellings.{from_to_more, from_to_same}
use Rattle.folder_staging.specs.Places.{ArePlacesApart}
use Rattle.vault_read.specs.Laws.{HaveOneAnswer}
use Rattle.vault_read.specs.Opened.{kind_of}
use Rattle.vault_read.specs.declared.vault.VaultKind.{VaultKind}
use Rattle.vault_spec.specs.Vault.{Vault, IsVault}
use Rattle.work_folder.specs.Setting.{staged_file, beside, IsSetting, IsSet, Sets, HasSet}
use Rattle.passwd_core.specs.declared.reading.KeyFile.{KeyFile}
use Rattle.passwd_core.specs.Drawing.{Fresh}
use Rattle.passwd_core.specs.KeyFiles.{key_name, key_path, HoldsKeys, UnlocksKeys, Rewrites, GivesKeys}
use Rattle.passwd_core.specs.Rekeying.{IsRekeyed, IsRekeying, SparesOthers, HasRekeyed}
use Rattle.passwd_core.specs.Steps.{OpensAs}
use Rattle.passwd_core.proofs.Vaults.{HasNewKeys, IsHeld, SayOne, held, opens_anew}

-- the laws of what images show, and of what is shown at a root and below it
pub record ViewsShown : Type 0 where
  pub images : (region : Path → Bool) (s : State) (image : Image) (views : List View) → ShowsAmong region s views → IsImage s image → (v : View) × Contains views v × AgreeIn region (view_of image) v
  pub settled : (region : Path → Bool) (s : State) → HasNothingPendingIn region s → ShowsAmong region s (seen s ∷ [])
  pub alike : (root : Path) (v w : View) → AgreeIn (at_or_below root) v w → under root v ≡ under root w
  pub outside : (stage root : Path) → below stage root ≡ None → below root stage ≡ None → IsOutside stage (at_or_below root)

-- ---- paths

pub below_longer : (w more q : Path) → below w q ≡ None → below (w ++ more) q ≡ None
below_longer w more q none = elim (begins_or_not (w ++ more) q) as (λ _. below (w ++ more) q ≡ None) [
  | inl k ↦ absurd (not_below w (more ++ k.0) (ap (below w) (sym (k.1 ∙ append_assoc w more k.0)) ∙ none))
  | inr apart ↦ apart
]

edited_elsewhere : (v : View) (e : Edit) (p : Path) → below e.at p ≡ None → edited v e p ≡ v p
edited_elsewhere v e p none = ap (grafted v e p) none

-- nothing is seen below a file
below_file : (s : State) → IsSound s → (at : Path) (bytes : List ℕ) → seen s at ≡ FileOf bytes → (a : Part) (more : Path) → seen s (at ++ a ∷ more) ≡ NoEntry
below_file s sound at bytes is a more = by_spot (present s (at ++ a ∷ more)) refl
  where
    file : (n : ℕ) × (present s at ≡ FileNode n)
    file = file_seen (λ n. (s.nodes n).now) (present s at) bytes is

    directory : present s (at ++ a ∷ more) ≢ Nothing → ⊥
    directory stands =
        let above : present s at ≡ Directory = above_is_directory s.made (present s) (sound.tables (present s) (present_is_table s)) at a more stands in
        let here : present s at ≡ FileNode (file.0) = file.1 in
        cc

    by_spot : (x : Spot) → present s (at ++ a ∷ more) ≡ x → found (λ n. (s.nodes n).now) (present s (at ++ a ∷ more)) ≡ NoEntry
    by_spot Nothing e = ap (found (λ n. (s.nodes n).now)) e
    by_spot Directory e = absurd (directory (λ none. (let no : Directory ≡ Nothing = sym e ∙ none in cc)))
    by_spot (FileNode n) e = absurd (directory (λ none. (let no : FileNode n ≡ Nothing = sym e ∙ none in cc)))
    by_spot Odd e = absurd (directory (λ none. (let no : Odd ≡ Nothing = sym e ∙ none in cc)))

-- ---- the file that is there

module _ (root : Path) (pass : List ℕ) where
  -- what is known of a folder that tells its state, when the file of keys has been read
  pub record Knows (kind : VaultKind) (file : KeyFile) (v : View) : Type 0 where
    pub opened : Vault
    pub is : IsVault (under root v) pass opened
    pub of_kind : kind ≡ kind_of opened
    pub holds : HoldsKeys (kind_of opened) (v (key_path root (kind_of opened))) file
    pub unlocks : UnlocksKeys file pass opened

  pub knows : SayOne → (kind : VaultKind) (file : KeyFile) (v : View) → OpensAs kind (under root v) pass → HoldsKeys kind (v (key_path root kind)) file → Knows kind file v
  knows say_one kind file v opens holds =
      let there = held (under root v) pass opens.0 opens.1 in
      let holds_there : HoldsKeys (kind_of opens.0) (v (key_path root (kind_of opens.0))) file = subst (λ k. HoldsKeys k (v (key_path root k)) file) opens.2 holds in
      record {
        opened = opens.0;
        is = opens.1;
        of_kind = opens.2;
        holds = holds_there;
        unlocks = subst (λ f. UnlocksKeys f pass opens.0) (say_one (kind_of opens.0) (v (key_path root (kind_of opens.0))) there.file file there.holds holds_there) there.unlocks;
      }

-- ---- at each moment

module _ (work root : Path) (pass new_pass : List ℕ) (apart : ArePlacesApart work root) (law : ViewsShown) where
  inside_root : (rest : Path) → IsTrue (apart_from work (root ++ rest))
  inside_root rest = apart-from_below work (root ++ rest) (below-apart work root rest apart.apart apart.beside)

  -- ---- the old view

  rekeyed_old : (s0 : State) (opened : Vault) → IsVault (under root (seen s0)) pass opened → (image : Image) → AgreeIn (apart_from work) (view_of image) (seen s0)
      → IsRekeyed work root opened pass new_pass s0 image
  rekeyed_old s0 opened is image agree = record {
    opens = inl (subst (λ v. IsVault v pass opened) (sym same) is);
    others = λ p inside other. agree p inside;
  }
    where
      same : under root (view_of image) ≡ under root (seen s0)
      same = law.alike root (view_of image) (seen s0) (λ p here. agree p (law.outside work root apart.apart apart.beside p here))

  one_alone : (image : Image) (v u : View) → Contains (v ∷ []) u → AgreeIn (apart_from work) (view_of image) u → AgreeIn (apart_from work) (view_of image) v
  one_alone image v u (zero, lt, is) agree = subst (AgreeIn (apart_from work) (view_of image)) (sym is) agree
  one_alone image v u (suc k, lt, is) agree = absurd (omega (arith, lt))

  -- all outside the work folder is still seen, and nothing is pending there
  pub kept : (s0 s : State) → HasNothingPendingIn (apart_from work) s → AgreeIn (apart_from work) (seen s) (seen s0)
      → (opened : Vault) → IsVault (under root (seen s0)) pass opened → (image : Image) → IsImage s image → IsRekeyed work root opened pass new_pass s0 image
  kept s0 s none same opened is image is_image =
      let there = law.images (apart_from work) s image (seen s ∷ []) (law.settled (apart_from work) s none) is_image in
      rekeyed_old s0 opened is image (λ p inside. one_alone image (seen s) there.0 there.1 there.2 p inside ∙ same p inside)

  still : (s : State) → IsRekeying work (staged_file work) root pass new_pass s s
  still s = record {
    others = as_before (apart_from_both (staged_file work) root) s;
    images = λ opened is none. kept s s none (λ p inside. refl) opened is;
  }

  -- nothing has changed
  pub unchanged : (t u : Option Told) → u ≡ t → Moments (IsRekeying work (staged_file work) root pass new_pass) (SparesOthers work root pass) t u
  unchanged t u same =
      from_to_same (λ a b. Went (IsRekeying work (staged_file work) root pass new_pass a.state) (SparesOthers work root pass a.state) a b) t u same
      (λ a. went_nowhere (IsRekeying work (staged_file work) root pass new_pass a.state) (SparesOthers work root pass a.state) a (still a.state))

  -- ---- the new file

  module _ (opened : Vault) where
    abbrev at : Path
    at = key_path root (kind_of opened)

    abbrev name : Part
    name = key_name (kind_of opened)

    at_itself : below at at ≡ Some []
    at_itself = ap (below at) (sym (append-nil at)) ∙ below-append at []

    module _ (s0 : State) (sound : IsSound s0) (is : IsVault (under root (seen s0)) pass opened) (text : List ℕ) (gives : GivesKeys new_pass opened text) where
      has_keys : IsHeld (under root (seen s0)) pass opened
      has_keys = held (under root (seen s0)) pass opened is

      module _ (image : Image) (agree : AgreeIn (apart_from work) (view_of image) (edited (seen s0) (file_edit at text))) where
        elsewhere : (rest : Path) → below at (root ++ rest) ≡ None → view_of image (root ++ rest) ≡ seen s0 (root ++ rest)
        elsewhere rest none = agree (root ++ rest) (inside_root rest) ∙ edited_elsewhere (seen s0) (file_edit at text) (root ++ rest) none

        other_name : (other : Part) → other ≢ name → below at (root ++ other ∷ []) ≡ None
        other_name other apart_names = elim (begins_or_not at (root ++ other ∷ [])) as (λ _. below at (root ++ other ∷ []) ≡ None) [
          | inl k ↦ absurd (
              let same : other ∷ [] ≡ name ∷ k.0 = append-cancel root (other ∷ []) (name ∷ k.0) (k.1 ∙ append_assoc root (name ∷ []) k.0) in
              apart_names (cc same))
          | inr none ↦ none
        ]

        new_keys : HasNewKeys (under root (seen s0)) (under root (view_of image)) opened text
        new_keys = record {
          root = elsewhere [] (below-both root (name ∷ []) []);
          others = λ other apart_names. elsewhere (other ∷ []) (other_name other apart_names);
          new = agree at (inside_root (name ∷ [])) ∙ ap (grafted (seen s0) (file_edit at text) at) at_itself;
        }

        opens_new : IsVault (under root (view_of image)) new_pass opened
        opens_new = opens_anew (under root (seen s0)) (under root (view_of image)) pass new_pass opened text is new_keys gives

        others_stay : (p : Path) → IsTrue (apart_from work p) → p ≢ at → view_of image p ≡ seen s0 p
        others_stay p inside apart_paths = agree p inside ∙ (elim (begins_or_not at p) as (λ _. edited (seen s0) (file_edit at text) p ≡ seen s0 p) [
          | inl k ↦ behind k.0 k.1
          | inr none ↦ edited_elsewhere (seen s0) (file_edit at text) p none
        ])
          where
            behind : (rest : Path) → p ≡ at ++ rest → edited (seen s0) (file_edit at text) p ≡ seen s0 p
            behind [] here = absurd (apart_paths (here ∙ append-nil at))
            behind (a ∷ more) here =
                ap (edited (seen s0) (file_edit at text)) here ∙ ap (grafted (seen s0) (file_edit at text) (at ++ a ∷ more)) (below-append at (a ∷ more))
                ∙ sym (below_file s0 sound at has_keys.holds.0 has_keys.holds.1.0 a more) ∙ ap (seen s0) (sym here)

        rekeyed_new : IsRekeyed work root opened pass new_pass s0 image
        rekeyed_new = record { opens = inr opens_new; others = others_stay }

      part : IsPartOf (apart_from_both (staged_file work) root) (beside work at)
      part q inside = rw (
        apart-below (staged_file work) q (first_so (apart_from (staged_file work) q) (apart_from root q) inside),
        below_longer root (name ∷ []) q (apart-below root q (second_so (apart_from (staged_file work) q) (apart_from root q) inside)),
      ) refl

      all_else : (s : State) → IsOldOrNew (beside work at) at text s0 s → IsAsBefore (apart_from_both (staged_file work) root) s0 s
      all_else s h = record {
        tables = λ t is_table.
            let there : (u : Table) × IsTableOf s0 u × AlikeIn (beside work at) t u × _ = h.tables t is_table in
            (there.0, there.1, λ q inside. there.2 q (part q inside));
        seen = λ q inside. h.seen q (part q inside);
        nodes = h.nodes;
        made = h.made;
      }

      module _ (one : HaveOneAnswer) where
        the_one : (other : Vault) → IsVault (under root (seen s0)) pass other → opened ≡ other
        the_one other is_other = let same = one (under root (seen s0)) pass (Ok opened) (Ok other) is is_other in cc same

        rekeying : (s : State) → IsSetting work at text s0 s → IsRekeying work (staged_file work) root pass new_pass s0 s
        rekeying s h = record {
          others = all_else s h.file;
          images = λ other is_other none image is_image.
              subst (λ v. IsRekeyed work root v pass new_pass s0 image) (the_one other is_other)
              (elim (h.images none image is_image) as (λ _. IsRekeyed work root opened pass new_pass s0 image) [
                | inl agree ↦ rekeyed_old s0 opened is image agree
                | inr agree ↦ rekeyed_new image agree
              ]);
        }

        spares : (s : State) (e : Event) → SparesOld (beside work at) s0 s e.call → SparesOthers work root pass s0 s e
        spares s e h = λ other is_other. subst (λ v. SparesOld (beside work (key_path root (kind_of v))) s0 s e.call) (the_one other is_other) h

        has_rekeyed : (file : KeyFile) (fresh : Fresh) → HoldsKeys (kind_of opened) (seen s0 at) file → Rewrites file pass new_pass fresh text
            → (s : State) → IsSet work at text s0 s → HasRekeyed work root pass new_pass fresh s0 s
        has_rekeyed file fresh holds written s h = record {
          kind = kind_of opened;
          file = file;
          held = holds;
          text = text;
          written = written;
          shown = h.shown;
          settled = h.file.settled;
          nothing_pending = h.nothing_pending;
          opens = λ other is_other none image is_image. subst (λ v. IsVault (under root (view_of image)) new_pass v) (the_one other is_other) (opens_new image (h.images none image is_image));
        }

  -- ---- calls

  module _ (one : HaveOneAnswer) (kind : VaultKind) (file : KeyFile) (text : List ℕ) (t u : Option Told) (sound : (a : Told) → t ≡ Some a → IsSound a.state)
      (known : IfSeen t (Knows root pass kind file)) (gives : (opened : Vault) → UnlocksKeys file pass opened → GivesKeys new_pass opened text) where
    abbrev known_at : (a : Told) → t ≡ Some a → Knows root pass kind file (seen a.state)
    known_at a is = known (seen a.state) (seen_of t a is)

    pub set_moments : Sets work (key_path root kind) text t u → Moments (IsRekeying work (staged_file work) root pass new_pass) (SparesOthers work root pass) t u
    set_moments sets =
        from_to_more (λ a b. Went (IsSetting work (key_path root kind) text a.state) (λ s e. SparesOld (beside work (key_path root kind)) a.state s e.call) a b)
        (λ a b. Went (IsRekeying work (staged_file work) root pass new_pass a.state) (SparesOthers work root pass a.state) a b) t u
        (λ a b is went.
        let k = known_at a is in
        let new = gives k.opened k.unlocks in
        went_more (IsSetting work (key_path root kind) text a.state) (IsRekeying work (staged_file work) root pass new_pass a.state)
        (λ s e. SparesOld (beside work (key_path root kind)) a.state s e.call) (SparesOthers work root pass a.state) a b
        (λ s h. rekeying k.opened a.state (sound a is) k.is text new one s (subst (λ x. IsSetting work (key_path root x) text a.state s) k.of_kind h))
        (λ s e h. spares k.opened a.state (sound a is) k.is text new one s e (subst (λ x. SparesOld (beside work (key_path root x)) a.state s e.call) k.of_kind h)) went) sets

    pub set_done : (fresh : Fresh) → Rewrites file pass new_pass fresh text → HasSet work (key_path root kind) text t u → FromTo (λ a b. HasRekeyed work root pass new_pass fresh a.state b.state) t u
    set_done fresh written set =
        from_to_more (λ a b. IsSet work (key_path root kind) text a.state b.state) (λ a b. HasRekeyed work root pass new_pass fresh a.state b.state) t u
        (λ a b is h.
        let k = known_at a is in
        has_rekeyed k.opened a.state (sound a is) k.is text (gives k.opened k.unlocks) one file fresh k.holds written b.state
        (subst (λ x. IsSet work (key_path root x) text a.state b.state) k.of_kind h)) set
