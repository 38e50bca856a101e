-- A new vault stands alone at its root, and is one with no item of the demonstration.
use Rattle.std.proofs.Common.{◌≡◌, ◌≢◌, ◌∙◌, ◌∷◌, ◌++◌, [], ℕ, zero, suc, Bool, not, Contains, Option, Some, None, Ok, Err, Result, OnOk, IsTrue, arith, refl, sym, ap, subst, inl, inr, codes, append_assoc, append-nil, is_some}
use Rattle.std.proofs.Math.Path.{fun_ext}
use Rattle.folder_spec.specs.Edit.{HasSettledIn, edited}
use Rattle.folder_spec.specs.Event.{FromTo, Told}
use Rattle.folder_spec.specs.Path.{Path, below}
use Rattle.folder_spec.specs.Region.{at_or_below}
use Rattle.folder_spec.specs.Seen.{IfSeen, IsSeen, seen, under}
use Rattle.folder_spec.specs.declared.Spot.TheVariants.{FileNode, Nothing}
use Rattle.folder_spec.specs.State.{IsSound, State, Table, IsTableOf, present}
use Rattle.folder_spec.specs.View.{AgreeIn, NoEntry, Shows, ShowsAmong, View, found}
use Rattle.folder_spec.proofs.Edits.{at_edit, nothing_below_file, settled_alone}
use Rattle.folder_spec.proofs.Paths.{begins_or_not, below-append, below-apart}
use Rattle.folder_spec.proofs.Seen.{none_seen}
use Rattle.folder_spec.proofs.Tables.{present_is_table}
use Rattle.folder_spec.proofs.Tellings.{from_to_more, from_to_then}
use Rattle.plain_tree.specs.Names as plain
use Rattle.item_making.specs.declared.fault.PutFault.{PutFault}
use Rattle.vault_read.specs.Laws.{HaveOneAnswer}
use Rattle.vault_spec.specs.Opened.{OpenedVault}
use Rattle.vault_read.specs.Opened.{kind_of}
use Rattle.vault_read.specs.declared.vault.VaultKind.{VaultKind}
use Rattle.vault_read.specs.declared.vault.VaultKind.TheVariants as kind
use Rattle.vault_spec.specs.Alike.{HasFolders}
use Rattle.vault_spec.specs.Empty.{IsEmptyVault}
use Rattle.vault_spec.specs.Opens.{NoItem, tree}
use Rattle.vault_spec.specs.Tidy.{IsTidy}
use Rattle.vault_spec.specs.Vault.{Loaded, IsVault, Vault, format_of}
use Rattle.vault_write.specs.Founding.{IsNewVault, vault_edit}
use Rattle.item_making.specs.Making.{is_inside, is_staged, is_unstaged}
use Rattle.work_folder.specs.Entries.{stage_path}
use Rattle.item_making.specs.Trees.{ShowsVault}
use Rattle.demo_core.specs.Making.{HoldsAlone, HoldsInOrder, HoldsItems, StandsNew, phrase}
use Rattle.demo_core.specs.Tree.{HasItems}
use Rattle.demo_core.proofs.Entered.{empty_orderly}

-- ---- regions

pub off_stage : (work q : Path) → below work q ≡ None → below (stage_path work) q ≡ None
off_stage work q none = elim (begins_or_not (stage_path work) q) [
  | inl deep ↦ absurd (clash (sym none ∙ ap (below work) (deep.1 ∙ append_assoc work (codes "stage" ∷ []) deep.0) ∙ below-append work (codes "stage" ∷ deep.0)))
  | inr off ↦ off
]
  where
    clash : {x : Path} → None ≡ Some x → ⊥
    clash e = cc e

-- what is at a root beside the work folder, or below it, isn't at the stage
root_off_stage : (work root q : Path) → below work root ≡ None → below root work ≡ None → IsTrue (at_or_below root q) → below (stage_path work) q ≡ None
root_off_stage work root q one other inside = elim (begins_or_not root q) [
  | inl there ↦ off_stage work q (ap (below work) there.1 ∙ below-apart work root there.0 one other)
  | inr none ↦ absurd (cc (none, inside))
]

pub root_unstaged : (work root q : Path) → below work root ≡ None → below root work ≡ None → IsTrue (at_or_below root q) → IsTrue (is_unstaged work q)
root_unstaged work root q one other inside = ap (λ o. not (is_inside o)) (root_off_stage work root q one other inside)

pub not_staged : (work root q : Path) → below work root ≡ None → below root work ≡ None → IsTrue (at_or_below root q) → ¬ IsTrue (is_staged work q)
not_staged work root q one other inside staged = cc (root_unstaged work root q one other inside, staged)

at_root : (root rest : Path) → IsTrue (at_or_below root (root ++ rest))
at_root root rest = ap is_some (below-append root rest)

same_under : (root : Path) (v w : View) → AgreeIn (at_or_below root) v w → under root v ≡ under root w
same_under root v w agree = fun_ext (λ rest. agree (root ++ rest) (at_root root rest))

-- ---- a view that is shown alone

only_shown : (region : Path → Bool) (s : State) (v : View) → ShowsAmong region s (v ∷ []) → (t : Table) → IsTableOf s t → Shows region s t v
only_shown region s v alone t is =
    let there : (w : View) × Contains (v ∷ []) w × Shows region s t w = alone t is in
    subst (Shows region s t) (the_one there.0 there.1) there.2
  where
    the_one : (w : View) → Contains (v ∷ []) w → w ≡ v
    the_one w (zero, lt, at) = sym at
    the_one w (suc k, lt, at) = absurd (omega (arith, lt))

pub seen_alone : (root : Path) (s : State) (v : View) → ShowsAmong (at_or_below root) s (v ∷ []) → under root (seen s) ≡ under root v
seen_alone root s v alone = same_under root (seen s) v (only_shown (at_or_below root) s v alone (present s) (present_is_table s)).agrees

folders_seen : (root : Path) (s : State) → IsSound s → HasFolders (under root (seen s))
folders_seen root s sound p a there =
    ap (found (λ n. (s.nodes n).now)) ((sound.tables (present s) (present_is_table s)).parents (root ++ p) a
    (λ none. there (ap (seen s) (sym (append_assoc root p (a ∷ []))) ∙ ap (found (λ n. (s.nodes n).now)) none)))

-- ---- a new vault

nothing_there : (root : Path) (s : State) → IsSound s → seen s root ≡ NoEntry → (rest : Path) → present s (root ++ rest) ≡ Nothing
nothing_there root s sound free [] = ap (present s) (append-nil root) ∙ none_seen (λ n. (s.nodes n).now) (present s root) free
nothing_there root s sound free (a ∷ rest) =
    nothing_below_file s.made (present s) (sound.tables (present s) (present_is_table s)) root a rest (λ folder. cc (folder, none_seen (λ n. (s.nodes n).now) (present s root) free))

-- nothing is seen below where nothing is
pub nothing_seen : (s : State) → IsSound s → (q rest : Path) → seen s q ≡ NoEntry → seen s (q ++ rest) ≡ NoEntry
nothing_seen s sound q rest free = ap (found (λ n. (s.nodes n).now)) (nothing_there q s sound free rest)

shown_free : (root : Path) (s : State) → IsSound s → seen s root ≡ NoEntry → Shows (at_or_below root) s (present s) (seen s)
shown_free root s sound free = record {
  agrees = λ q inside. refl;
  clean = λ q n inside file. elim (begins_or_not root q) [
    | inl there ↦ absurd (clash (sym (ap (present s) there.1 ∙ nothing_there root s sound free there.0) ∙ file))
    | inr none ↦ absurd (cc (none, inside))
  ];
}
  where
    clash : {n : ℕ} → Nothing ≡ FileNode n → ⊥
    clash e = cc e

stands : (kind : VaultKind) (work at : Path) (made : View) (vault : Vault) (a b : Told) → below work at ≡ None → below at work ≡ None → IsSound a.state → IsSound b.state → seen a.state at ≡ NoEntry
    → kind_of vault ≡ kind → IsNewVault made phrase vault → HasSettledIn (is_unstaged work) (vault_edit at made ∷ []) a.state b.state → StandsNew kind at b.state
stands kind work at made vault a b one other sound sound_then free is new settled =
    let view : View = edited (seen a.state) (vault_edit at made) in
    let under_it : under at view ≡ made = fun_ext (λ rest. at_edit (seen a.state) (vault_edit at made) (at ++ rest) rest refl) in
    let there : IsNewVault (under at view) phrase vault = subst (λ u. IsNewVault u phrase vault) (sym under_it) new in
    let alone = settled_alone (is_unstaged work) (vault_edit at made ∷ []) a.state b.state settled (at_or_below at) (seen a.state) (λ q inside. root_unstaged work at q one other inside) (shown_free at a.state sound free) in
    record {
      view = view;
      alone = alone;
      vault = vault;
      new = there;
      good = record {
        clean = there.empty.clean;
        orderly = empty_orderly (format_of vault) (under at view) there.empty phrase vault there.opens (subst HasFolders (seen_alone at b.state view alone) (folders_seen at b.state sound_then));
      };
      is = is;
    }

pub stands_by : (kind : VaultKind) (work at : Path) (made : View) (vault : Vault) (t u : Option Told) (result : Result (Unit {0}) PutFault) → below work at ≡ None → below at work ≡ None
    → ((a : Told) → t ≡ Some a → IsSound a.state) → ((b : Told) → u ≡ Some b → IsSound b.state) → IfSeen t (λ v. v at ≡ NoEntry) → kind_of vault ≡ kind → OnOk result (IsNewVault made phrase vault)
    → OnOk result (FromTo (λ a b. HasSettledIn (is_unstaged work) (vault_edit at made ∷ []) a.state b.state) t u) → OnOk result (FromTo (λ a b. StandsNew kind at b.state) t u)
stands_by kind work at made vault t u (Err fault) one other sound sound_then free is new settled = tt
stands_by kind work at made vault t u (Ok done) one other sound sound_then free is new settled =
    let Settled : Told → Told → Type 0 = λ a b. HasSettledIn (is_unstaged work) (vault_edit at made ∷ []) a.state b.state in
    from_to_more (λ a b. Settled a b × IsSound b.state) (λ a b. StandsNew kind at b.state) t u
    (λ a b told here. stands kind work at made vault a b one other (sound a told) here.1 (free (seen a.state) (seen_of t a told)) is new here.0)
    (from_to_then Settled (λ b. IsSound b.state) t u sound_then settled)
  where
    seen_of : (t : Option Told) (a : Told) → t ≡ Some a → IsSeen t (seen a.state)
    seen_of t a told = subst (λ x. IsSeen x (seen a.state)) (sym told) refl

-- ---- it is opened

abbrev opened_as : Vault → Loaded
opened_as vault = Ok vault

one_vault : (a b : Vault) → opened_as a ≡ opened_as b → a ≡ b
one_vault a b e = cc e

-- the passphrase opens one vault
pub same_vault : HaveOneAnswer → (v : View) (a b : Vault) → IsVault v phrase a → IsVault v phrase b → a ≡ b
same_vault one v a b first second = one_vault a b (one v phrase (opened_as a) (opened_as b) first second)

-- which is the new one where that stands
new_vault : HaveOneAnswer → (kind : VaultKind) (root : Path) (vault : Vault) (s : State) → IsVault (under root (seen s)) phrase vault → (new : StandsNew kind root s) → new.vault ≡ vault
new_vault one kind root vault s opens new =
    same_vault one (under root new.view) new.vault vault new.new.opens (subst (λ u. IsVault u phrase vault) (seen_alone root s new.view new.alone) opens)

pub new_kind : HaveOneAnswer → (kind : VaultKind) (root : Path) (vault : Vault) (s : State) → IsVault (under root (seen s)) phrase vault → StandsNew kind root s → kind_of vault ≡ kind
new_kind one kind root vault s opens new = subst (λ x. kind_of x ≡ kind) (new_vault one kind root vault s opens new) new.is

no_items : (seed : ℕ) (vault : Vault) (v : View) → IsEmptyVault (format_of vault) v → HasItems seed 0 (tree (format_of vault) v)
no_items seed vault v empty = record {
  each = λ number less. absurd (omega (arith, less));
  others = λ path some none. nothing path some;
}
  where
    nothing : (path : plain.Path) → path ≢ [] → tree (format_of vault) v path ≡ NoItem
    nothing [] some = absurd (some refl)
    nothing (name ∷ rest) some = empty.others name rest

pub holds_new : HaveOneAnswer → (vault : OpenedVault) (kind : VaultKind) (seed : ℕ) (s : State) → IsVault (under vault.root (seen s)) phrase vault.vault → StandsNew kind vault.root s → HoldsAlone vault seed 0 s
holds_new one vault kind seed s opens stands =
    let is : stands.vault ≡ vault.vault = new_vault one kind vault.root vault.vault s opens stands in
    record {
      view = stands.view;
      alone = stands.alone;
      good = subst (λ x. ShowsVault (format_of x) vault.root stands.view) is stands.good;
      tidy = subst (λ x. IsTidy (format_of x) (under vault.root stands.view)) is stands.new.tidy;
      opens = subst (λ u. IsVault u phrase vault.vault) (seen_alone vault.root s stands.view stands.alone) opens;
      items = no_items seed vault.vault (under vault.root stands.view) (subst (λ x. IsEmptyVault (format_of x) (under vault.root stands.view)) is stands.new.empty);
    }

-- what is known of the vault once it has its items
pub holds_in_order : (vault : OpenedVault) (root : Path) (seed count : ℕ) (t u : Option Told) → vault.root ≡ root → ((a : Told) → t ≡ Some a → kind_of vault.vault ≡ kind.Gocryptfs × HoldsAlone vault seed 0 a.state)
    → FromTo (λ a b. HoldsAlone vault seed 0 a.state → HoldsAlone vault seed count b.state) t u → (b : Told) → u ≡ Some b → HoldsInOrder kind.Gocryptfs root seed count b.state
holds_in_order vault root seed count (Some a) (Some b) at first adds b' told =
    record { vault = vault; at = at; is = (first a refl).0; holds = subst (λ x. HoldsAlone vault seed count x.state) (let same : b ≡ b' = cc told in same) (adds (first a refl).1) }
holds_in_order vault root seed count None None at first adds b told = cc told
holds_in_order vault root seed count (Some a) None at first adds b told = absurd adds
holds_in_order vault root seed count None (Some b') at first adds b told = absurd adds

-- by what is seen
pub holds_seen : (kind : VaultKind) (root : Path) (seed count : ℕ) (u : Option Told) → ((b : Told) → u ≡ Some b → HoldsInOrder kind root seed count b.state) → IfSeen u (λ v. HoldsItems kind root seed count v)
holds_seen kind root seed count (Some b) order v is =
    let it = order b refl in
    let same : under root v ≡ under it.vault.root it.holds.view =
    ap (λ w. under root w) is ∙ ap (λ r. under r (seen b.state)) (sym it.at) ∙ seen_alone it.vault.root b.state it.holds.view it.holds.alone in
    record {
      vault = it.vault.vault;
      is = it.is;
      opens = subst (λ u. IsVault u phrase it.vault.vault) (sym same) it.holds.opens;
      items = subst (λ u. HasItems seed count (tree (format_of it.vault.vault) u)) (sym same) it.holds.items;
    }
holds_seen kind root seed count None order v is = absurd is
