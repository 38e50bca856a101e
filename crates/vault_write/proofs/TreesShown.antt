-- What views show an item's edits one after the other.
use Rattle.std.specs.Prelude.{Contains}
use Rattle.std.proofs.Common.{arith, ◌≡◌, ◌⊎◌, zero, suc, Bool, true, false, List, [], ◌∷◌, ◌++◌, Option, None, refl, sym, ap, ◌∙◌, inl, inr, subst, bytes_eq, if◌then◌else◌, IsTrue, is_none, not}
use Rattle.folder_spec.specs.Path.{Path, below}
use Rattle.folder_spec.specs.State.{State, Table, IsTableOf, present, last_of, IsAmong}
use Rattle.folder_spec.specs.Edit.{Edit, edited, edit_under, edits_under, grafted, views_after, view_after, IsPartOf, PublishesIn, HasSettledIn}
use Rattle.folder_spec.specs.Region.{apart_from, at_or_below}
use Rattle.folder_spec.specs.Seen.{seen, under}
use Rattle.folder_spec.specs.View.{View, AgreeIn, Shows, ShowsAmong}
use Rattle.plain_tree.specs.Names as plain
use Rattle.vault_spec.specs.Adding.{OpensAs, OpensWith, ComesAlone, StaysClean}
use Rattle.vault_spec.specs.Alike.{IsOrderly}
use Rattle.vault_spec.specs.Findings.{IsClean}
use Rattle.vault_spec.specs.Format.{Format}
use Rattle.vault_spec.specs.Opens.{Opened}
use Rattle.item_making.specs.Ending.{Ending, Whole}
use Rattle.item_making.specs.Making.{Placing, format, path_of, is_staged, is_unstaged}
use Rattle.item_making.specs.Placing.{HasVault, ShowsOne, ShowsOldOrNewTree, ShowsNewTree}
use Rattle.vault_spec.specs.Staying.{LoadsAlike, StaysVault}
use Rattle.vault_write.specs.Showing.{MakeItem, MakeItemAt, MakesAlone}
use Rattle.item_making.specs.Trees.{KeepsTree, GainsItem, opens_as}

-- edits below a root are edits of what it shows
abbrev pub RootsShowEdits : Type 0
RootsShowEdits = (root : Path) (v : View) (edits : List Edit) → under root (view_after v (edits_under root edits)) ≡ view_after (under root v) edits

first_or_later : {X : Type 0} → (y : X) (ys : List X) (x : X) → Contains (y ∷ ys) x → (x ≡ y) ⊎ Contains ys x
first_or_later y ys x (zero, lt, at) = inl (sym at)
first_or_later y ys x (suc k, lt, at) = inr (k, omega (arith, lt), at)

below_by : (b : Bool) (x : Option Path) → (IsTrue (is_none (if b then x else None)) → (y : Option Path) → (IsTrue (is_none x) → y ≡ None) → (if b then y else None) ≡ None)
below_by true x none y next = next none
below_by false x none y next = refl

-- what isn't below a root isn't below a path behind it
below_behind : (root at q : Path) → IsTrue (is_none (below root q)) → below (root ++ at) q ≡ None
below_behind [] at q none = cc none
below_behind (a ∷ root) at [] none = refl
below_behind (a ∷ root) at (b ∷ q) none = below_by (bytes_eq a b) (below root q) none (below (root ++ at) q) (below_behind root at q)

-- an edit below a root leaves all else
elsewhere : (root : Path) (w : View) (e : Edit) → AgreeIn (apart_from root) (edited w (edit_under root e)) w
elsewhere root w e q apart = ap (grafted w (edit_under root e) q) (below_behind root e.at q apart)

edited_under : (root : Path) → RootsShowEdits → (w : View) (e : Edit) → edited (under root w) e ≡ under root (edited w (edit_under root e))
edited_under root shows w e = sym (shows root w (e ∷ []))

kept : (f : Format) (root : Path) (v y : View) (x : View) → x ≡ under root y → AgreeIn (apart_from root) y v → OpensAs f (under root v) x → IsClean f x → IsOrderly f x → LoadsAlike (under root v) x → KeepsTree f root v y
kept f root v y x same others opens clean orderly loads = record {
  vault = record {
    elsewhere = others;
    loads = subst (LoadsAlike (under root v)) same loads;
    good = record { clean = subst (IsClean f) same clean; orderly = subst (IsOrderly f) same orderly };
  };
  opens = subst (OpensAs f (under root v)) same opens;
}

gained : (f : Format) (root : Path) (path : plain.Path) (item : Opened) (v y : View) (x : View) → x ≡ under root y → AgreeIn (apart_from root) y v → OpensWith f (under root v) x path item → IsClean f x → IsOrderly f x → LoadsAlike (under root v) x
    → GainsItem f root path item v y
gained f root path item v y x same others opens clean orderly loads = record {
  vault = record {
    elsewhere = others;
    loads = subst (LoadsAlike (under root v)) same loads;
    good = record { clean = subst (IsClean f) same clean; orderly = subst (IsOrderly f) same orderly };
  };
  opens = subst (λ z. OpensWith f (under root v) z path item) same opens;
}

abbrev pub OldOrNew : Format → Path → plain.Path → Opened → Ending → View → View → Type 0
OldOrNew f root path item ending v x = KeepsTree f root v x ⊎ ((ending ≡ Whole) × GainsItem f root path item v x)

-- each view after an edit, before a last one, shows the old tree
before_last : (f : Format) (root : Path) (path : plain.Path) (item : Opened) (v w : View) (edits : List Edit) (last : Edit) → RootsShowEdits → AgreeIn (apart_from root) w v
    → ComesAlone f (under root v) (under root w) (edits ++ last ∷ []) path item → StaysClean f (under root w) (edits ++ last ∷ []) → StaysVault f (under root v) (under root w) (edits ++ last ∷ [])
    → (x : View) → Contains (views_after w (edits_under root edits)) x → KeepsTree f root v x
before_last f root path item v w [] last shows others alone clean vault x among = absurd (omega (arith, among.1))
before_last f root path item v w (e ∷ []) last shows others alone clean vault x among =
    elim (first_or_later (edited w (edit_under root e)) [] x among) [
      | inl is ↦ subst (KeepsTree f root v) (sym is) (kept f root v (edited w (edit_under root e)) (edited (under root w) e) (edited_under root shows w e)
          (λ q apart. elsewhere root w e q apart ∙ others q apart) alone.0 clean.0 vault.0.0 vault.0.1)
      | inr none ↦ absurd (omega (arith, none.1))
    ]
before_last f root path item v w (e ∷ next ∷ edits) last shows others alone clean vault x among =
    let y : View = edited w (edit_under root e) in
    let same : edited (under root w) e ≡ under root y = edited_under root shows w e in
    let others_ : AgreeIn (apart_from root) y v = λ q apart. elsewhere root w e q apart ∙ others q apart in
    elim (first_or_later y (views_after y (edits_under root (next ∷ edits))) x among) [
      | inl is ↦ subst (KeepsTree f root v) (sym is) (kept f root v y (edited (under root w) e) same others_ alone.0 clean.0 vault.0.0 vault.0.1)
      | inr later ↦ before_last f root path item v y (next ∷ edits) last shows others_
          (subst (λ z. ComesAlone f (under root v) z (next ∷ (edits ++ last ∷ [])) path item) same alone.1)
          (subst (λ z. StaysClean f z (next ∷ (edits ++ last ∷ []))) same clean.1)
          (subst (λ z. StaysVault f (under root v) z (next ∷ (edits ++ last ∷ []))) same vault.1) x later
    ]

-- each view after an edit shows the old tree or the new one
during : (f : Format) (root : Path) (path : plain.Path) (item : Opened) (v w : View) (edits : List Edit) → RootsShowEdits → AgreeIn (apart_from root) w v
    → ComesAlone f (under root v) (under root w) edits path item → StaysClean f (under root w) edits → StaysVault f (under root v) (under root w) edits
    → (x : View) → Contains (views_after w (edits_under root edits)) x → OldOrNew f root path item Whole v x
during f root path item v w [] shows others alone clean vault x among = absurd alone
during f root path item v w (e ∷ []) shows others alone clean vault x among =
    elim (first_or_later (edited w (edit_under root e)) [] x among) [
      | inl is ↦ subst (OldOrNew f root path item Whole v) (sym is)
          (inr (
            refl,
            gained f root path item v (edited w (edit_under root e)) (edited (under root w) e) (edited_under root shows w e)
                (λ q apart. elsewhere root w e q apart ∙ others q apart) alone clean.0 vault.0.0 vault.0.1,
          ))
      | inr none ↦ absurd (omega (arith, none.1))
    ]
during f root path item v w (e ∷ next ∷ edits) shows others alone clean vault x among =
    let y : View = edited w (edit_under root e) in
    let same : edited (under root w) e ≡ under root y = edited_under root shows w e in
    let others_ : AgreeIn (apart_from root) y v = λ q apart. elsewhere root w e q apart ∙ others q apart in
    elim (first_or_later y (views_after y (edits_under root (next ∷ edits))) x among) [
      | inl is ↦ subst (OldOrNew f root path item Whole v) (sym is)
          (inl (kept f root v y (edited (under root w) e) same others_ alone.0 clean.0 vault.0.0 vault.0.1))
      | inr later ↦ during f root path item v y (next ∷ edits) shows others_
          (subst (λ z. ComesAlone f (under root v) z (next ∷ edits) path item) same alone.1)
          (subst (λ z. StaysClean f z (next ∷ edits)) same clean.1)
          (subst (λ z. StaysVault f (under root v) z (next ∷ edits)) same vault.1) x later
    ]

-- the view after all edits shows the new one
after_all : (f : Format) (root : Path) (path : plain.Path) (item : Opened) (v w : View) (edits : List Edit) → RootsShowEdits → AgreeIn (apart_from root) w v
    → ComesAlone f (under root v) (under root w) edits path item → StaysClean f (under root w) edits → StaysVault f (under root v) (under root w) edits
    → GainsItem f root path item v (view_after w (edits_under root edits))
after_all f root path item v w [] shows others alone clean vault = absurd alone
after_all f root path item v w (e ∷ []) shows others alone clean vault =
    gained f root path item v (edited w (edit_under root e)) (edited (under root w) e) (edited_under root shows w e)
    (λ q apart. elsewhere root w e q apart ∙ others q apart) alone clean.0 vault.0.0 vault.0.1
after_all f root path item v w (e ∷ next ∷ edits) shows others alone clean vault =
    let y : View = edited w (edit_under root e) in
    let same : edited (under root w) e ≡ under root y = edited_under root shows w e in
    after_all f root path item v y (next ∷ edits) shows (λ q apart. elsewhere root w e q apart ∙ others q apart)
    (subst (λ z. ComesAlone f (under root v) z (next ∷ edits) path item) same alone.1)
    (subst (λ z. StaysClean f z (next ∷ edits)) same clean.1)
    (subst (λ z. StaysVault f (under root v) z (next ∷ edits)) same vault.1)

-- ---- at a state

last_is : (t : Table) (us : List Table) → IsAmong (last_of t us) (t ∷ us)
last_is t [] = inl refl
last_is t (u ∷ us) = inr (last_is u us)

abbrev pub RootsAreAlike : Type 0
RootsAreAlike = (root : Path) (v w : View) → AgreeIn (at_or_below root) v w → under root v ≡ under root w

-- one view alone is what is seen
seen_shown : (region : Path → Bool) (s : State) (v : View) → ShowsAmong region s (v ∷ []) → Shows region s (present s) v
seen_shown region s v alone =
    let there : (w : View) × Contains (v ∷ []) w × Shows region s (present s) w = alone (present s) (last_is s.kept s.later) in
    elim (first_or_later v [] there.0 there.1) [
      | inl is ↦ subst (Shows region s (present s)) is there.2
      | inr none ↦ absurd (omega (arith, none.1))
    ]

-- the vault as it is seen is the one that is shown
seen_vault : RootsAreAlike → (p : Placing) (region : Path → Bool) (s : State) (v : View) → ShowsOne p region s v → under p.vault.root (seen s) ≡ under p.vault.root v
seen_vault alike p region s v one = alike p.vault.root (seen s) v (λ q in_vault. (seen_shown region s v one.alone).agrees q (one.has.vault q in_vault))

made_item : RootsAreAlike → (p : Placing) (item : Opened) (edits : List Edit) (region : Path → Bool) (s : State) (v : View) → ShowsOne p region s v → MakesAlone p item edits s
    → MakeItem (format p) (under p.vault.root v) (path_of p) item edits
made_item alike p item edits region s v one at =
    let same : under p.vault.root (seen s) ≡ under p.vault.root v = seen_vault alike p region s v one in
    subst (λ u. MakeItem (format p) u (path_of p) item edits) same
    (at (record { clean = subst (IsClean (format p)) (sym same) one.good.clean; orderly = subst (IsOrderly (format p)) (sym same) one.good.orderly }))

outside : (p : Placing) (region : Path → Bool) → HasVault p region → IsPartOf region (is_unstaged p.work)
outside p region has q in_region = not_staged (is_staged p.work q) (has.unstaged q in_region)
  where
    not_staged : (b : Bool) → ¬ IsTrue b → IsTrue (not b)
    not_staged true none = absurd (none refl)
    not_staged false none = refl

-- the tree as it was is the old one
same_tree : (p : Placing) (region : Path → Bool) (s : State) (v : View) → ShowsOne p region s v → KeepsTree (format p) p.vault.root v v
same_tree p region s v one = record { vault = record { elsewhere = λ q apart. refl; loads = λ pass vault loads. loads; good = one.good }; opens = λ path. refl }

-- each table shows what was seen at first or after one of the edits that are published
shown_after : RootsAreAlike → (p : Placing) (edits : List Edit) (s0 s : State) → PublishesIn (is_unstaged p.work) (edits_under p.vault.root edits) s0 s
    → (region : Path → Bool) (v : View) → ShowsOne p region s0 v → (t : Table) → IsTableOf s t
    → (w : View) × Shows region s t w × ((w ≡ v) ⊎ Contains (views_after v (edits_under p.vault.root edits)) w)
shown_after alike p edits s0 s publishes region v one t is_table =
    let there : (w : View) × Contains (v ∷ views_after v (edits_under p.vault.root edits)) w × Shows region s t w =
    publishes region (v ∷ []) v (outside p region one.has) one.alone (seen_shown region s0 v one.alone) t is_table in
    (there.0, there.2, first_or_later v (views_after v (edits_under p.vault.root edits)) there.0 there.1)

pub old_or_new : RootsShowEdits → RootsAreAlike → (p : Placing) (edits : List Edit) (s0 s : State) → MakeItemAt p edits s0
    → PublishesIn (is_unstaged p.work) (edits_under p.vault.root edits) s0 s → ShowsOldOrNewTree p Whole s0 s
old_or_new shows alike p edits s0 s at publishes region v one t is_table =
    let made : MakeItem (format p) (under p.vault.root v) (path_of p) (opens_as p.item) edits = made_item alike p (opens_as p.item) edits region s0 v one at in
    let there : (w : View) × Shows region s t w × ((w ≡ v) ⊎ Contains (views_after v (edits_under p.vault.root edits)) w) = shown_after alike p edits s0 s publishes region v one t is_table in (
      there.0,
      there.1,
      elim there.2 [
        | inl is ↦ subst (OldOrNew (format p) p.vault.root (path_of p) (opens_as p.item) Whole v) (sym is) (inl (same_tree p region s0 v one))
        | inr later ↦ during (format p) p.vault.root (path_of p) (opens_as p.item) v v edits shows (λ q apart. refl) made.alone made.clean made.vault there.0 later
      ],
    )

pub old_before_last : RootsShowEdits → RootsAreAlike → (p : Placing) (ending : Ending) (item : Opened) (edits : List Edit) (last : Edit) (s0 s : State) → MakesAlone p item (edits ++ last ∷ []) s0
    → PublishesIn (is_unstaged p.work) (edits_under p.vault.root edits) s0 s → ShowsOldOrNewTree p ending s0 s
old_before_last shows alike p ending item edits last s0 s at publishes region v one t is_table =
    let made : MakeItem (format p) (under p.vault.root v) (path_of p) item (edits ++ last ∷ []) = made_item alike p item (edits ++ last ∷ []) region s0 v one at in
    let there : (w : View) × Shows region s t w × ((w ≡ v) ⊎ Contains (views_after v (edits_under p.vault.root edits)) w) = shown_after alike p edits s0 s publishes region v one t is_table in (
      there.0,
      there.1,
      inl (elim there.2 [
        | inl is ↦ subst (KeepsTree (format p) p.vault.root v) (sym is) (same_tree p region s0 v one)
        | inr later ↦ before_last (format p) p.vault.root (path_of p) item v v edits last shows (λ q apart. refl) made.alone made.clean made.vault there.0 later
      ]),
    )

-- where nothing was changed, the tree is the old one
pub old_alone : (p : Placing) (ending : Ending) (s : State) → ShowsOldOrNewTree p ending s s
old_alone p ending s region v one t is_table =
    let there : (w : View) × Contains (v ∷ []) w × Shows region s t w = one.alone t is_table in (
      there.0,
      there.2,
      inl (elim (first_or_later v [] there.0 there.1) [
        | inl is ↦ subst (KeepsTree (format p) p.vault.root v) (sym is) (same_tree p region s v one)
        | inr none ↦ absurd (omega (arith, none.1))
      ]),
    )

pub new_alone : RootsShowEdits → RootsAreAlike
    → ((whole : Path → Bool) (edits : List Edit) (s0 s : State) → HasSettledIn whole edits s0 s → (region : Path → Bool) (v : View) → IsPartOf region whole → Shows region s0 (present s0) v → ShowsAmong region s (view_after v edits ∷ []))
    → (p : Placing) (edits : List Edit) (s0 s : State) → MakeItemAt p edits s0
    → HasSettledIn (is_unstaged p.work) (edits_under p.vault.root edits) s0 s → ShowsNewTree p s0 s
new_alone shows alike alone p edits s0 s at settled = record {
  settled = settled.settled;
  tree = λ region v one.
      let made : MakeItem (format p) (under p.vault.root v) (path_of p) (opens_as p.item) edits = made_item alike p (opens_as p.item) edits region s0 v one at in (
        view_after v (edits_under p.vault.root edits),
        alone (is_unstaged p.work) (edits_under p.vault.root edits) s0 s settled region v (outside p region one.has) (seen_shown region s0 v one.alone),
        after_all (format p) p.vault.root (path_of p) (opens_as p.item) v v edits shows (λ q apart. refl) made.alone made.clean made.vault,
      );
}
