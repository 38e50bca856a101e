-- A file that is written elsewhere, synced, and renamed onto its place.
use Rattle.std.proofs.Common.{◌≡◌, ◌≢◌, ℕ, ◌⊎◌, Bool, true, List, [], ◌∷◌, Option, Some, None, refl, sym, ap, ◌∙◌, subst, inl, inr, append-nil, IsTrue}
use Rattle.std.specs.Prelude.{is_none}
use Rattle.std.specs.Cmp.{first_so, second_so}
use Rattle.folder_spec.specs.Path.{Path, below}
use Rattle.folder_spec.specs.State.{Spot, FileNode, Table, Node, State, last_of, present, moved, IsAmong, IsTableOf, IsClean, IsSoundTable, IsSound}
use Rattle.folder_spec.specs.Event.{Settle, Rename, changed}
use Rattle.folder_spec.specs.Image.{Image, IsImage}
use Rattle.folder_spec.specs.View.{FileOf, found, view_of}
use Rattle.folder_spec.specs.Region.{AlikeIn, IsAsBefore, apart_from, apart_from_both}
use Rattle.folder_spec.specs.Replace.{IsNewFile, IsOldOrNew, IsReplaced, ShowsOldOrNew, IsCleanAt}
use Rattle.folder_spec.proofs.Paths.{below-append}
use Rattle.folder_spec.proofs.Tables.{moved-new, moved-other, present_is_table, among-push, last_of-push}
use Rattle.folder_spec.proofs.Regions.{image_before, image_before_is, image_before_shows}

pub apart-below : (w q : Path) → IsTrue (apart_from w q) → below w q ≡ None
apart-below w q h = none (below w q) h
  where
    none : (o : Option Path) → is_none o ≡ true → o ≡ None
    none None h = refl
    none (Some rest) h = cc

pub apart-not_same : (w q : Path) → IsTrue (apart_from w q) → w ≢ q
apart-not_same w q h e =
    let here : below w w ≡ Some [] = ap (below w) (sym (append-nil w)) ∙ below-append w [] in
    let none : below w w ≡ None = ap (below w) e ∙ apart-below w q h in
    cc

pub apart-from_below : (w q : Path) → below w q ≡ None → IsTrue (apart_from w q)
apart-from_below w q none = ap is_none none

module _ (staged at : Path) (bytes : List ℕ) (s0 s : State) (apart : below staged at ≡ None) (as_was : IsAsBefore (apart_from staged) s0 s) where
  alike_within : (t u : Table) → AlikeIn (apart_from staged) t u → AlikeIn (apart_from_both staged at) t u
  alike_within t u alike q inside = alike q (first_so (apart_from staged q) (apart_from at q) inside)

  abbrev Old : (t : Table) → Type 0
  Old t = (u : Table) × IsTableOf s0 u × AlikeIn (apart_from_both staged at) t u × (t at ≡ u at)

  old_table : (t : Table) → IsTableOf s t → Old t
  old_table t is_table =
      let there : (u : Table) × IsTableOf s0 u × AlikeIn (apart_from staged) t u = as_was.tables t is_table in
      (there.0, there.1, alike_within t there.0 there.2, there.2 at (apart-from_below staged at apart))

  -- while the file is written elsewhere
  pub old_or_new_so_far : IsOldOrNew (apart_from_both staged at) at bytes s0 s
  old_or_new_so_far = record {
    tables = λ t is_table. let there : Old t = old_table t is_table in (there.0, there.1, there.2, inl there.3);
    seen = alike_within (present s) (present s0) as_was.seen;
    nodes = as_was.nodes;
    made = as_was.made;
  }

  moved_alike : AlikeIn (apart_from_both staged at) (moved (present s) staged at) (present s)
  moved_alike q inside =
      moved-other (present s) staged at q (apart-below at q (second_so (apart_from staged q) (apart_from at q) inside))
      (apart-below staged q (first_so (apart_from staged q) (apart_from at q) inside))

  moved_at : moved (present s) staged at at ≡ present s staged
  moved_at =
      ap (moved (present s) staged at) (sym (append-nil at)) ∙ moved-new (present s) staged at [] ∙ ap (present s) (append-nil staged)

  -- once it is renamed
  module _ (new : IsNewFile bytes s0 s (present s staged)) where
    moved_new : IsNewFile bytes s0 (changed s (Rename staged at)) (moved (present s) staged at at)
    moved_new = record { number = new.number; is = moved_at ∙ new.is; new = new.new; holds = new.holds }

    abbrev Either : (t : Table) → Type 0
    Either t = (u : Table) × IsTableOf s0 u × AlikeIn (apart_from_both staged at) t u
        × ((t at ≡ u at) ⊎ IsNewFile bytes s0 (changed s (Rename staged at)) (t at))

    older : (t : Table) → IsTableOf s t → Either t
    older t is_table = let there : Old t = old_table t is_table in (there.0, there.1, there.2, inl there.3)

    newest : (t : Table) → t ≡ moved (present s) staged at → Either t
    newest t e =
        let there : Old (present s) = old_table (present s) (present_is_table s) in (
          there.0,
          there.1,
          λ q inside. ap (λ w. w q) e ∙ moved_alike q inside ∙ there.2 q inside,
          inr (subst (λ w. IsNewFile bytes s0 (changed s (Rename staged at)) (w at)) (sym e) moved_new),
        )

    pub old_or_new_renamed : IsOldOrNew (apart_from_both staged at) at bytes s0 (changed s (Rename staged at))
    old_or_new_renamed = record {
      tables = λ t is_table. elim is_table as (λ _. Either t) [
        | inl e ↦ older t (inl e)
        | inr more ↦ elim (among-push t (moved (present s) staged at) s.later more) as (λ _. Either t) [
          | inl old ↦ older t (inr old)
          | inr e ↦ newest t e
        ]
      ];
      seen = λ q inside.
          ap (λ w. w q) (last_of-push s.kept s.later (moved (present s) staged at)) ∙ moved_alike q inside
          ∙ alike_within (present s) (present s0) as_was.seen q inside;
      nodes = as_was.nodes;
      made = as_was.made;
    }

    pub new_renamed : IsNewFile bytes s0 (changed s (Rename staged at)) (present (changed s (Rename staged at)) at)
    new_renamed =
        subst (λ w. IsNewFile bytes s0 (changed s (Rename staged at)) (w at))
        (sym (last_of-push s.kept s.later (moved (present s) staged at))) moved_new

-- once it is settled
pub replaced_by_settle : (region : Path → Bool) (at : Path) (bytes : List ℕ) (s0 s : State) → IsOldOrNew region at bytes s0 s → IsNewFile bytes s0 s (present s at)
    → IsReplaced region at bytes s0 (changed s Settle)
replaced_by_settle region at bytes s0 s change new = record {
  change = record {
    tables = λ t is_table. elim is_table as (λ _. (u : Table) × IsTableOf s0 u × AlikeIn region t u × ((t at ≡ u at) ⊎ IsNewFile bytes s0 (changed s Settle) (t at))) [
      | inl e ↦
          let there : (u : Table) × IsTableOf s0 u × AlikeIn region (present s) u × ((present s at ≡ u at) ⊎ IsNewFile bytes s0 s (present s at)) =
          change.tables (present s) (present_is_table s) in (
            there.0,
            there.1,
            λ q inside. ap (λ w. w q) e ∙ there.2 q inside,
            inr (subst (λ w. IsNewFile bytes s0 (changed s Settle) (w at)) (sym e) (record { number = new.number; is = new.is; new = new.new; holds = new.holds })),
          )
      | inr none ↦ absurd none
    ];
    seen = change.seen;
    nodes = change.nodes;
    made = change.made;
  };
  settled = refl;
  new = record { number = new.number; is = new.is; new = new.new; holds = new.holds };
}

-- what an image shows of the new file
new_file_shown : (bytes : List ℕ) (s0 s : State) (image : Image) (spot : Spot) → IsNewFile bytes s0 s spot → IsImage s image → found image.bytes spot ≡ FileOf bytes
new_file_shown bytes s0 s image spot new is_image =
    ap (found image.bytes) new.is
    ∙ ap FileOf ((is_image.bytes new.number).whole (ap (λ (node : Node). node.now) new.holds ∙ sym (ap (λ (node : Node). node.kept) new.holds))
    ∙ ap (λ (node : Node). node.now) new.holds)

-- a crash leaves the old file or the new one
pub images_show_old_or_new : (region : Path → Bool) (at : Path) (bytes : List ℕ) (s0 s : State) (image : Image) → IsSound s0 → IsOldOrNew region at bytes s0 s → IsImage s image
    → ShowsOldOrNew region at bytes s0 image
images_show_old_or_new region at bytes s0 s image sound change is_image =
    let there : (u : Table) × IsTableOf s0 u × AlikeIn region image.table u × ((image.table at ≡ u at) ⊎ IsNewFile bytes s0 s (image.table at)) =
    change.tables image.table is_image.table in
    let sound_table : IsSoundTable s0.made there.0 = sound.tables there.0 there.1 in
    record {
      old = image_before s0 there.0 image.bytes;
      is_old = image_before_is s0 s there.0 image sound there.1 change.nodes is_image;
      alike = λ q inside. image_before_shows s0 there.0 image q sound_table (there.2 q inside);
      file = elim there.3 as (λ _. (view_of image at ≡ view_of (image_before s0 there.0 image.bytes) at) ⊎ (view_of image at ≡ FileOf bytes)) [
        | inl same ↦ inl (image_before_shows s0 there.0 image at sound_table same)
        | inr new ↦ inr (new_file_shown bytes s0 s image (image.table at) new is_image)
      ];
    }

-- after all that it leaves the new one
pub images_show_new : (region : Path → Bool) (at : Path) (bytes : List ℕ) (s0 s : State) (image : Image) → IsReplaced region at bytes s0 s → IsImage s image
    → view_of image at ≡ FileOf bytes
images_show_new region at bytes s0 s image h is_image =
    ap (λ w. found image.bytes (w at)) (only image.table (subst (λ us. IsAmong image.table (s.kept ∷ us)) h.settled is_image.table))
    ∙ new_file_shown bytes s0 s image (present s at) h.new is_image
  where
    only : (t : Table) → IsAmong t (s.kept ∷ []) → t ≡ present s
    only t is = elim is as (λ _. t ≡ present s) [
      | inl e ↦ e ∙ sym (ap (λ us. last_of s.kept us) h.settled)
      | inr none ↦ absurd none
    ]

-- clean files stay clean
pub clean_stays : (region : Path → Bool) (at : Path) (bytes : List ℕ) (s0 s : State) → IsSound s0 → IsCleanAt at s0 → IsOldOrNew region at bytes s0 s → IsCleanAt at s
clean_stays region at bytes s0 s sound clean change t n is_table here =
    let there : (u : Table) × IsTableOf s0 u × AlikeIn region t u × ((t at ≡ u at) ⊎ IsNewFile bytes s0 s (t at)) = change.tables t is_table in
    elim there.3 as (λ _. IsClean (s.nodes n)) [
      | inl same ↦
          let was : there.0 at ≡ FileNode n = sym same ∙ here in
          subst IsClean (sym (change.nodes n ((sound.tables there.0 there.1).is_made at n was))) (clean there.0 n there.1 was)
      | inr new ↦
          let one : new.number ≡ n = cc (new.is, here) in
          subst (λ k. IsClean (s.nodes k)) one (subst IsClean (sym new.holds) refl)
    ]
