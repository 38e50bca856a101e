-- What a reader of a region finds after a crash.
use Rattle.std.proofs.Common.{◌≡◌, ◌⊎◌, Bool, List, [], ◌∷◌, arith, refl, sym, ap, ◌∙◌, subst, inl, inr}
use Rattle.folder_spec.specs.Path.{Path}
use Rattle.folder_spec.specs.State.{Spot, Nothing, Directory, FileNode, Odd, Table, State, last_of, present, IsAmong, HasNothingPending, HasNothingPendingIn}
use Rattle.folder_spec.specs.Image.{Image, IsImage, state_of}
use Rattle.folder_spec.specs.View.{View, found, view_of, AgreeIn, Shows, ShowsAmong}
use Rattle.folder_spec.specs.Seen.{seen}
use Rattle.std.specs.Prelude.{Contains}

-- an image shows what its table shows, where the files there are clean
pub image_shows : (region : Path → Bool) (s : State) (image : Image) (v : View) → IsImage s image → Shows region s image.table v → AgreeIn region (view_of image) v
image_shows region s image v is_image shows p inside = same (image.table p) refl ∙ shows.agrees p inside
  where
    same : (x : Spot) → image.table p ≡ x → found image.bytes x ≡ found (λ n. (s.nodes n).now) x
    same Nothing e = refl
    same Directory e = refl
    same Odd e = refl
    same (FileNode n) e = ap (λ bytes. found (λ _. bytes) (FileNode n)) ((is_image.bytes n).whole (shows.clean p n inside e))

-- so each image shows one of the views that the tables show
pub image_among : (region : Path → Bool) (s : State) (image : Image) (views : List View) → ShowsAmong region s views → IsImage s image
    → (v : View) × Contains views v × AgreeIn region (view_of image) v
image_among region s image views shown is_image =
    let there : (v : View) × Contains views v × Shows region s image.table v = shown image.table is_image.table in
    (there.0, there.1, image_shows region s image there.0 is_image there.2)

-- and, taken as a state, that one alone
pub image_alone : (region : Path → Bool) (s : State) (image : Image) (views : List View) → ShowsAmong region s views → IsImage s image
    → (v : View) × Contains views v × ShowsAmong region (state_of image) (v ∷ [])
image_alone region s image views shown is_image =
    let there : (v : View) × Contains views v × AgreeIn region (view_of image) v = image_among region s image views shown is_image in (
      there.0,
      there.1,
      λ t is_table. (
        there.0,
        (0, omega arith, refl),
        subst (λ u. Shows region (state_of image) u there.0) (sym (only t is_table)) (record { agrees = there.2; clean = λ p n inside e. refl }),
      ),
    )
  where
    only : (t : Table) → (t ≡ image.table) ⊎ ⊥ → t ≡ image.table
    only t h = elim h [ inl e ↦ e | inr none ↦ absurd none ]

-- where nothing is pending, what is seen is shown alone
pub seen_alone : (region : Path → Bool) (s : State) → HasNothingPendingIn region s → ShowsAmong region s (seen s ∷ [])
seen_alone region s pending t is_table = (
  seen s,
  (0, omega arith, refl),
  record {
    agrees = λ p inside. ap (found (λ n. (s.nodes n).now)) (pending.agree t p is_table inside);
    clean = λ p n inside here. pending.clean p n inside (sym (pending.agree t p is_table inside) ∙ here);
  },
)

-- as it is everywhere where nothing is pending at all
pub nothing_pending_in : (region : Path → Bool) (s : State) → HasNothingPending s → HasNothingPendingIn region s
nothing_pending_in region s pending = record {
  agree = λ t p is_table inside. ap (λ u. u p) (only t (subst (λ us. IsAmong t (s.kept ∷ us)) pending.settled is_table));
  clean = λ p n inside here. pending.clean n;
}
  where
    only : (t : Table) → IsAmong t (s.kept ∷ []) → t ≡ present s
    only t is = elim is as (λ _. t ≡ present s) [
      | inl e ↦ e ∙ sym (ap (λ us. last_of s.kept us) pending.settled)
      | inr none ↦ absurd none
    ]
