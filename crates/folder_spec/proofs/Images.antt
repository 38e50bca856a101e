-- What a crash leaves, and what it leaves of an image.
use Rattle.std.proofs.Common.{◌≡◌, ℕ, ◌⊎◌, true, false, List, [], refl, sym, ◌∙◌, subst, inl, inr, append-nil, nat_eq, cond, eqb-true}
use Rattle.folder_spec.specs.Path.{Path}
use Rattle.folder_spec.specs.State.{Spot, Nothing, Directory, FileNode, Odd, Table, Node, State, present, IsTableOf, BeginsWith, IsSoundTable, IsSound, HasNothingPending}
use Rattle.folder_spec.specs.Event.{Settle, Sync, changed, with_file, synced}
use Rattle.folder_spec.specs.Image.{Image, IsLeftOf, IsImage, state_of, seen_now}
use Rattle.folder_spec.proofs.Tables.{present_is_table}

-- the folder as a read now sees it is an image
pub seen_now_is_image : (s : State) → IsSound s → IsImage s (seen_now s)
seen_now_is_image s sound = record {
  table = present_is_table s;
  bytes = λ n. record { begins = sound.nodes n; whole = λ _. refl };
  made = refl;
}

-- an image taken as a state has nothing pending
pub image_has_nothing_pending : (image : Image) → HasNothingPending (state_of image)
image_has_nothing_pending image = record { clean = λ n. refl; settled = refl }

pub image_is_sound : (s : State) (image : Image) → IsSound s → IsImage s image → IsSound (state_of image)
image_is_sound s image sound is_image = record {
  tables = λ t is_table.
      let its : IsSoundTable image.made image.table = subst (λ made. IsSoundTable made image.table) (sym is_image.made) (sound.tables image.table is_image.table) in
      subst (IsSoundTable image.made) (sym (only image.table t is_table)) its;
  nodes = λ n. ([], sym (append-nil (image.bytes n)));
}
  where
    only : (u t : Table) → (t ≡ u) ⊎ ⊥ → t ≡ u
    only u t h = elim h [ inl e ↦ e | inr none ↦ absurd none ]

-- an image is an image of itself
pub image_of_itself : (image : Image) → IsImage (state_of image) image
image_of_itself image = record {
  table = inl refl;
  bytes = λ n. record { begins = ([], sym (append-nil (image.bytes n))); whole = λ _. refl };
  made = refl;
}

-- and it has no other: what a crash leaves of what a crash left has the same table and the same bytes
pub image_of_image : (image again : Image) → IsImage (state_of image) again → (again.table ≡ image.table) × ((n : ℕ) → again.bytes n ≡ image.bytes n)
image_of_image image again h = (
  (elim h.table as (λ _. again.table ≡ image.table) [ inl e ↦ e | inr none ↦ absurd none ]),
  λ n. (h.bytes n).whole refl,
)

-- so a second crash leaves what the first might have left
pub image_again : (s : State) (image again : Image) → IsImage s image → IsImage (state_of image) again → IsImage s again
image_again s image again first second =
    let same : (again.table ≡ image.table) × ((n : ℕ) → again.bytes n ≡ image.bytes n) = image_of_image image again second in
    record {
      table = subst (IsTableOf s) (sym same.0) first.table;
      bytes = λ n. subst (IsLeftOf (s.nodes n)) (sym (same.1 n)) (first.bytes n);
      made = second.made ∙ first.made;
    }

-- after a settle a crash leaves less
pub settle_narrows : (s : State) (image : Image) → IsImage (changed s Settle) image → IsImage s image
settle_narrows s image h = record {
  table = elim h.table as (λ _. IsTableOf s image.table) [
    | inl e ↦ subst (IsTableOf s) (sym e) (present_is_table s)
    | inr none ↦ absurd none
  ];
  bytes = h.bytes;
  made = h.made;
}

-- what a crash may leave of a node once it is synced, it might have left before
pub synced_leaves_less : (node : Node) (bytes : List ℕ) → BeginsWith node.now node.kept → IsLeftOf (synced node) bytes → IsLeftOf node bytes
synced_leaves_less node bytes begins h = record {
  begins = (begins.0, h.whole refl ∙ begins.1);
  whole = λ _. h.whole refl;
}

-- after a sync a crash leaves less
pub sync_narrows : (s : State) (p : Path) (image : Image) → IsSound s → IsImage (changed s (Sync p)) image → IsImage s image
sync_narrows s p image sound h = narrows (present s p) h
  where
    narrows : (x : Spot) → IsImage (with_file s x synced) image → IsImage s image
    narrows Nothing h = h
    narrows Directory h = h
    narrows Odd h = h
    narrows (FileNode n) h = record {
      table = h.table;
      bytes = λ k. elim (nat_eq n k) as (λ b. nat_eq n k ≡ b → IsLeftOf (cond b (synced (s.nodes n)) (s.nodes k)) (image.bytes k) → IsLeftOf (s.nodes k) (image.bytes k)) [
        | true ↦ λ e left.
            let one : n ≡ k = eqb-true n k e in
            synced_leaves_less (s.nodes k) (image.bytes k) (sound.nodes k) (subst (λ m. IsLeftOf (synced (s.nodes m)) (image.bytes k)) one left)
        | false ↦ λ e left. left
      ] refl (h.bytes k);
      made = h.made;
    }
