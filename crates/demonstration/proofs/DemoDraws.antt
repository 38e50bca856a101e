-- What the demonstration draws: part after part, and sixteen zeros in a row where a migration stops because of zeros.
use Rattle.std.proofs.Common.{◌≡◌, ◌∷◌, [], ℕ, List, Option, Result, Ok, Err, inl, inr, refl, ◌∙◌}
use Rattle.item_making.specs.declared.fault.PutFault.TheVariants as put
use Rattle.plain_tree.specs.declared.name_map.NameMap.TheVariants.{Same}
use Rattle.demo_core.specs.Drawing.{Drew, HasZeroRun}
use Rattle.demo_core.proofs.Drawn.{Compose, drew_for, drew_nothing, drew_then, run_before, run_behind, run_refused}
use Rattle.folder_spec.specs.Event.{Told}
use Rattle.folder_spec.specs.Path.{Path}
use Rattle.folder_spec.specs.Seen.{IsSeen}
use Rattle.folder_spec.specs.View.{View}
use Rattle.folder_spec.proofs.Paths.{child_of_parent}
use Rattle.migrate_core.specs.Written.{MadeItem, MayWriteTree, WasAnswered, WereAnswered, slices}
use Rattle.migrate_core.specs.declared.fault.MoveFault.{MoveFault}
use Rattle.migrate_core.specs.declared.fault.MoveFault.TheVariants.{Place}
use Rattle.migrate_core.specs.declared.placing.Done.{Done}
use Rattle.port_model.specs.Draws.{ByteStream, Draws}
use Rattle.vault_spec.specs.Opened.{OpenedVault}
use Rattle.vault_spec.specs.Plan.{Planned}

-- ---- one part after the other

-- where zeros are among what is drawn later, they are among all
pub drew_after : Compose → (s t u : Option ByteStream) → Drew ⊥ s t → Drew (Unit {0}) t u → Drew (Unit {0}) s u
drew_after compose s t u one other = drew_then compose (Unit {0}) ⊥ (Unit {0}) s t u (λ _. inr tt) one other

pub drew_both : Compose → (s t u : Option ByteStream) → Drew ⊥ s t → Drew ⊥ t u → Drew ⊥ s u
drew_both compose s t u one other = drew_then compose ⊥ ⊥ ⊥ s t u (λ no. absurd no) one other

-- nothing is said of zeros
pub drew_some : (X : Type 0) (s t : Option ByteStream) → Drew X s t → Drew ⊥ s t
drew_some X s t drew = drew_for ⊥ X s t (λ no. absurd no) drew

pub drew_none : ((stream : Option ByteStream) → Draws stream stream []) → (s : Option ByteStream) → Drew ⊥ s s
drew_none none s = drew_nothing none ⊥ s s refl (λ no. no)

-- ---- a migration

-- the last item's slice has them
module _ (from to : OpenedVault) (t t' : Option Told) (v : View) where
  last_zeros : (planned : Planned) (x : MadeItem) → WasAnswered from to t t' v planned x (Err put.ZeroRandom) → HasZeroRun x.drawn
  last_zeros planned x was = by x.path refl
    where
      by : (path : Path) → x.path ≡ path → HasZeroRun x.drawn
      by [] root = let never = was.root root (λ same. cc same) in cc never
      by (name ∷ rest) is =
          let last = child_of_parent (name ∷ rest) (λ none. cc none) in
          run_refused _ x.drawn (was.named _ last.0 (is ∙ last.1)).1

  made_zeros : (items : List Planned) (made : List MadeItem) → WereAnswered from to t t' v items made (Err (Place put.ZeroRandom)) → HasZeroRun (slices made)
  made_zeros [] [] none = absurd none
  made_zeros [] (x ∷ made) none = absurd none
  made_zeros (item ∷ items) [] none = absurd none
  made_zeros (item ∷ []) (x ∷ []) was = run_before x.drawn [] (last_zeros item x was)
  made_zeros (item ∷ []) (x ∷ y ∷ made) none = absurd none
  made_zeros (item ∷ next ∷ items) (x ∷ made) were = run_behind x.drawn (slices made) (made_zeros (next ∷ items) made were.1)

-- whatever it comes to, it draws some
pub moving_drew : (result : Result Done MoveFault) (from to work : Path) (pass pass' : List ℕ) (s s' : Option ByteStream) (t t' : Option Told) → MayWriteTree result Same from to work pass pass' s s' t t' → Drew ⊥ s s'
moving_drew result from to work pass pass' s s' t t' (inl none) = record { drawn = []; were_drawn = none.undrawn; run = λ no. absurd no }
moving_drew (Ok done) from to work pass pass' s s' t t' (inr some) = record { drawn = slices some.writes.writes.made; were_drawn = some.writes.writes.writes.drawn; run = λ no. absurd no }
moving_drew (Err fault) from to work pass pass' s s' t t' (inr some) = record { drawn = slices some.writes.writes.made; were_drawn = some.writes.writes.writes.drawn; run = λ no. absurd no }

-- and zeros, where it stops because of them
pub moving_zeros : (from to work : Path) (pass pass' : List ℕ) (s s' : Option ByteStream) (t t' : Option Told) (v : View) → IsSeen t v
    → MayWriteTree {T = Done} (Err (Place put.ZeroRandom)) Same from to work pass pass' s s' t t' → Drew (Unit {0}) s s'
moving_zeros from to work pass pass' s s' t t' v seen (inl none) = absurd none.refused
moving_zeros from to work pass pass' s s' t t' v seen (inr some) = record {
  drawn = slices some.writes.writes.made;
  were_drawn = some.writes.writes.writes.drawn;
  run = λ _. made_zeros _ _ t t' v some.writes.writes.first some.writes.writes.made (some.writes.writes.writes.answered v seen);
}
