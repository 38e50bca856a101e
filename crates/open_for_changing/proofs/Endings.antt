-- A command that makes something beside a work folder, and where it doesn't come to that.
use Rattle.std.proofs.Common.{◌≡◌, ◌⊎◌, Bool, true, false, [], Option, inl, sym, subst, IsTrue}
use Rattle.std.specs.Io.KnownBytes.{Keeps}
use Rattle.std.proofs.KnownBytes.{Keeps-refl}
use Rattle.folder_spec.specs.Path.{Path}
use Rattle.folder_spec.specs.Event.{Told}
use Rattle.folder_spec.specs.Seen.{IfSeen}
use Rattle.folder_spec.specs.View.{View}
use Rattle.port_model.specs.Draws.{Draws}
use Rattle.vault_spec.specs.Vault.{Either}
use Rattle.open_for_reading.proofs.Overlaps.{by_test, none_drawn, refuses_overlap}
use Rattle.open_for_reading.specs.Places.{RefusesOverlap, overlap}
use Rattle.open_for_reading.specs.Refusing.{Unless}
use Rattle.open_for_reading.specs.World.{World}
use Rattle.open_for_changing.specs.Beginning.{ChangesWork, EndsBefore, MakesApart, MakesBeside}
use Rattle.open_for_changing.specs.Staying.{Leaves}
use Rattle.open_for_changing.proofs.Beginnings.{went_alone}
use Rattle.command_answers.specs.declared.answer.Answer.{Answer}
use Rattle.command_answers.specs.declared.answer.Answer.TheVariants.{OutOfMemory, Overlap}

pub ends_before : (is_own : Answer → Bool) (work : Path) (answer : Answer) (before after : World) → IsTrue (is_own answer) → ChangesWork work before.told after.told → Draws before.random after.random []
    → Keeps before.left after.left → EndsBefore is_own work answer before after
ends_before is_own work answer before after own begins undrawn untouched =
    record { own = own; moments = went_alone work before.told after.told begins; undrawn = undrawn; untouched = untouched }

module _ (is_own : Answer → Bool) (vault work : Path) (Tests : View → Type 0) (Makes : Type 0) where
  -- of folders that don't overlap
  pub made_beside : (answer : Answer) (before after : World) → overlap vault work ≡ false → Keeps before.taken after.taken → MakesApart is_own work Tests Makes answer before after
      → MakesBeside is_own vault work Tests Makes answer before after
  made_beside answer before after apart unwritten made = record {
    apart = subst (λ b. Either b (RefusesOverlap vault work answer before after) (MakesApart is_own work Tests Makes answer before after)) (sym apart) made;
    unwritten = unwritten;
  }

  -- it ended before that
  pub ended_before : (answer : Answer) (w : World) (told : Option Told) → (overlap vault work ≡ true → ((answer ≡ Overlap vault work) ⊎ (answer ≡ OutOfMemory)) × (told ≡ w.told))
      → (overlap vault work ≡ false → IfSeen w.told (λ v. Unless answer (Tests v))) → (overlap vault work ≡ false → IsTrue (is_own answer)) → ChangesWork work w.told told → Leaves work w.told told
      → MakesBeside is_own vault work Tests Makes answer w (record w { told = told })
  ended_before answer w told overlapping refuses own begins leaves = record {
    apart = by_test (overlap vault work) _ _ (λ is. refuses_overlap vault work answer w told (overlapping is).0 (overlapping is).1)
        (λ apart. record { cause = refuses apart; leaves = leaves; comes = inl (ends_before is_own work answer w (record w { told = told }) (own apart) begins (none_drawn w.random) (Keeps-refl w.left)) });
    unwritten = Keeps-refl w.taken;
  }
