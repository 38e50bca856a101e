-- Folders that overlap.
use Rattle.std.proofs.Common.{◌≡◌, Bool, true, false, [], Option, Some, None, refl}
use Rattle.std.specs.Prelude.{◌⊎◌, ◌||◌, is_some}
use Rattle.std.proofs.KnownBytes.{Keeps-refl}
use Rattle.folder_spec.specs.Event.{Told}
use Rattle.folder_spec.specs.Apart.{AreApart}
use Rattle.folder_spec.specs.Path.{Path, below}
use Rattle.port_model.specs.Draws.{ByteStream, Draws}
use Rattle.vault_spec.specs.Vault.{Either}
use Rattle.open_for_reading.specs.Places.{RefusesOverlap, overlap}
use Rattle.open_for_reading.specs.World.{World}
use Rattle.command_answers.specs.declared.answer.Answer.{Answer}
use Rattle.command_answers.specs.declared.answer.Answer.TheVariants.{OutOfMemory, Overlap}

-- one follows where a test holds, the other where it doesn't
pub by_test : (b : Bool) (P Q : Type 0) → (b ≡ true → P) → (b ≡ false → Q) → Either b P Q
by_test true P Q p q = p refl
by_test false P Q p q = q refl

none_of_both : (x y : Option Path) → (is_some x || is_some y) ≡ false → (x ≡ None) × (y ≡ None)
none_of_both None None is = (refl, refl)
none_of_both None (Some y) is = cc
none_of_both (Some x) y is = cc

-- folders that don't overlap are apart
pub apart_by : (one other : Path) → overlap one other ≡ false → AreApart one other
apart_by one other is = let none : (below one other ≡ None) × (below other one ≡ None) = none_of_both (below one other) (below other one) is in record { one = none.0; other = none.1 }

pub none_drawn : (stream : Option ByteStream) → Draws stream stream []
none_drawn None = tt
none_drawn (Some s) = λ place. refl

pub refuses_overlap : (one other : Path) (answer : Answer) (w : World) (told : Option Told) → (answer ≡ Overlap one other) ⊎ (answer ≡ OutOfMemory) → told ≡ w.told
    → RefusesOverlap one other answer w (record w { told = told })
refuses_overlap one other answer w told answers same =
    record { answers = answers; unchanged = same; untouched = Keeps-refl w.left; unwritten = Keeps-refl w.taken; undrawn = none_drawn w.random }
