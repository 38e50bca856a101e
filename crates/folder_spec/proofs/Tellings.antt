-- Calls of a folder, one after the other, whether or not it tells its state.
use Rattle.std.proofs.Common.{◌≡◌, Option, Some, None, IfSome, refl, sym, subst}
use Rattle.folder_spec.specs.Event.{Told, FromTo}

-- more is known
pub from_to_more : (R R' : Told → Told → Type 0) (t u : Option Told) → ((a b : Told) → t ≡ Some a → R a b → R' a b) → FromTo R t u → FromTo R' t u
from_to_more R R' None None more h = tt
from_to_more R R' (Some a) (Some b) more h = more a b refl h
from_to_more R R' None (Some b) more h = absurd h
from_to_more R R' (Some a) None more h = absurd h

-- one after the other
pub from_to_on : (R S T : Told → Told → Type 0) (t u v : Option Told) → ((a b c : Told) → R a b → S b c → T a c) → FromTo R t u → FromTo S u v → FromTo T t v
from_to_on R S T None None None on h k = tt
from_to_on R S T (Some a) (Some b) (Some c) on h k = on a b c h k
from_to_on R S T None (Some b) v on h k = absurd h
from_to_on R S T (Some a) None v on h k = absurd h
from_to_on R S T None None (Some c) on h k = absurd k
from_to_on R S T (Some a) (Some b) None on h k = absurd k

-- both are known
pub from_to_both : (R S : Told → Told → Type 0) (t u : Option Told) → FromTo R t u → FromTo S t u → FromTo (λ a b. R a b × S a b) t u
from_to_both R S None None h k = tt
from_to_both R S (Some a) (Some b) h k = (h, k)
from_to_both R S None (Some b) h k = absurd h
from_to_both R S (Some a) None h k = absurd h

-- a call that leaves alone what is told
pub from_to_same : (R : Told → Told → Type 0) (t u : Option Told) → u ≡ t → ((a : Told) → R a a) → FromTo R t u
from_to_same R t u same each = subst (FromTo R t) (sym same) (at t)
  where
    at : (t : Option Told) → FromTo R t t
    at None = tt
    at (Some a) = each a

-- what holds of what is told
pub at_told : (X : Told → Type 0) (t : Option Told) → IfSome t X → (a : Told) → t ≡ Some a → X a
at_told X (Some b) h a is = let same : b ≡ a = cc is in subst X same h
at_told X None h a is = cc is

-- what holds of all that is told holds before and after
pub from_to_known : (R : Told → Told → Type 0) (X : Told → Type 0) (t u : Option Told) → ((a : Told) → t ≡ Some a → X a) → ((a : Told) → u ≡ Some a → X a)
    → FromTo R t u → FromTo (λ a b. R a b × X a × X b) t u
from_to_known R X None None before after h = tt
from_to_known R X (Some a) (Some b) before after h = (h, before a refl, after b refl)
from_to_known R X None (Some b) before after h = absurd h
from_to_known R X (Some a) None before after h = absurd h

-- what holds of all that is told holds afterwards
pub from_to_then : (R : Told → Told → Type 0) (X : Told → Type 0) (t u : Option Told) → ((a : Told) → u ≡ Some a → X a) → FromTo R t u → FromTo (λ a b. R a b × X b) t u
from_to_then R X None None after h = tt
from_to_then R X (Some a) (Some b) after h = (h, after b refl)
from_to_then R X None (Some b) after h = absurd h
from_to_then R X (Some a) None after h = absurd h
