-- What holds of a folder's states holds of what is seen there, whether or not the folder tells them.
use Rattle.std.proofs.Common.{◌≡◌, Option, Some, None, refl, sym, subst}
use Rattle.folder_spec.specs.Event.{Told, FromTo}
use Rattle.folder_spec.specs.Seen.{IfSeen, IsSeen, seen}
use Rattle.folder_spec.specs.View.{View}

pub if_seen : (Q : View → Type 0) (t : Option Told) → ((a : Told) → t ≡ Some a → Q (seen a.state)) → IfSeen t Q
if_seen Q (Some a) each v is = subst Q (sym is) (each a refl)
if_seen Q None each v is = absurd is

-- afterwards
pub seen_then : (R : Told → Told → Type 0) (Q : View → Type 0) (t u : Option Told) → ((a b : Told) → t ≡ Some a → R a b → Q (seen b.state)) → FromTo R t u → IfSeen u Q
seen_then R Q (Some a) (Some b) each h v is = subst Q (sym is) (each a b refl h)
seen_then R Q None (Some b) each h v is = absurd h
seen_then R Q t None each h v is = absurd is

-- and before
pub seen_both : (R : Told → Told → Type 0) (Q : View → View → Type 0) (t u : Option Told) → ((a b : Told) → t ≡ Some a → R a b → Q (seen a.state) (seen b.state)) → FromTo R t u
    → (v w : View) → IsSeen t v → IsSeen u w → Q v w
seen_both R Q (Some a) (Some b) each h v w is_v is_w = subst (λ x. Q x w) (sym is_v) (subst (Q (seen a.state)) (sym is_w) (each a b refl h))
seen_both R Q None (Some b) each h v w is_v is_w = absurd h
seen_both R Q t None each h v w is_v is_w = absurd is_w
