-- What stands where after a change of a table, and which tables a state has.
use Rattle.std.proofs.Common.{◌≡◌, ◌≢◌, ◌⊎◌, List, [], ◌∷◌, ◌++◌, None, refl, inl, inr, ⊎_elim}
use Rattle.folder_spec.specs.Path.{Path, below}
use Rattle.folder_spec.specs.State.{Spot, Nothing, Table, State, last_of, present, IsAmong, IsTableOf, put, moved}
use Rattle.folder_spec.proofs.Paths.{path_eq-same, path_eq-apart, below-append}

pub put-same : (t : Table) (p : Path) (x : Spot) → put t p x p ≡ x
put-same t p x = rw (path_eq-same p) refl

pub put-other : (t : Table) (p : Path) (x : Spot) (q : Path) → p ≢ q → put t p x q ≡ t q
put-other t p x q apart = rw (path_eq-apart p q apart) refl

-- what stood at old and below it stands at new
pub moved-new : (t : Table) (old new rest : Path) → moved t old new (new ++ rest) ≡ t (old ++ rest)
moved-new t old new rest = rw (below-append new rest) refl

-- and no longer at old
pub moved-old : (t : Table) (old new rest : Path) → below new (old ++ rest) ≡ None → moved t old new (old ++ rest) ≡ Nothing
moved-old t old new rest not_new = rw (not_new, below-append old rest) refl

-- all else stays
pub moved-other : (t : Table) (old new q : Path) → below new q ≡ None → below old q ≡ None → moved t old new q ≡ t q
moved-other t old new q not_new not_old = rw (not_new, not_old) refl

pub present_is_table : (s : State) → IsTableOf s (present s)
present_is_table s = last_among s.kept s.later
  where
    last_among : (t : Table) (us : List Table) → IsAmong (last_of t us) (t ∷ us)
    last_among t [] = inl refl
    last_among t (u ∷ us) = inr (last_among u us)

pub last_of-push : (t : Table) (us : List Table) (u : Table) → last_of t (us ++ u ∷ []) ≡ u
last_of-push t [] u = refl
last_of-push t (v ∷ us) u = last_of-push v us u

-- a table among more is among the first ones or is the new one
pub among-push : (t u : Table) (us : List Table) → IsAmong t (us ++ u ∷ []) → IsAmong t us ⊎ (t ≡ u)
among-push t u [] h = elim h [ inl e ↦ inr e | inr no_ ↦ absurd no_ ]
among-push t u (v ∷ us) h = elim h as (λ _. IsAmong t (v ∷ us) ⊎ (t ≡ u)) [
  | inl e ↦ inl (inl e)
  | inr more ↦ ⊎_elim (λ k. inl (inr k)) (λ e. inr e) (among-push t u us more)
]

pub among-old : (t u : Table) (us : List Table) → IsAmong t us → IsAmong t (us ++ u ∷ [])
among-old t u [] h = absurd h
among-old t u (v ∷ us) h = elim h as (λ _. IsAmong t ((v ∷ us) ++ u ∷ [])) [ inl e ↦ inl e | inr more ↦ inr (among-old t u us more) ]

pub among-new : (u : Table) (us : List Table) → IsAmong u (us ++ u ∷ [])
among-new u [] = inl refl
among-new u (v ∷ us) = inr (among-new u us)
