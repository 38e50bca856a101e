-- Tables by their steps.
use Rattle.std.proofs.Common.{◌≡◌, ◌≢◌, ℕ, suc, ◌+◌, ◌-◌, ◌<◌, ◌≤◌, ◌⊎◌, List, [], ◌∷◌, ◌++◌, length, take, drop, Option, Some, None, slice_index_or, refl, sym, ap, ◌∙◌, subst, inl, inr, append_assoc, arith, Contains, map, string_bytes, String, Global}
use Rattle.std.proofs.lemmas.List.{length-map}
use Rattle.std.specs.Option.{option_map}
use Rattle.folder_spec.specs.declared.Spot.{Spot}
use Rattle.folder_spec.specs.declared.Spot.TheVariants.{Nothing, Directory, FileNode, Odd}
use Rattle.folder_spec.specs.Path.{Part, Path, below, child}
use Rattle.folder_spec.specs.State.{Table, IsAmong, moved, last_of}
use Rattle.folder_spec.proofs.Paths.{begins_or_not, child_begins, not_below, below_is}
use Rattle.folder_spec.proofs.Tables.{put-other, moved-new, moved-old, moved-other}
use Rattle.folder_model.specs.declared.mem.step.Step.{Step}
use Rattle.folder_model.specs.declared.mem.step.Step.TheVariants.{Put, Move}
use Rattle.folder_model.specs.Steps.{step_table, replay, tables_after, KeepsEntries}

pub replay-take-suc : (t : Table) (steps : List Step) (n : ℕ) (d : Step) → n < length steps
    → replay t (take (suc n) steps) ≡ step_table (replay t (take n steps)) (slice_index_or steps n d)
replay-take-suc t [] n d h = absurd (omega (arith, h))
replay-take-suc t (s ∷ steps) ℕ.zero d h = refl
replay-take-suc t (s ∷ steps) (suc n) d h = replay-take-suc (step_table t s) steps n d (omega (arith, h))

-- the last step before `left` is looked through
pub looked_before : (base : Table) (steps : List Step) (left : ℕ) (p : Path) (step : Step) → 0 < left → left ≤ length steps → step ≡ slice_index_or steps (left - 1) step
    → replay base (take left steps) p ≡ step_table (replay base (take (left - 1) steps)) step p
looked_before base steps left p step some fits is =
    let e : left ≡ suc (left - 1) = omega (arith, some) in
    ap (λ n. replay base (take n steps) p) e
    ∙ ap (λ t. t p) (replay-take-suc base steps (left - 1) step (omega (arith, some, fits)))
    ∙ ap (λ s. step_table (replay base (take (left - 1) steps)) s p) (sym is)

pub none_left : (base : Table) (steps : List Step) (left : ℕ) (p : Path) → left ≤ 0 → replay base (take left steps) p ≡ base p
none_left base steps left p none = let e : left ≡ 0 = omega (arith, none) in ap (λ n. replay base (take n steps) p) e

-- the step that is next
pub next_step : (steps : List Step) (n : ℕ) (s : Step) → n < length steps → s ≡ slice_index_or steps n s → drop n steps ≡ s ∷ drop (n + 1) steps
next_step steps n s fits is = at steps n s fits is ∙ ap (λ k. s ∷ drop k steps) (suc_is n)
  where
    suc_is : (n : ℕ) → suc n ≡ n + 1
    suc_is n = omega arith

    at : (steps : List Step) (n : ℕ) (s : Step) → n < length steps → s ≡ slice_index_or steps n s → drop n steps ≡ s ∷ drop (suc n) steps
    at [] n s fits is = absurd (omega (arith, fits))
    at (x ∷ steps) ℕ.zero s fits is = ap (λ y. y ∷ steps) (sym is)
    at (x ∷ steps) (suc n) s fits is = at steps n s (omega (arith, fits)) is

-- it is done to the table
pub step_done : (t u : Table) (steps rest : List Step) (s : Step) → steps ≡ s ∷ rest → u ≡ step_table t s
    → (replay u rest ≡ replay t steps) × ((v : Table) → IsAmong v (u ∷ tables_after u rest) → IsAmong v (t ∷ tables_after t steps))
step_done t u steps rest s e done =
    subst (λ ss. (replay u rest ≡ replay t ss) × ((v : Table) → IsAmong v (u ∷ tables_after u rest) → IsAmong v (t ∷ tables_after t ss))) (sym e)
    (subst (λ w. (replay w rest ≡ replay t (s ∷ rest)) × ((v : Table) → IsAmong v (w ∷ tables_after w rest) → IsAmong v (t ∷ tables_after t (s ∷ rest)))) (sym done)
    (refl, λ v among. inr among))

pub put_keeps : (p : Path) (x : Spot) (at : Path) → KeepsEntries (Put p x) at at
put_keeps p x at t a apart stands none = stands (put-other t p x (child at a) apart ∙ none)

pub move_keeps : (old new at before : Path) → Some before ≡ option_map (λ rest. old ++ rest) (below new at) → KeepsEntries (Move old new) at before
move_keeps old new at before e t a apart stands none = by_rest (below new at) refl e
  where
    by_rest : (o : Option Path) → below new at ≡ o → Some before ≡ option_map (λ rest. old ++ rest) o → ⊥
    by_rest None is e = cc
    by_rest (Some rest) is e =
        let there : before ≡ old ++ rest = some-injective before (old ++ rest) e in
        let whole : child at a ≡ new ++ child rest a = ap (λ q. child q a) (below_is new at rest is) ∙ append_assoc new rest (a ∷ []) in
        stands (ap (moved t old new) whole ∙ moved-new t old new (child rest a) ∙ ap t (sym (append_assoc old rest (a ∷ [])) ∙ ap (λ q. child q a) (sym there)) ∙ none)
      where
        some-injective : (x y : Path) → Some x ≡ Some y → x ≡ y
        some-injective x y e = cc

pub move_keeps_here : (old new at : Path) → None ≡ option_map (λ rest. old ++ rest) (below new at) → KeepsEntries (Move old new) at at
move_keeps_here old new at e t a apart stands none = elim (begins_or_not new (child at a)) as (λ _. ⊥) [
  | inl k ↦ elim (child_begins new at a k.0 k.1) as (λ _. ⊥) [
    | inl is_new ↦ apart (sym is_new)
    | inr up ↦ not_below new up.0 (subst (λ p. below new p ≡ None) up.1 none_new)
  ]
  | inr not_new ↦ elim (begins_or_not old (child at a)) as (λ _. ⊥) [
    | inl k ↦ stands (ap (moved t old new) k.1 ∙ moved-old t old new k.0 (subst (λ p. below new p ≡ None) k.1 not_new))
    | inr not_old ↦ stands (moved-other t old new (child at a) not_new not_old ∙ none)
  ]
]
  where
    none_of : (o : Option Path) → None ≡ option_map (λ rest. old ++ rest) o → o ≡ None
    none_of None e = refl
    none_of (Some rest) e = cc

    none_new : below new at ≡ None
    none_new = none_of (below new at) e

pub last_of-tables : (t : Table) (steps : List Step) → last_of t (tables_after t steps) ≡ replay t steps
last_of-tables t [] = refl
last_of-tables t (s ∷ steps) = last_of-tables (step_table t s) steps

pub replay-append : (t : Table) (xs ys : List Step) → replay t (xs ++ ys) ≡ replay (replay t xs) ys
replay-append t [] ys = refl
replay-append t (x ∷ xs) ys = replay-append (step_table t x) xs ys

pub tables_after-push : (t : Table) (steps : List Step) (s : Step) → tables_after t (steps ++ s ∷ []) ≡ tables_after t steps ++ step_table (replay t steps) s ∷ []
tables_after-push t [] s = refl
tables_after-push t (x ∷ steps) s = ap (λ ts. step_table t x ∷ ts) (tables_after-push (step_table t x) steps s)

pub stands_or_not : (x : Spot) → (x ≡ Nothing) ⊎ (x ≢ Nothing)
stands_or_not Nothing = inl refl
stands_or_not Directory = inr (λ e. cc)
stands_or_not (FileNode n) = inr (λ e. cc)
stands_or_not Odd = inr (λ e. cc)

-- what holds of each name holds of each that is among them
pub of_named : (P : Part → Type 0) (xs : List (String Global)) (a : Part) → ((k : ℕ) (d : String Global) → k < length xs → P (string_bytes (slice_index_or xs k d)))
    → Contains (map (λ s. string_bytes s) xs) a → P a
of_named P xs a each among =
    let fits : among.0 < length xs = subst (λ n. among.0 < n) (length-map xs (λ s. string_bytes s)) among.1 in
    let there : (d : String Global) × (slice_index_or (map (λ s. string_bytes s) xs) among.0 a ≡ string_bytes (slice_index_or xs among.0 d)) = name_at xs among.0 fits in
    subst P (sym there.1 ∙ among.2) (each among.0 there.0 fits)
  where
    name_at : (xs : List (String Global)) (k : ℕ) → k < length xs → (d : String Global) × (slice_index_or (map (λ s. string_bytes s) xs) k a ≡ string_bytes (slice_index_or xs k d))
    name_at [] k h = absurd (omega (arith, h))
    name_at (x ∷ xs) ℕ.zero h = (x, refl)
    name_at (x ∷ xs) (suc k) h = name_at xs k (omega (arith, h))

pub any_default : {X : Type 0} (xs : List X) (n : ℕ) (a b : X) → n < length xs → slice_index_or xs n a ≡ slice_index_or xs n b
any_default [] n a b h = absurd (omega (arith, h))
any_default (x ∷ xs) ℕ.zero a b h = refl
any_default (x ∷ xs) (suc n) a b h = any_default xs n a b (omega (arith, h))
