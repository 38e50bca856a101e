-- What follows from the definitions on paths.
use Rattle.std.proofs.Common.{◌≡◌, ◌≢◌, ◌⊎◌, true, false, [], ◌∷◌, ◌++◌, length, Some, None, cond, refl, sym, ap, ◌∙◌, subst, inl, inr, append_assoc, append-nil, length-append, arith, bytes_eq, Decides}
use Rattle.std.proofs.lemmas.Slice.Eq.{slice_eq-Decides, bytes_eq-Decides}
use Rattle.folder_spec.specs.Path.{Part, Path, path_eq, below, parent, child}

pub path_eq-Decides : (p q : Path) → Decides (path_eq p q) (p ≡ q)
path_eq-Decides p q = slice_eq-Decides bytes_eq-Decides p q (path_eq p q) refl

pub path_eq-same : (p : Path) → path_eq p p ≡ true
path_eq-same p = (path_eq-Decides p p).1 refl

-- two paths are one or are not
pub one_or_not : (p q : Path) → (p ≡ q) ⊎ ((p ≢ q) × (path_eq p q ≡ false))
one_or_not p q = elim (path_eq p q) as (λ t. path_eq p q ≡ t → (p ≡ q) ⊎ ((p ≢ q) × (t ≡ false))) [
  | true ↦ λ e. inl ((path_eq-Decides p q).0 e)
  | false ↦ λ e. inr ((λ same. let yes_ : path_eq p q ≡ true = (path_eq-Decides p q).1 same in cc), refl)
] refl

pub path_eq-apart : (p q : Path) → p ≢ q → path_eq p q ≡ false
path_eq-apart p q apart = elim (one_or_not p q) [ inl e ↦ absurd (apart e) | inr k ↦ k.1 ]

pub below-append : (w rest : Path) → below w (w ++ rest) ≡ Some rest
below-append [] rest = refl
below-append (a ∷ w) rest = rw ((bytes_eq-Decides a a).1 refl) (below-append w rest)

-- p begins with w where something of it comes after w
pub below_is : (w p rest : Path) → below w p ≡ Some rest → p ≡ w ++ rest
below_is [] p rest h = cc
below_is (a ∷ w) [] rest h = cc
below_is (a ∷ w) (b ∷ p) rest h =
    elim (bytes_eq a b) as (λ t. bytes_eq a b ≡ t → cond t (below w p) None ≡ Some rest → b ∷ p ≡ a ∷ (w ++ rest)) [
      | true ↦ λ e k. let heads : a ≡ b = (bytes_eq-Decides a b).0 e in let tails : p ≡ w ++ rest = below_is w p rest k in cc
      | false ↦ λ e k. cc
    ] refl h

-- p begins with w, or has nothing below it
pub begins_or_not : (w p : Path) → ((rest : Path) × (p ≡ w ++ rest)) ⊎ (below w p ≡ None)
begins_or_not w p = elim (below w p) as (λ o. below w p ≡ o → ((rest : Path) × (p ≡ w ++ rest)) ⊎ (o ≡ None)) [
  | Some rest ↦ λ e. inl (rest, below_is w p rest e)
  | None ↦ λ e. inr refl
] refl

-- nothing begins with w that has nothing below it
pub not_below : (w rest : Path) → below w (w ++ rest) ≡ None → ⊥
not_below w rest h = let some : below w (w ++ rest) ≡ Some rest = below-append w rest in cc

pub parent-child : (p : Path) (a : Part) → parent (child p a) ≡ p
parent-child [] a = refl
parent-child (b ∷ []) a = refl
parent-child (b ∷ c ∷ p) a = ap (λ q. b ∷ q) (parent-child (c ∷ p) a)

pub child-injective : (p q : Path) (a b : Part) → child p a ≡ child q b → p ≡ q
child-injective p q a b e = sym (parent-child p a) ∙ ap parent e ∙ parent-child q b

-- a path other than the base is a child of its parent
pub child_of_parent : (p : Path) → p ≢ [] → (a : Part) × (p ≡ child (parent p) a)
child_of_parent [] some = absurd (some refl)
child_of_parent (a ∷ []) some = (a, refl)
child_of_parent (a ∷ b ∷ p) some =
    let up : (c : Part) × (b ∷ p ≡ child (parent (b ∷ p)) c) = child_of_parent (b ∷ p) (λ e. cc) in (up.0, ap (λ q. a ∷ q) up.1)

-- a path is the base or some child
pub base_or_child : (p : Path) → (p ≡ []) ⊎ ((q : Path) × (a : Part) × (p ≡ child q a))
base_or_child [] = inl refl
base_or_child (b ∷ p) = let up : (a : Part) × (b ∷ p ≡ child (parent (b ∷ p)) a) = child_of_parent (b ∷ p) (λ e. cc) in inr (parent (b ∷ p), up.0, up.1)

pub child-apart : (p : Path) (a : Part) → child p a ≢ p
child-apart p a e = let longer : length (child p a) ≡ length p = ap length e in omega (arith, longer, length-append p (a ∷ []))

pub child-not_base : (p : Path) (a : Part) → child p a ≢ []
child-not_base [] a e = cc
child-not_base (b ∷ p) a e = cc

-- what has nothing below w has none above it that does
pub below-above : (w p : Path) (a : Part) → below w (child p a) ≡ None → below w p ≡ None
below-above w p a none = elim (begins_or_not w p) [
  | inl k ↦ absurd (not_below w (k.0 ++ a ∷ []) (subst (λ q. below w q ≡ None) (ap (λ q. child q a) k.1 ∙ append_assoc w k.0 (a ∷ [])) none))
  | inr none_above ↦ none_above
]

-- the last part of a path
pub child-last : (p : Path) (a b : Part) → child p a ≡ child p b → a ≡ b
child-last [] a b e = cc
child-last (c ∷ p) a b e = child-last p a b cc

-- a child of p begins with w where it is w or p does
pub child_begins : (w p : Path) (a : Part) (rest : Path) → child p a ≡ w ++ rest → (child p a ≡ w) ⊎ ((above : Path) × (p ≡ w ++ above) × (rest ≡ child above a))
child_begins w p a rest e = elim (base_or_child rest) as (λ _. (child p a ≡ w) ⊎ ((above : Path) × (p ≡ w ++ above) × (rest ≡ child above a))) [
  | inl is_w ↦ inl (e ∙ ap (λ r. w ++ r) is_w ∙ append-nil w)
  | inr k ↦
      let whole : child p a ≡ child (w ++ k.0) k.1 = e ∙ ap (λ r. w ++ r) k.2 ∙ sym (append_assoc w k.0 (k.1 ∷ [])) in
      let up : p ≡ w ++ k.0 = child-injective p (w ++ k.0) a k.1 whole in
      let parts : a ≡ k.1 = child-last p a k.1 (whole ∙ ap (λ q. child q k.1) (sym up)) in
      inr (k.0, up, k.2 ∙ ap (λ b. child k.0 b) (sym parts))
]

-- what has nothing below w has no parent that does
pub below-parent : (w p : Path) → below w p ≡ None → below w (parent p) ≡ None
below-parent w p none = elim (base_or_child p) as (λ _. below w (parent p) ≡ None) [
  | inl is_base ↦ subst (λ q. below w q ≡ None) (is_base ∙ sym (ap parent is_base)) none
  | inr k ↦
      let up : parent p ≡ k.0 = ap parent k.2 ∙ parent-child k.0 k.1 in
      subst (λ q. below w q ≡ None) (sym up) (below-above w k.0 k.1 (subst (λ q. below w q ≡ None) k.2 none))
]

pub parent-apart : (p : Path) → p ≢ [] → p ≢ parent p
parent-apart p some e = let k : (a : Part) × (p ≡ child (parent p) a) = child_of_parent p some in child-apart (parent p) k.0 (sym k.1 ∙ e)

-- neither of two entries of one directory is below the other
pub below-sibling : (p : Path) (a b : Part) → bytes_eq a b ≡ false → below (child p a) (child p b) ≡ None
below-sibling [] a b apart = rw apart refl
below-sibling (c ∷ p) a b apart = rw ((bytes_eq-Decides c c).1 refl) (below-sibling p a b apart)

-- a path twice below another one
pub below-both : (w p q : Path) → below (w ++ p) (w ++ q) ≡ below p q
below-both [] p q = refl
below-both (a ∷ w) p q = rw ((bytes_eq-Decides a a).1 refl) (below-both w p q)

pub append-cancel : (w p q : Path) → w ++ p ≡ w ++ q → p ≡ q
append-cancel w p q e = let some : Some p ≡ Some q = sym (below-append w p) ∙ ap (below w) e ∙ below-append w q in cc

-- of two paths above a third one begins the other
pub one_begins : (v w p q : Path) → v ++ p ≡ w ++ q → ((rest : Path) × (w ≡ v ++ rest)) ⊎ ((rest : Path) × (v ≡ w ++ rest))
one_begins [] w p q e = inl (w, refl)
one_begins (a ∷ v) [] p q e = inr (a ∷ v, refl)
one_begins (a ∷ v) (b ∷ w) p q e =
    let heads : a ≡ b = cc in
    elim (one_begins v w p q cc) as (λ _. ((rest : Path) × (b ∷ w ≡ (a ∷ v) ++ rest)) ⊎ ((rest : Path) × (a ∷ v ≡ (b ∷ w) ++ rest))) [
      | inl k ↦ inl (k.0, (let tails : w ≡ v ++ k.0 = k.1 in cc))
      | inr k ↦ inr (k.0, (let tails : v ≡ w ++ k.0 = k.1 in cc))
    ]

-- where neither of two paths is at or below the other, nothing below the one is below the other
pub below-apart : (v w rest : Path) → below v w ≡ None → below w v ≡ None → below v (w ++ rest) ≡ None
below-apart v w rest apart beside = elim (begins_or_not v (w ++ rest)) as (λ _. below v (w ++ rest) ≡ None) [
  | inl k ↦ elim (one_begins v w k.0 rest (sym k.1)) [
    | inl more ↦ absurd (not_below v more.0 (ap (below v) (sym more.1) ∙ apart))
    | inr more ↦ absurd (not_below w more.0 (ap (below w) (sym more.1) ∙ beside))
  ]
  | inr none ↦ none
]
