-- Paths as lists of strings.
use Rattle.std.proofs.Common.{◌≡◌, ℕ, ◌<◌, ◌≤◌, ◌-◌, zero, suc, Bool, true, false, ◌&&◌, List, [], ◌∷◌, ◌++◌, map, length, take, drop, Option, Some, None, is_some, cond, refl, sym, ap, ◌∙◌, Global, bytes_eq, arith, take-append-drop, slice_index_or, append-nil, append_assoc}
use Rattle.std.proofs.lemmas.List.{take-map, length-map, map-append}
use Rattle.std.specs.Cmp.Lexicographic.{pointwise}
use Rattle.std.specs.Rc.{rc_str_bytes}
use Rattle.std.specs.declared.rc.RcStr.{RcStr}
use Rattle.folder_spec.proofs.Paths.{path_eq-Decides, below-append}
use Rattle.folder_spec.specs.Path.{Path, path_eq, below, parent}
use Rattle.folder_model.specs.Text.{text_of}

abbrev pub path_of : List (RcStr Global) → Path
path_of parts = map (λ s. rc_str_bytes s) parts

abbrev pub same_text : RcStr Global → RcStr Global → Bool
same_text x y = bytes_eq (rc_str_bytes x) (rc_str_bytes y)

pub strings_eq : (xs ys : List (RcStr Global)) → pointwise same_text xs ys ≡ path_eq (path_of xs) (path_of ys)
strings_eq [] [] = refl
strings_eq [] (y ∷ ys) = refl
strings_eq (x ∷ xs) [] = refl
strings_eq (x ∷ xs) (y ∷ ys) = ap (λ b. bytes_eq (rc_str_bytes x) (rc_str_bytes y) && b) (strings_eq xs ys)

-- a path begins with w where its first parts are w
pub below_take : (w p : Path) → is_some (below w p) ≡ path_eq w (take (length w) p)
below_take [] p = refl
below_take (a ∷ w) [] = refl
below_take (a ∷ w) (b ∷ p) =
    elim (bytes_eq a b) as (λ t. is_some (cond t (below w p) None) ≡ (t && path_eq w (take (length w) p))) [ true ↦ below_take w p | false ↦ refl ]

-- and a shorter one does not
pub below_longer : (w p : Path) → length p < length w → is_some (below w p) ≡ false
below_longer [] p h = absurd (omega (arith, h))
below_longer (a ∷ w) [] h = refl
below_longer (a ∷ w) (b ∷ p) h =
    elim (bytes_eq a b) as (λ t. is_some (cond t (below w p) None) ≡ false) [ true ↦ below_longer w p (omega (arith, h)) | false ↦ refl ]

pub parent_take : (p : Path) → parent p ≡ take (length p - 1) p
parent_take [] = refl
parent_take (a ∷ []) = refl
parent_take (a ∷ b ∷ p) =
    ap (λ q. a ∷ q) (parent_take (b ∷ p)) ∙ ap (λ n. a ∷ take n (b ∷ p)) (sub-one-suc (length p)) ∙ ap (λ n. take n (a ∷ b ∷ p)) (sym (sub-one-suc (suc (length p))))
  where
    sub-one-suc : (n : ℕ) → suc n - 1 ≡ n
    sub-one-suc n = omega arith

-- the rest of a path that begins with these parts
pub rest_is : (path front : List (RcStr Global)) → length front ≤ length path → pointwise same_text front (take (length front) path) ≡ true
    → below (path_of front) (path_of path) ≡ Some (path_of (drop (length front) path))
rest_is path front fits same =
    let fronts : path_of front ≡ path_of (take (length front) path) =
    (path_eq-Decides (path_of front) (path_of (take (length front) path))).0 (sym (strings_eq front (take (length front) path)) ∙ same) in
    let whole : path_of path ≡ path_of front ++ path_of (drop (length front) path) =
    ap path_of (sym (take-append-drop (length front) path))
    ∙ map-append (λ s. rc_str_bytes s) (take (length front) path) (drop (length front) path)
    ∙ ap (λ p. p ++ path_of (drop (length front) path)) (sym fronts) in
    ap (below (path_of front)) whole ∙ below-append (path_of front) (path_of (drop (length front) path))

pub rest_is_not : (path front : List (RcStr Global)) → length front ≤ length path → pointwise same_text front (take (length front) path) ≡ false
    → below (path_of front) (path_of path) ≡ None
rest_is_not path front fits other =
    none_of (below (path_of front) (path_of path))
    (below_take (path_of front) (path_of path)
    ∙ ap (λ n. path_eq (path_of front) (take n (path_of path))) (length-map front (λ s. rc_str_bytes s))
    ∙ ap (path_eq (path_of front)) (take-map (λ s. rc_str_bytes s) (length front) path)
    ∙ sym (strings_eq front (take (length front) path)) ∙ other)
  where
    none_of : (o : Option Path) → is_some o ≡ false → o ≡ None
    none_of None e = refl
    none_of (Some p) e = cc

pub rest_is_none : (path front : List (RcStr Global)) → length path < length front → below (path_of front) (path_of path) ≡ None
rest_is_none path front less =
    none_of (below (path_of front) (path_of path))
    (below_longer (path_of front) (path_of path) (omega (arith, less, length-map front (λ s. rc_str_bytes s), length-map path (λ s. rc_str_bytes s))))
  where
    none_of : (o : Option Path) → is_some o ≡ false → o ≡ None
    none_of None e = refl
    none_of (Some p) e = cc

-- a list of one string
pub one_string : (xs : List (RcStr Global)) (s : RcStr Global) → length xs ≡ 1 → s ≡ slice_index_or xs 0 s → path_of xs ≡ rc_str_bytes s ∷ []
one_string [] s one is = absurd (omega (arith, one))
one_string (x ∷ []) s one is = ap (λ y. rc_str_bytes y ∷ []) (sym is)
one_string (x ∷ y ∷ xs) s one is = absurd (omega (arith, one))

-- where the rest is not one string, the path is no entry there
pub no_entry : (at path : Path) (rest : List (RcStr Global)) → (length rest ≡ 1 → ⊥) → below at path ≡ Some (path_of rest) → (a : List ℕ) → path ≡ at ++ a ∷ [] → ⊥
no_entry at path rest more is a e =
    let one : below at (at ++ a ∷ []) ≡ Some (a ∷ []) = below-append at (a ∷ []) in
    let is_one : path_of rest ≡ a ∷ [] = some-injective (path_of rest) (a ∷ []) (sym is ∙ ap (below at) e ∙ one) in
    more (sym (length-map rest (λ s. rc_str_bytes s)) ∙ ap length is_one)
  where
    some-injective : (x y : Path) → Some x ≡ Some y → x ≡ y
    some-injective x y e = cc

-- each with a slash before it
abbrev pub slashed : List (List ℕ) → List ℕ
slashed [] = []
slashed (x ∷ xs) = 47 ∷ (x ++ slashed xs)

-- one more of the strings
pub slashed-more : (xs : List (RcStr Global)) (k : ℕ) (d : RcStr Global) → k < length xs
    → slashed (path_of (take (suc k) xs)) ≡ slashed (path_of (take k xs)) ++ 47 ∷ rc_str_bytes (slice_index_or xs k d)
slashed-more [] k d lt = absurd (omega arith)
slashed-more (x ∷ xs) zero d lt = ap (λ l. 47 ∷ l) (append-nil (rc_str_bytes x))
slashed-more (x ∷ xs) (suc k) d lt =
    ap (λ l. 47 ∷ (rc_str_bytes x ++ l)) (slashed-more xs k d (omega arith))
    ∙ ap (λ l. 47 ∷ l) (sym (append_assoc (rc_str_bytes x) (slashed (path_of (take k xs))) (47 ∷ rc_str_bytes (slice_index_or xs k d))))

pub text_of-slashed : (x : List ℕ) (xs : List (List ℕ)) → text_of (x ∷ xs) ≡ x ++ slashed xs
text_of-slashed x [] = sym (append-nil x)
text_of-slashed x (y ∷ xs) = ap (λ l. x ++ 47 ∷ l) (text_of-slashed y xs)

-- a slash and a part are added to a text
pub part_added : (before so_far part old mid new : List ℕ) → old ≡ before ++ so_far → mid ≡ old ++ 47 ∷ [] → new ≡ mid ++ part → new ≡ before ++ (so_far ++ 47 ∷ part)
part_added before so_far part old mid new e f g =
    g ∙ ap (λ l. l ++ part) (f ∙ ap (λ l. l ++ 47 ∷ []) e) ∙ append_assoc (before ++ so_far) (47 ∷ []) part ∙ append_assoc before so_far (47 ∷ part)
