-- What opens in two views, by what stands in the directories that are reached.
use Rattle.std.proofs.Common.{◌≡◌, ◌≢◌, ℕ, List, [], ◌∷◌, ◌++◌, Ok, Err, refl, sym, ap, ◌∙◌, inl, inr, subst, append_assoc, length, ◌+◌, length-append, arith}
use Rattle.folder_spec.specs.Path.{Path}
use Rattle.folder_spec.specs.View.{View}
use Rattle.folder_spec.proofs.Paths.{one_or_not, child-injective}
use Rattle.plain_tree.specs.Names as plain
use Rattle.vault_spec.specs.Format.{Format, Directory, file_bytes}
use Rattle.vault_spec.specs.Standing.{Standing, Absent, Strange, File, Dir, root_of, standing_in, standing_from, standing}
use Rattle.vault_spec.specs.Opens.{NoItem, opened, opened_at, opened_file}
use Rattle.vault_spec.specs.Reached.{Leads}
use Rattle.vault_spec.specs.Alike.{HasNoItem, AreAlike, LooksAlike, IsLeaf, GainsItem}

-- behind the first names of a path
pub along : (f : Format) (v : View) (here : Standing) (dir : Directory) (at : Path) (front : plain.Path) (name : List ℕ)
    → standing_from f v here front ≡ Dir at (Ok dir) → standing_from f v here (front ++ name ∷ []) ≡ standing_in f v dir name
along f v here dir at [] name h = subst (λ s. standing_from f v s (name ∷ []) ≡ standing_in f v dir name) (sym h) refl
along f v (Dir a (Ok d)) dir at (n ∷ front) name h = along f v (standing_in f v d n) dir at front name h
along f v (Dir a (Err e)) dir at (n ∷ front) name h = cc
along f v (File a) dir at (n ∷ front) name h = cc
along f v (Strange a) dir at (n ∷ front) name h = cc
along f v Absent dir at (n ∷ front) name h = cc

-- nothing stands behind what is no item
pub behind_no_item : (f : Format) (v : View) (s : Standing) (rest : plain.Path) → HasNoItem s → HasNoItem (standing_from f v s rest)
behind_no_item f v s [] none = none
behind_no_item f v Absent (n ∷ rest) none = none
behind_no_item f v (Strange at) (n ∷ rest) none = none
behind_no_item f v (File at) (n ∷ rest) none = absurd none
behind_no_item f v (Dir at d) (n ∷ rest) none = absurd none

-- nothing stands behind a leaf
behind_leaf : (f : Format) (w : View) (s : Standing) (n : List ℕ) (rest : plain.Path) → IsLeaf f w s → HasNoItem (standing_from f w s (n ∷ rest))
behind_leaf f w (File at) n rest leaf = record {}
behind_leaf f w (Dir at (Err e)) n rest leaf = record {}
behind_leaf f w (Dir at (Ok d)) n rest leaf = behind_no_item f w (standing_in f w d n) rest (leaf n)
behind_leaf f w Absent n rest leaf = absurd leaf
behind_leaf f w (Strange at) n rest leaf = absurd leaf

-- what opens at two standings that are alike
pub opens_alike : (f : Format) (v w : View) (s t : Standing) → AreAlike v w s t → opened_at f v s ≡ opened_at f w t
opens_alike f v w Absent t (inl same) = ap (opened_at f w) same.stands
opens_alike f v w (Strange at) t (inl same) = ap (opened_at f w) same.stands
opens_alike f v w (File at) t (inl same) = ap (λ x. opened_file f.content (file_bytes x)) (same.bytes at refl) ∙ ap (opened_at f w) same.stands
opens_alike f v w (Dir at d) t (inl same) = ap (opened_at f w) same.stands
opens_alike f v w s t (inr none) = nothing_opens f v s none.0 ∙ sym (nothing_opens f w t none.1)
  where
    nothing_opens : (f : Format) (v : View) (s : Standing) → HasNoItem s → opened_at f v s ≡ NoItem
    nothing_opens f v Absent none = refl
    nothing_opens f v (Strange at) none = refl
    nothing_opens f v (File at) none = absurd none
    nothing_opens f v (Dir at d) none = absurd none

-- the same stands here, and all names behind it are looked up alike: by the path to here and the names behind it
alike_from : (f : Format) (v w : View) (front : plain.Path) (here : Standing) (rest : plain.Path) → standing f v front ≡ here
    → ((path : plain.Path) (dir : Directory) (name : List ℕ) → Leads f v path dir → AreAlike v w (standing_in f v dir name) (standing_in f w dir name))
    → ((at : Path) → here ≡ File at → v at ≡ w at)
    → AreAlike v w (standing_from f v here rest) (standing_from f w here rest)
alike_from f v w front here [] is steps bytes = inl (record { stands = refl; bytes = bytes })
alike_from f v w front Absent (n ∷ rest) is steps bytes = inr (record {}, record {})
alike_from f v w front (Strange at) (n ∷ rest) is steps bytes = inr (record {}, record {})
alike_from f v w front (File at) (n ∷ rest) is steps bytes = inr (record {}, record {})
alike_from f v w front (Dir at (Err e)) (n ∷ rest) is steps bytes = inr (record {}, record {})
alike_from f v w front (Dir at (Ok dir)) (n ∷ rest) is steps bytes = elim (steps front dir n (record { at = at; stands = is })) [
  | inl same ↦ subst (λ t. AreAlike v w (standing_from f v (standing_in f v dir n) rest) (standing_from f w t rest)) same.stands
      (alike_from f v w (front ++ n ∷ []) (standing_in f v dir n) rest (along f v (root_of f v) dir at front n is) steps same.bytes)
  | inr none ↦ inr (behind_no_item f v (standing_in f v dir n) rest none.0, behind_no_item f w (standing_in f w dir n) rest none.1)
]

-- what stands at a path in two views that look alike
pub standing_alike : (f : Format) (v w : View) → LooksAlike f v w → (path : plain.Path) → AreAlike v w (standing f v path) (standing f w path)
standing_alike f v w looks path =
    subst (λ r. AreAlike v w (standing f v path) (standing_from f w r path)) looks.root
    (alike_from f v w [] (root_of f v) path refl looks.steps (λ at e. cc))

-- two views that look alike open alike
pub opened_alike : (f : Format) (v w : View) → LooksAlike f v w → (path : plain.Path) → opened f v path ≡ opened f w path
unfolding opened
opened_alike f v w looks path = opens_alike f v w (standing f v path) (standing f w path) (standing_alike f v w looks path)

-- the directory that stands there
abbrev entered_or : Directory → Standing → Directory
entered_or d (Dir at (Ok dir)) = dir
entered_or d (Dir at (Err e)) = d
entered_or d (File at) = d
entered_or d (Strange at) = d
entered_or d Absent = d

-- the last name of a path
abbrev last_or : List ℕ → plain.Path → List ℕ
last_or a [] = a
last_or a (b ∷ path) = last_or b path

last_or-child : (a : List ℕ) (path : plain.Path) (name : List ℕ) → last_or a (path ++ name ∷ []) ≡ name
last_or-child a [] name = refl
last_or-child a (b ∷ path) name = last_or-child b path name

last_name : (one other : plain.Path) (a b : List ℕ) → one ++ a ∷ [] ≡ other ++ b ∷ [] → a ≡ b
last_name one other a b e = sym (last_or-child [] one a) ∙ ap (last_or []) e ∙ last_or-child [] other b

-- a path is shorter than with a name more
shorter : (path : plain.Path) (name : List ℕ) → path ≢ path ++ name ∷ []
shorter path name e =
    let sizes : length path ≡ length path + 1 = ap length e ∙ length-append path (name ∷ []) in
    omega (arith, sizes)

abbrev the_step : Directory → List ℕ → Directory × List ℕ
the_step dir name = (dir, name)

-- the same stands at a front of the path that gains, and all names behind it are looked up alike but the one
gains_from : (f : Format) (v w : View) (gain : plain.Path) (name : List ℕ) → (g : GainsItem f v w gain name)
    → (front : plain.Path) (here : Standing) (rest : plain.Path) → standing f v front ≡ here → front ++ rest ≢ gain ++ name ∷ []
    → ((at : Path) → here ≡ File at → v at ≡ w at)
    → AreAlike v w (standing_from f v here rest) (standing_from f w here rest)
gains_from f v w gain name g front here [] is apart bytes = inl (record { stands = refl; bytes = bytes })
gains_from f v w gain name g front Absent (n ∷ rest) is apart bytes = inr (record {}, record {})
gains_from f v w gain name g front (Strange at) (n ∷ rest) is apart bytes = inr (record {}, record {})
gains_from f v w gain name g front (File at) (n ∷ rest) is apart bytes = inr (record {}, record {})
gains_from f v w gain name g front (Dir at (Err e)) (n ∷ rest) is apart bytes = inr (record {}, record {})
gains_from f v w gain name g front (Dir at (Ok dir)) (n ∷ rest) is apart bytes = elim (one_or_not (front ++ n ∷ []) (gain ++ name ∷ [])) [
  | inl here_gains ↦ at_gain rest here_gains apart
  | inr other ↦ elim (g.others front dir n (record { at = at; stands = is }) other.0) [
    | inl same ↦ subst (λ t. AreAlike v w (standing_from f v (standing_in f v dir n) rest) (standing_from f w t rest)) same.stands
        (gains_from f v w gain name g (front ++ n ∷ []) (standing_in f v dir n) rest
        (along f v (root_of f v) dir at front n is) (λ e. apart (sym (append_assoc front (n ∷ []) rest) ∙ e)) same.bytes)
    | inr none ↦ inr (behind_no_item f v (standing_in f v dir n) rest none.0, behind_no_item f w (standing_in f w dir n) rest none.1)
  ]
]
  where
    same_step : front ++ n ∷ [] ≡ gain ++ name ∷ [] → ◌≡◌ {A = Directory × List ℕ} (dir, n) (g.dir, name)
    same_step e =
        let fronts : front ≡ gain = child-injective front gain n name e in
        let dirs : dir ≡ g.dir = ap (entered_or dir) (sym is ∙ ap (standing f v) fronts ∙ g.leads.stands) in
        let names : n ≡ name = last_name front gain n name e in
        ap (λ (d : Directory). the_step d n) dirs ∙ ap (λ (m : List ℕ). the_step g.dir m) names

    at_gain : (rest : plain.Path) → front ++ n ∷ [] ≡ gain ++ name ∷ [] → front ++ n ∷ rest ≢ gain ++ name ∷ []
        → AreAlike v w (standing_from f v (standing_in f v dir n) rest) (standing_from f w (standing_in f w dir n) rest)
    at_gain [] e apart = absurd (apart e)
    at_gain (m ∷ more) e apart =
        let to : standing_in f v dir n ≡ standing_in f v g.dir name = ap (λ (p : Directory × List ℕ). standing_in f v p.0 p.1) (same_step e) in
        let after : standing_in f w dir n ≡ standing_in f w g.dir name = ap (λ (p : Directory × List ℕ). standing_in f w p.0 p.1) (same_step e) in
        inr (
          behind_no_item f v (standing_in f v dir n) (m ∷ more) (subst HasNoItem (sym to) g.free),
          behind_leaf f w (standing_in f w dir n) m more (subst (IsLeaf f w) (sym after) g.leaf),
        )

-- what stands at all paths but the item's
pub gains_alike : (f : Format) (v w : View) (gain : plain.Path) (name : List ℕ) → GainsItem f v w gain name
    → (path : plain.Path) → path ≢ gain ++ name ∷ [] → AreAlike v w (standing f v path) (standing f w path)
gains_alike f v w gain name g path apart =
    subst (λ r. AreAlike v w (standing f v path) (standing_from f w r path)) g.root (gains_from f v w gain name g [] (root_of f v) path refl apart (λ at e. cc))

-- a view that gains an item opens as the other at all paths but the item's, where there opens what stands there
pub gained : (f : Format) (v w : View) (gain : plain.Path) (name : List ℕ) → GainsItem f v w gain name
    → (path : plain.Path) → path ≢ gain ++ name ∷ [] → opened f v path ≡ opened f w path
unfolding opened
gained f v w gain name g path apart = opens_alike f v w (standing f v path) (standing f w path) (gains_alike f v w gain name g path apart)

-- the way to the item's directory is as it was
pub way_stays : (f : Format) (v w : View) (gain : plain.Path) (name : List ℕ) → (g : GainsItem f v w gain name)
    → standing f w gain ≡ Dir g.leads.at (Ok g.dir)
way_stays f v w gain name g = elim (gains_alike f v w gain name g gain (shorter gain name)) [
  | inl same ↦ sym same.stands ∙ g.leads.stands
  | inr none ↦ absurd (subst HasNoItem g.leads.stands none.0)
]

-- and there opens what now stands
pub gained_there : (f : Format) (v w : View) (gain : plain.Path) (name : List ℕ) → (g : GainsItem f v w gain name)
    → opened f w (gain ++ name ∷ []) ≡ opened_at f w (standing_in f w g.dir name)
unfolding opened
gained_there f v w gain name g = ap (opened_at f w) (along f w (root_of f w) g.dir g.leads.at gain name (way_stays f v w gain name g))
