-- What is shown at a root and below it, by what happens there and elsewhere.
use Rattle.std.proofs.Common.{◌≡◌, ◌⊎◌, false, List, [], ◌∷◌, ◌++◌, Option, Some, None, is_none, is_some, refl, sym, ap, ◌∙◌, inl, inr, append_assoc, IsTrue}
use mathlib.Core.Path.{fun_ext}
use Rattle.folder_spec.specs.Path.{Path, path_eq, below}
use Rattle.folder_spec.specs.View.{Found, View, AgreeIn}
use Rattle.folder_spec.specs.Region.{apart_from, at_or_below}
use Rattle.folder_spec.specs.Seen.{under, put_found, moved_view}
use Rattle.folder_spec.specs.Edit.{Edit, grafted, edited, edit_under, edits_under, view_after, IsOutside}
use Rattle.folder_spec.proofs.Paths.{path_eq-same, path_eq-apart, one_or_not, below-append, begins_or_not, not_below, below-both, append-cancel, below-apart}

-- a root below a root
pub under-under : (root more : Path) (v : View) → under more (under root v) ≡ under (root ++ more) v
under-under root more v = fun_ext (λ rest. ap v (sym (append_assoc root more rest)))

-- views that are alike at a root and below it show the same there
pub under-agree : (root : Path) (v w : View) → AgreeIn (at_or_below root) v w → under root v ≡ under root w
under-agree root v w agree = fun_ext (λ rest. agree (root ++ rest) (ap is_some (below-append root rest)))

-- What comes to stand at a path below the root.
pub under-put : (root p : Path) (v : View) (x : Found) → under root (put_found v (root ++ p) x) ≡ put_found (under root v) p x
under-put root p v x = fun_ext (λ rest. at rest (one_or_not p rest))
  where
    at : (rest : Path) → ((p ≡ rest) ⊎ ((p ≡ rest → ⊥) × (path_eq p rest ≡ false))) → put_found v (root ++ p) x (root ++ rest) ≡ put_found (under root v) p x rest
    at rest (inl e) = rw (sym e) (rw (path_eq-same (root ++ p), path_eq-same p) refl)
    at rest (inr k) = rw (path_eq-apart (root ++ p) (root ++ rest) (λ e. k.0 (append-cancel root p rest e)), k.1) refl

pub under-edited : (root : Path) (v : View) (e : Edit) → under root (edited v (edit_under root e)) ≡ edited (under root v) e
under-edited root v e = fun_ext (λ rest. at rest (below-both root e.at rest))
  where
    at : (rest : Path) → below (root ++ e.at) (root ++ rest) ≡ below e.at rest → edited v (edit_under root e) (root ++ rest) ≡ edited (under root v) e rest
    at rest same = ap (grafted v (edit_under root e) (root ++ rest)) same ∙ by_place (below e.at rest)
      where
        by_place : (o : Option Path) → grafted v (edit_under root e) (root ++ rest) o ≡ grafted (under root v) e rest o
        by_place None = refl
        by_place (Some more) = refl

pub under-edits : (root : Path) (v : View) (edits : List Edit) → under root (view_after v (edits_under root edits)) ≡ view_after (under root v) edits
under-edits root v [] = refl
under-edits root v (e ∷ edits) = under-edits root (edited v (edit_under root e)) edits ∙ ap (λ w. view_after w edits) (under-edited root v e)

-- What happens elsewhere.
pub under-put_elsewhere : (root p : Path) (v : View) (x : Found) → below root p ≡ None → under root (put_found v p x) ≡ under root v
under-put_elsewhere root p v x elsewhere =
    fun_ext (λ rest. rw (path_eq-apart p (root ++ rest) (λ e. not_below root rest (ap (below root) (sym e) ∙ elsewhere))) refl)

pub under-moved_elsewhere : (root old new : Path) (v : View) → below root old ≡ None → below old root ≡ None → below root new ≡ None → below new root ≡ None
    → under root (moved_view v old new) ≡ under root v
under-moved_elsewhere root old new v from_old to_old from_new to_new =
    fun_ext (λ rest. rw (below-apart new root rest to_new from_new, below-apart old root rest to_old from_old) refl)

pub under-edited_elsewhere : (root : Path) (v : View) (e : Edit) → below root e.at ≡ None → below e.at root ≡ None → under root (edited v e) ≡ under root v
under-edited_elsewhere root v e from_edit to_edit = fun_ext (λ rest. ap (grafted v e (root ++ rest)) (below-apart e.at root rest to_edit from_edit))

-- a root apart from a stage
pub root_outside : (stage root : Path) → below stage root ≡ None → below root stage ≡ None → IsOutside stage (at_or_below root)
root_outside stage root apart beside q inside = elim (begins_or_not root q) as (λ _. IsTrue (apart_from stage q)) [
  | inl k ↦ ap is_none (ap (below stage) k.1 ∙ below-apart stage root k.0 apart beside)
  | inr none ↦ absurd (let no_ : is_some (below root q) ≡ is_some {T = Path} None = ap is_some none in cc)
]
