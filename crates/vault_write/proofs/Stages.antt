-- What is staged is below the stage, and what is at a root that is apart from the work folder isn't.
use Rattle.std.proofs.Common.{arith, ◌≡◌, ◌+◌, suc, length, length-append, Bool, true, false, ◌&&◌, not, [], ◌∷◌, ◌++◌, None, refl, sym, ap, ◌∙◌, inl, inr, append_assoc, append-nil, IsTrue, is_some, codes}
use Rattle.folder_spec.specs.Path.{Part, Path, below, child}
use Rattle.folder_spec.specs.Region.{apart_from, at_or_below}
use Rattle.folder_spec.proofs.Paths.{begins_or_not, below-append, below-apart, not_below, child_begins}
use Rattle.folder_spec.proofs.Replaces.{apart-below, apart-from_below}
use Rattle.work_folder.specs.Entries.{stage_path}
use Rattle.item_making.specs.Making.{is_inside, is_staged, is_unstaged, is_apart}

-- a place in the stage, and all below it
pub in_stage : (work : Path) (x : Part) (rest q : Path) → q ≡ child (stage_path work) x ++ rest → IsTrue (is_staged work q)
in_stage work x rest q is = ap is_inside (ap (below (stage_path work)) (is ∙ append_assoc (stage_path work) (x ∷ []) rest) ∙ below-append (stage_path work) (x ∷ rest))

not_both : (b : Bool) → IsTrue b → IsTrue (not b) → ⊥
not_both true is none = cc
not_both false is none = cc

pub unstaged_below : (work : Path) (x : Part) (q : Path) → IsTrue (is_unstaged work q) → below (child (stage_path work) x) q ≡ None
unstaged_below work x q unstaged = elim (begins_or_not (child (stage_path work) x) q) [
  | inl k ↦ absurd (not_both (is_staged work q) (in_stage work x k.0 q k.1) unstaged)
  | inr none ↦ none
]

pub unstaged_apart : (work : Path) (x : Part) (q : Path) → IsTrue (is_unstaged work q) → IsTrue (apart_from (child (stage_path work) x) q)
unstaged_apart work x q unstaged = apart-from_below (child (stage_path work) x) q (unstaged_below work x q unstaged)

pub left_true : (a b : Bool) → IsTrue (a && b) → IsTrue a
left_true true b is = refl
left_true false b is = cc

pub right_true : (a b : Bool) → IsTrue (a && b) → IsTrue b
right_true true b is = is
right_true false b is = cc

pub apart_unstaged : (work root q : Path) → IsTrue (is_apart work root q) → IsTrue (is_unstaged work q)
apart_unstaged work root q is = left_true (is_unstaged work q) (apart_from root q) is

pub apart_root : (work root q : Path) → IsTrue (is_apart work root q) → below root q ≡ None
apart_root work root q is = apart-below root q (right_true (is_unstaged work q) (apart_from root q) is)

-- the stage is apart from the root
stage_apart : (work root : Path) → below work root ≡ None → below (stage_path work) root ≡ None
stage_apart work root apart = elim (begins_or_not (stage_path work) root) [
  | inl k ↦ absurd (not_below work (codes "stage" ∷ k.0) (ap (below work) (sym (k.1 ∙ append_assoc work (codes "stage" ∷ []) k.0)) ∙ apart))
  | inr none ↦ none
]

root_apart : (work root : Path) → below work root ≡ None → below root work ≡ None → below root (stage_path work) ≡ None
root_apart work root apart beside = elim (begins_or_not root (stage_path work)) [
  | inr none ↦ none
  | inl k ↦ elim (child_begins root work (codes "stage") k.0 k.1) [
    | inl same ↦ absurd (not_below work (codes "stage" ∷ []) (ap (below work) same ∙ apart))
    | inr above ↦ absurd (not_below root above.0 (ap (below root) (sym above.1) ∙ beside))
  ]
]

-- what is at the root or below it is neither staged nor above the work folder
pub at_root : (root q : Path) → IsTrue (at_or_below root q) → (rest : Path) × (q ≡ root ++ rest)
at_root root q is = elim (begins_or_not root q) [
  | inl k ↦ k
  | inr none ↦ let clash : true ≡ false = sym is ∙ ap is_some none in cc
]

pub root_below : (work root q : Path) → below work root ≡ None → below root work ≡ None → IsTrue (at_or_below root q) → below (stage_path work) q ≡ None
root_below work root q apart beside is =
    let k : (rest : Path) × (q ≡ root ++ rest) = at_root root q is in
    ap (below (stage_path work)) k.1 ∙ below-apart (stage_path work) root k.0 (stage_apart work root apart) (root_apart work root apart beside)

pub root_unstaged : (work root q : Path) → below work root ≡ None → below root work ≡ None → IsTrue (at_or_below root q) → IsTrue (is_unstaged work q)
root_unstaged work root q apart beside is = ap (λ o. not (is_inside o)) (root_below work root q apart beside is)

-- what is apart from a root is apart from what is at it or below
pub off_root : (root at q : Path) → below root q ≡ None → IsTrue (at_or_below root at) → below at q ≡ None
off_root root at q apart is = elim (begins_or_not at q) [
  | inr none ↦ none
  | inl k ↦
      let place : (rest : Path) × (at ≡ root ++ rest) = at_root root at is in
      absurd (not_below root (place.0 ++ k.0) (ap (below root) (sym (k.1 ∙ ap (λ p. p ++ k.0) place.1 ∙ append_assoc root place.0 k.0)) ∙ apart))
]

pub stage_beside : (work root at : Path) → below work root ≡ None → below root work ≡ None → IsTrue (at_or_below root at) → below at (stage_path work) ≡ None
stage_beside work root at apart beside is = off_root root at (stage_path work) (root_apart work root apart beside) is

-- nor above anything in the stage
pub staged_beside : (work root at rest : Path) → below work root ≡ None → below root work ≡ None → IsTrue (at_or_below root at) → below at (stage_path work ++ rest) ≡ None
staged_beside work root at rest apart beside is = below-apart at (stage_path work) rest (stage_beside work root at apart beside is) (root_below work root at apart beside is)

-- the work folder and its stage aren't staged
pub work_unstaged : (work : Path) → IsTrue (is_unstaged work work)
work_unstaged work = ap (λ o. not (is_inside o)) (shorter work)
  where
    shorter : (work : Path) → below (stage_path work) work ≡ None
    shorter work = elim (begins_or_not (stage_path work) work) [
      | inr none ↦ none
      | inl k ↦ absurd (longer work k.0 (k.1 ∙ append_assoc work (codes "stage" ∷ []) k.0))
    ]
      where
        longer : (work rest : Path) → work ≡ work ++ codes "stage" ∷ rest → ⊥
        longer work rest is =
            let sizes : length work ≡ length work + length (codes "stage" ∷ rest) = ap length is ∙ length-append work (codes "stage" ∷ rest) in
            let more : length (codes "stage" ∷ rest) ≡ suc (length rest) = refl in
            omega (arith, sizes, more)

pub stage_unstaged : (work : Path) → IsTrue (is_unstaged work (stage_path work))
stage_unstaged work = ap (λ o. not (is_inside o)) (ap (below (stage_path work)) (sym (append-nil (stage_path work))) ∙ below-append (stage_path work) [])
