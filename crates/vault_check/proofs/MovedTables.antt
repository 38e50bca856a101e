-- What stands where while strays are moved one after the other into a folder of lost ones.
use Rattle.std.proofs.Common.{◌≡◌, ◌≢◌, ◌⊎◌, inl, inr, ℕ, suc, ◌+◌, ◌<◌, ◌^◌, Bool, true, false, ◌||◌, cond, List, [], ◌∷◌, ◌++◌, length, get_or, Some, None, is_none, is_some, IsTrue, Contains, refl, sym, ap, ◌∙◌, subst, append_assoc, append-nil, length-append, bytes_eq, arith}
use Rattle.std.specs.Fmt.{decimal}
use Rattle.std.proofs.lemmas.Fmt.{decimal_injective}
use Rattle.std.proofs.lemmas.Slice.Eq.{bytes_eq-Decides}
use Rattle.std.proofs.Math.ListN.{get_or-append}
use Rattle.std.proofs.Math.Seq.{get_or-append_seam}
use Rattle.std.proofs.lemmas.Bool.{cases_eq}
use Rattle.std.proofs.lemmas.List.Elements.{Contains-get_or}
use Rattle.folder_spec.specs.declared.Spot.TheVariants.{Nothing, Directory}
use Rattle.folder_spec.specs.Path.{Part, Path, below, child}
use Rattle.folder_spec.specs.State.{Table, put, moved, IsSoundTable}
use Rattle.folder_spec.specs.Event.{AllowedIn, Rename}
use Rattle.folder_spec.specs.Region.{apart_from}
use Rattle.folder_spec.proofs.Paths.{below-append, begins_or_not, parent-child, below-sibling, below-both, below-apart}
use Rattle.folder_spec.proofs.Tables.{put-same, put-other, moved-new, moved-old, moved-other}
use Rattle.folder_spec.proofs.Edits.{nothing_below_file}
use Rattle.vault_check.specs.Repairing.{HasMoved, is_gone, place_of}
use Rattle.folder_spec.specs.Apart.{AreApart}

-- ---- paths

not_none : (w rest : Path) → IsTrue (apart_from w (w ++ rest)) → ⊥
not_none w rest apart = let some : is_none (below w (w ++ rest)) ≡ false = ap is_none (below-append w rest) in cc

pub apart_by : (w q : Path) → below w q ≡ None → IsTrue (apart_from w q)
apart_by w q none = rw none refl

none_by : (w q : Path) → IsTrue (apart_from w q) → below w q ≡ None
none_by w q apart = elim (begins_or_not w q) as (λ _. below w q ≡ None) [
  | inl k ↦ absurd (not_none w k.0 (subst (λ p. IsTrue (apart_from w p)) k.1 apart))
  | inr none ↦ none
]

longer_not : (w : Path) (a : Part) → below (child w a) w ≡ None
longer_not w a = elim (begins_or_not (child w a) w) as (λ _. below (child w a) w ≡ None) [
  | inl k ↦ absurd (let size : length w ≡ length (child w a ++ k.0) = ap length k.1 in omega (arith, size, length-append (child w a) k.0, length-append w (a ∷ [])))
  | inr none ↦ none
]

-- what begins with an entry begins with its directory
above_not : (w : Path) (a : Part) (q : Path) → below w q ≡ None → below (child w a) q ≡ None
above_not w a q none = elim (begins_or_not (child w a) q) as (λ _. below (child w a) q ≡ None) [
  | inl k ↦ absurd (let there : below w q ≡ Some ((a ∷ []) ++ k.0) = ap (below w) (k.1 ∙ append_assoc w (a ∷ []) k.0) ∙ below-append w ((a ∷ []) ++ k.0) in cc)
  | inr apart ↦ apart
]

unequal : (a b : Part) → a ≢ b → bytes_eq a b ≡ false
unequal a b apart = by_test (bytes_eq a b) refl
  where
    by_test : (t : Bool) → bytes_eq a b ≡ t → t ≡ false
    by_test true e = absurd (apart ((bytes_eq-Decides a b).0 e))
    by_test false e = refl

other_number : (m k : ℕ) → m < 2 ^ 63 → k < m → decimal (m + 1) ≢ decimal (k + 1)
other_number m k few less same = let one : m + 1 ≡ k + 1 = decimal_injective (m + 1) (k + 1) (omega (arith, few)) (omega (arith, few, less)) same in omega (arith, one, less)

places_aside : (lost : Path) (m k : ℕ) → m < 2 ^ 63 → k < m → AreApart (place_of lost m) (place_of lost k)
places_aside lost m k few less = record {
  one = below-sibling lost (decimal (m + 1)) (decimal (k + 1)) (unequal _ _ (other_number m k few less));
  other = below-sibling lost (decimal (k + 1)) (decimal (m + 1)) (unequal _ _ (λ same. other_number m k few less (sym same)));
}

-- ---- what is gone

or_nothing : (b : Bool) → (b || false) ≡ b
or_nothing true = refl
or_nothing false = refl

or_first : (b c d e : Bool) → c ≡ (d || e) → (b || c) ≡ ((b || d) || e)
or_first true c d e same = refl
or_first false c d e same = same

pub gone_more : (gone : List Path) (s q : Path) → is_gone (gone ++ s ∷ []) q ≡ (is_gone gone q || is_some (below s q))
gone_more [] s q = or_nothing (is_some (below s q))
gone_more (g ∷ gone) s q = or_first (is_some (below g q)) (is_gone (gone ++ s ∷ []) q) (is_gone gone q) (is_some (below s q)) (gone_more gone s q)

-- what is aside of all that is gone is not gone, nor is what is below it
pub not_gone : (gone : List Path) (s rest : Path) → ((g : Path) → Contains gone g → AreApart g s) → is_gone gone (s ++ rest) ≡ false
not_gone [] s rest aside = refl
not_gone (g ∷ gone) s rest aside =
    let here : AreApart g s = aside g (0, omega arith, refl) in
    rw (below-apart g s rest here.one here.other)
    (not_gone gone s rest (λ h found. aside h (suc found.0, (let less : found.0 < length gone = found.1 in omega (arith, less)), found.2)))

or_true : (b : Bool) → (b || true) ≡ true
or_true true = refl
or_true false = refl

-- ---- tables

module _ (lost : Path) (u : Table) where
  -- the folder is made
  pub moved_none : (made : ℕ) → IsSoundTable made u → u lost ≡ Nothing → HasMoved lost [] (put u lost Directory) u
  moved_none made sound free = record {
    folder = put-same u lost Directory;
    moved = λ k less rest. absurd (omega (arith, less));
    alone = λ a rest none.
        put-other u lost Directory (lost ++ a ∷ rest) (λ same. let size : length lost ≡ length (lost ++ a ∷ rest) = ap length same in omega (arith, size, length-append lost (a ∷ rest)))
        ∙ nothing_below_file made u sound lost a rest (λ dir. let both : Nothing ≡ Directory = sym free ∙ dir in cc);
    others = λ q apart. put-other u lost Directory q (λ same. not_none lost [] (subst (λ p. IsTrue (apart_from lost p)) (sym same ∙ sym (append-nil lost)) apart));
  }

  -- one more is moved
  module _ (t : Table) (gone : List Path) (s : Path) (h : HasMoved lost gone t u) (aside : AreApart lost s) (others : (g : Path) → Contains gone g → AreApart g s) (few : length gone < 2 ^ 63) where
    new : Path
    new = place_of lost (length gone)

    after : Table
    after = moved t s (place_of lost (length gone))

    not_below_s : (a : Part) (rest : Path) → below s (lost ++ a ∷ rest) ≡ None
    not_below_s a rest = below-apart s lost (a ∷ rest) aside.other aside.one

    -- and it may be
    pub may_move : s ≢ [] → u s ≢ Nothing → AllowedIn t (Rename s (place_of lost (length gone)))
    may_move some stands =
        let a : Part = decimal (length gone + 1) in
        let here : t s ≡ u s =
        ap t (sym (append-nil s)) ∙ h.others (s ++ []) (apart_by lost (s ++ []) (below-apart lost s [] aside.one aside.other))
        ∙ ap (λ b. cond b Nothing (u (s ++ []))) (not_gone gone s [] others) ∙ ap u (append-nil s) in (
          some,
          λ none. stands (sym here ∙ none),
          not_below_s a [],
          inl (h.alone a [] (λ k less same. other_number (length gone) k few less same), ap t (parent-child lost a) ∙ h.folder),
        )

    pub moved_one_more : HasMoved lost (gone ++ s ∷ []) (moved t s (place_of lost (length gone))) u
    moved_one_more = record {
      folder = moved-other t s (place_of lost (length gone)) lost (longer_not lost (decimal (length gone + 1))) aside.other ∙ h.folder;
      moved = by_place;
      alone = alone;
      others = elsewhere;
    }
      where
        by_place : (k : ℕ) → k < length (gone ++ s ∷ []) → (rest : Path) → moved t s (place_of lost (length gone)) (place_of lost k ++ rest) ≡ u (get_or (gone ++ s ∷ []) k [] ++ rest)
        by_place k less rest = at (cases_eq k (length gone))
          where
            at : (k ≡ length gone) ⊎ (k ≢ length gone) → moved t s (place_of lost (length gone)) (place_of lost k ++ rest) ≡ u (get_or (gone ++ s ∷ []) k [] ++ rest)
            at (inl same) =
                let there : below lost (s ++ rest) ≡ None = below-apart lost s rest aside.one aside.other in
                ap (λ j. moved t s (place_of lost (length gone)) (place_of lost j ++ rest)) same
                ∙ moved-new t s (place_of lost (length gone)) rest
                ∙ h.others (s ++ rest) (apart_by lost (s ++ rest) there)
                ∙ ap (λ b. cond b Nothing (u (s ++ rest))) (not_gone gone s rest others)
                ∙ ap (λ p. u (p ++ rest)) (sym (ap (λ j. get_or (gone ++ s ∷ []) j []) same ∙ get_or-append_seam gone s [] []))
            at (inr other) =
                let size : length (gone ++ s ∷ []) ≡ length gone + 1 = length-append gone (s ∷ []) in
                let before : k < length gone = omega (arith, less, size, other) in
                let places : AreApart (place_of lost (length gone)) (place_of lost k) = places_aside lost (length gone) k few before in
                moved-other t s (place_of lost (length gone)) (place_of lost k ++ rest)
                (below-apart (place_of lost (length gone)) (place_of lost k) rest places.one places.other)
                (ap (below s) (append_assoc lost (decimal (k + 1) ∷ []) rest) ∙ not_below_s (decimal (k + 1)) rest)
                ∙ h.moved k before rest
                ∙ ap (λ p. u (p ++ rest)) (sym (get_or-append gone (s ∷ []) [] k before))

        alone : (a : Part) (rest : Path) → ((k : ℕ) → k < length (gone ++ s ∷ []) → a ≢ decimal (k + 1)) → moved t s (place_of lost (length gone)) (lost ++ a ∷ rest) ≡ Nothing
        alone a rest none =
            let size : length (gone ++ s ∷ []) ≡ length gone + 1 = length-append gone (s ∷ []) in
            let other : bytes_eq (decimal (length gone + 1)) a ≡ false = unequal (decimal (length gone + 1)) a (λ same. none (length gone) (omega (arith, size)) (sym same)) in
            moved-other t s (place_of lost (length gone)) (lost ++ a ∷ rest)
            (below-both lost (decimal (length gone + 1) ∷ []) (a ∷ rest) ∙ rw other refl) (not_below_s a rest)
            ∙ h.alone a rest (λ k less. none k (omega (arith, less, size)))

        elsewhere : (q : Path) → IsTrue (apart_from lost q) → moved t s (place_of lost (length gone)) q ≡ cond (is_gone (gone ++ s ∷ []) q) Nothing (u q)
        elsewhere q apart = by_s (begins_or_not s q)
          where
            not_new : below (place_of lost (length gone)) q ≡ None
            not_new = above_not lost (decimal (length gone + 1)) q (none_by lost q apart)

            by_s : ((rest : Path) × (q ≡ s ++ rest)) ⊎ (below s q ≡ None) → moved t s (place_of lost (length gone)) q ≡ cond (is_gone (gone ++ s ∷ []) q) Nothing (u q)
            by_s (inl (rest, is)) =
                let went : is_gone (gone ++ s ∷ []) q ≡ true =
                gone_more gone s q ∙ ap (λ o. is_gone gone q || is_some o) (ap (below s) is ∙ below-append s rest) ∙ or_true (is_gone gone q) in
                let left : moved t s (place_of lost (length gone)) q ≡ Nothing =
                ap (moved t s (place_of lost (length gone))) is ∙ moved-old t s (place_of lost (length gone)) rest (ap (below (place_of lost (length gone))) (sym is) ∙ not_new) in
                rw went left
            by_s (inr none) =
                let same : is_gone (gone ++ s ∷ []) q ≡ is_gone gone q =
                gone_more gone s q ∙ ap (λ o. is_gone gone q || is_some o) none ∙ or_nothing (is_gone gone q) in
                rw same (moved-other t s (place_of lost (length gone)) q not_new none ∙ h.others q apart)

-- where nothing was moved
pub bare_itself : (lost : Path) (t u : Table) → HasMoved lost [] t u → HasMoved lost [] t t
bare_itself lost t u h = record { folder = h.folder; moved = λ k less rest. absurd (omega (arith, less)); alone = h.alone; others = λ q apart. refl }

-- seen from before the folder was made
pub moved_since : (lost : Path) (gone : List Path) (t w u : Table) → ((g : Path) → Contains gone g → AreApart lost g) → HasMoved lost [] w u → HasMoved lost gone t w → HasMoved lost gone t u
moved_since lost gone t w u aside made h = record {
  folder = h.folder;
  moved = λ k less rest.
      let s = get_or gone k [] in
      let apart : AreApart lost s = aside s (Contains-get_or gone k [] less) in
      h.moved k less rest ∙ made.others (s ++ rest) (apart_by lost (s ++ rest) (below-apart lost s rest apart.one apart.other));
  alone = h.alone;
  others = λ q apart. h.others q apart ∙ ap (λ x. cond (is_gone gone q) Nothing x) (made.others q apart);
}
