-- A survey tells whether a vault is clean, and which finding is its first.
use Rattle.std.proofs.Common.{◌≡◌, ℕ, zero, suc, ◌<◌, List, [], ◌∷◌, map, refl, sym, ap, ◌∙◌, subst, length, get_or, arith}
use Rattle.std.specs.Prelude.{IsTrue, AllPairs, Contains}
use Rattle.std.specs.Cmp.Lexicographic.{lists_total, nat_list_cmp_total}
use Rattle.std.specs.Ordering.{ordering_reverse}
use Rattle.std.specs.declared.cmp.Ordering.{Ordering}
use Rattle.std.specs.declared.cmp.Ordering.TheVariants.{Less, Equal, Greater}
use Rattle.folder_spec.specs.Path.{Path}
use Rattle.folder_spec.specs.View.{View}
use Rattle.plain_tree.specs.Order.{path_cmp}
use Rattle.vault_spec.specs.Findings.{IsFinding, IsClean, is_fault_of_structure, number_of}
use Rattle.vault_spec.specs.Format.{Format}
use Rattle.vault_walk.specs.Survey.{FoundAt, Precedes, ByPath, ByNumber}
use Rattle.vault_walk.specs.Surveyed.{told, IsFirstFinding, IsSurveyed}
use Rattle.vault_walk.specs.declared.fault.Finding as answer
use Rattle.vault_walk.specs.declared.surveying.Surveyed.{Surveyed}
use Rattle.vault_walk.proofs.Flats.{none_within}
use Rattle.vault_spec.proofs.Mapped.{contains_mapped}
use Rattle.vault_walk.proofs.NodeOrders.{path_tied}

-- without findings it is clean
pub clean_where : (root : Path) (f : Format) (v : View) (surveyed : Surveyed) → IsSurveyed root f v surveyed → surveyed.findings.items ≡ [] → IsClean f v
clean_where root f v surveyed s none finding at fault found =
    let x : FoundAt = record { at = at; finding = finding } in
    let there : Contains s.found x = (s.is.findings.findings x).1 (fault, found) in
    none_within (told root x) (subst (λ xs. Contains xs (told root x)) (sym s.findings_are ∙ none) (contains_mapped (told root) s.found x there))

less_or_not : (o r : Ordering) → o ≡ ordering_reverse r → o ≡ Less → r ≡ Less → ⊥
less_or_not o Less e one two = let clash : Greater ≡ Less = sym e ∙ one in cc
less_or_not o Equal e one two = cc
less_or_not o Greater e one two = cc

not_tied : (p q : Path) → p ≡ q → path_cmp p q ≡ Less → ⊥
not_tied p q same less = let clash : Equal ≡ Less = sym (path_tied q) ∙ ap (λ z. path_cmp z q) (sym same) ∙ less in cc

-- none is before what is before it
one_way : (x y : FoundAt) → Precedes x y → Precedes y x → ⊥
one_way x y (ByPath less) (ByPath more) = less_or_not (path_cmp x.at y.at) (path_cmp y.at x.at) ((lists_total nat_list_cmp_total).antisymm x.at y.at) less more
one_way x y (ByPath less) (ByNumber same more) = not_tied x.at y.at (sym same) less
one_way x y (ByNumber same less) (ByPath more) = not_tied y.at x.at (sym same) more
one_way x y (ByNumber same less) (ByNumber again more) =
    let one : number_of x.finding < number_of y.finding = less in
    let two : number_of y.finding < number_of x.finding = more in
    omega (arith, one, two)

first_told : (root : Path) (x : FoundAt) (xs : List FoundAt) (first : answer.Finding) (rest : List answer.Finding) → map (told root) (x ∷ xs) ≡ first ∷ rest → first ≡ told root x
first_told root x xs first rest e = cc

-- the first is before all others
pub first_finding : (root : Path) (f : Format) (v : View) (surveyed : Surveyed) → IsSurveyed root f v surveyed → (first : answer.Finding) (rest : List answer.Finding) → surveyed.findings.items ≡ first ∷ rest
    → IsFirstFinding root f v first
first_finding root f v surveyed s first rest is = by_list s.found refl (sym s.findings_are ∙ is)
  where
    by_list : (xs : List FoundAt) → s.found ≡ xs → map (told root) xs ≡ first ∷ rest → IsFirstFinding root f v first
    by_list [] same e = cc
    by_list (x ∷ xs) same e = record {
      first = x;
      is = first_told root x xs first rest e;
      of_structure = here.0;
      found = here.1;
      least = least;
    }
      where
        there : Contains s.found x
        there = subst (λ ys. Contains ys x) (sym same) (0, omega arith, refl)

        here : IsTrue (is_fault_of_structure x.finding) × IsFinding f v x.finding x.at
        here = (s.is.findings.findings x).0 there

        least : (other : FoundAt) → IsTrue (is_fault_of_structure other.finding) → IsFinding f v other.finding other.at → ¬ Precedes other x
        least other fault found before = at_place among.0 among.1 among.2
          where
            among : Contains (x ∷ xs) other
            among = subst (λ ys. Contains ys other) same ((s.is.findings.findings other).1 (fault, found))

            at_place : (k : ℕ) → k < length (x ∷ xs) → get_or (x ∷ xs) k other ≡ other → ⊥
            at_place zero less e = let itself : Precedes x x = subst (λ y. Precedes y x) (sym e) before in one_way x x itself itself
            at_place (suc k) less e =
                let size : suc k < length (x ∷ xs) = less in
                one_way x other (subst (Precedes x) e (subst (AllPairs Precedes) same s.is.findings.ordered 0 (suc k) other (omega arith) size)) before
