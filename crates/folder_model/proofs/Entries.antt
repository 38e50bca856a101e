-- Entries in order.
use Rattle.std.proofs.Common.{◌≡◌, ◌≢◌, ℕ, suc, ◌+◌, ◌-◌, ◌<◌, ◌≤◌, ◌⊎◌, List, ◌∷◌, ◌++◌, length, take, drop, slice_index_or, insert, refl, sym, ap, ◌∙◌, subst, subst₂, inl, inr, ⊎_elim, arith, AllPairs, Contains, take-append-drop}
use Rattle.std.specs.Cmp.Lexicographic.{slice_cmp, nat_list_cmp_total}
use Rattle.std.specs.Ordering.{nat_cmp, ordering_reverse}
use Rattle.std.specs.declared.cmp.Ordering.TheVariants.{Less, Greater}
use Rattle.std.proofs.lemmas.List.Edits.{length-insert, get_or-insert_below, get_or-insert_at, get_or-insert_above}
use Rattle.std.proofs.lemmas.List.Elements.{Contains-append_left, Contains-append_right, Contains-append_cases}
use Rattle.folder_spec.specs.declared.Kind.{Kind}
use Rattle.folder_spec.specs.declared.Kind.TheVariants.{Missing}
use Rattle.folder_spec.specs.Path.{Part, Path, child}
use Rattle.folder_spec.specs.State.{Table, kind_of}
use Rattle.folder_spec.specs.View.{found}
use Rattle.folder_spec.specs.Listing.{Item, IsListing}
use Rattle.folder_spec.proofs.Seen.{kind_seen}
use Rattle.folder_model.specs.Entries.{AreOrdered, IsPlace, HasName, AddsItem, AreRight, AddsEntry}

pub below_or_not : (a b : ℕ) → (a < b) ⊎ (b ≤ a)
below_or_not ℕ.zero ℕ.zero = inr (omega arith)
below_or_not ℕ.zero (suc b) = inl (omega arith)
below_or_not (suc a) ℕ.zero = inr (omega arith)
below_or_not (suc a) (suc b) = ⊎_elim (λ h. inl (omega (arith, h))) (λ h. inr (omega (arith, h))) (below_or_not a b)

flipped : (x y : List ℕ) → slice_cmp nat_cmp x y ≡ Greater → slice_cmp nat_cmp y x ≡ Less
flipped x y h = nat_list_cmp_total.antisymm y x ∙ ap ordering_reverse h

less_trans : (x y z : List ℕ) → slice_cmp nat_cmp x y ≡ Less → slice_cmp nat_cmp y z ≡ Less → slice_cmp nat_cmp x z ≡ Less
less_trans x y z h k = nat_list_cmp_total.trans x y z h k

-- an element between those that are before it and those that are after it
pub all_pairs_insert : {X : Type 0} (R : X → X → Type 0) (xs : List X) (i : ℕ) (y : X) → i ≤ length xs → AllPairs R xs
    → ((k : ℕ) (d : X) → k < i → R (slice_index_or xs k d) y)
    → ((k : ℕ) (d : X) → i ≤ k → k < length xs → R y (slice_index_or xs k d))
    → AllPairs R (insert xs i y)
all_pairs_insert {X} R xs i y within pairs before after a b d less fits =
    elim (below_or_not b i) as (λ _. R (slice_index_or (insert xs i y) a d) (slice_index_or (insert xs i y) b d)) [
      | inl low_b ↦ subst₂ R (sym (low a (omega (arith, less, low_b)))) (sym (low b low_b)) (pairs a b d less (omega (arith, low_b, within)))
      | inr not_low ↦ elim (below_or_not i b) as (λ _. R (slice_index_or (insert xs i y) a d) (slice_index_or (insert xs i y) b d)) [
        | inl high_b ↦ elim (below_or_not a i) as (λ _. R (slice_index_or (insert xs i y) a d) (slice_index_or (insert xs i y) b d)) [
          | inl low_a ↦ subst₂ R (sym (low a low_a)) (sym (high b high_b)) (pairs a (b - 1) d (omega (arith, low_a, high_b)) (short b high_b fits))
          | inr not_low_a ↦ elim (below_or_not i a) as (λ _. R (slice_index_or (insert xs i y) a d) (slice_index_or (insert xs i y) b d)) [
            | inl high_a ↦ subst₂ R (sym (high a high_a)) (sym (high b high_b)) (pairs (a - 1) (b - 1) d (omega (arith, less, high_a)) (short b high_b fits))
            | inr mid_a ↦ subst₂ R (sym (mid a (omega (arith, mid_a, not_low_a)))) (sym (high b high_b)) (after (b - 1) d (omega (arith, high_b)) (short b high_b fits))
          ]
        ]
        | inr mid_b ↦ subst₂ R (sym (low a (omega (arith, less, mid_b)))) (sym (mid b (omega (arith, mid_b, not_low)))) (before a d (omega (arith, less, mid_b)))
      ]
    ]
  where
    low : (k : ℕ) → k < i → slice_index_or (insert xs i y) k d ≡ slice_index_or xs k d
    low k h = get_or-insert_below xs i y d k h within

    mid : (k : ℕ) → k ≡ i → slice_index_or (insert xs i y) k d ≡ y
    mid k e = ap (λ j. slice_index_or (insert xs i y) j d) e ∙ get_or-insert_at xs i y d within

    high : (k : ℕ) → i < k → slice_index_or (insert xs i y) k d ≡ slice_index_or xs (k - 1) d
    high k h =
        let e : k ≡ (k - 1) + 1 = omega (arith, h) in
        ap (λ j. slice_index_or (insert xs i y) j d) e ∙ get_or-insert_above xs i y d (k - 1) (omega (arith, h)) within

    short : (k : ℕ) → i < k → k < length (insert xs i y) → k - 1 < length xs
    short k h below_end = omega (arith, h, below_end, length-insert xs i y within)

-- what an insertion adds
pub adds_item : (items : List Item) (item : Item) (place : ℕ) → IsPlace items item.name place → AddsItem item items (insert items place item)
adds_item items item place is = record {
  ordered = λ ordered. all_pairs_insert (λ (x y : Item). slice_cmp nat_cmp x.name y.name ≡ Less) items place item is.within ordered is.below (after ordered);
  only = λ x among. ⊎_elim
      (λ front. inl (in_whole x (Contains-append_left (take place items) (drop place items) x front)))
      (λ rest. ⊎_elim (λ e. inr e) (λ back. inl (in_whole x (Contains-append_right (take place items) (drop place items) x back))) (first_or_more x (drop place items) rest))
      (Contains-append_cases (take place items) (item ∷ drop place items) x among);
  others = λ x among. ⊎_elim
      (λ front. Contains-append_left (take place items) (item ∷ drop place items) x front)
      (λ back. Contains-append_right (take place items) (item ∷ drop place items) x (further x (drop place items) back))
      (Contains-append_cases (take place items) (drop place items) x (subst (λ xs. Contains xs x) (sym (take-append-drop place items)) among));
  named = (item, Contains-append_right (take place items) (item ∷ drop place items) item (0, omega arith, refl), refl);
}
  where
    in_whole : (x : Item) → Contains (take place items ++ drop place items) x → Contains items x
    in_whole x among = subst (λ xs. Contains xs x) (take-append-drop place items) among

    first_or_more : (x : Item) (xs : List Item) → Contains (item ∷ xs) x → (x ≡ item) ⊎ Contains xs x
    first_or_more x xs (ℕ.zero, fits, e) = inl (sym e)
    first_or_more x xs (suc k, fits, e) = inr (k, omega (arith, fits), e)

    further : (x : Item) (xs : List Item) → Contains xs x → Contains (item ∷ xs) x
    further x xs among = (suc among.0, omega (arith, among.1), among.2)

    after : AreOrdered items → (k : ℕ) (d : Item) → place ≤ k → k < length items → slice_cmp nat_cmp item.name (slice_index_or items k d).name ≡ Less
    after ordered k d le fits = ⊎_elim
        (λ less. less_trans item.name (slice_index_or items place d).name (slice_index_or items k d).name
        (flipped (slice_index_or items place d).name item.name (is.above d (omega (arith, le, fits)))) (ordered place k d less fits))
        (λ not_less. let e : k ≡ place = omega (arith, le, not_less) in
        subst (λ j. slice_cmp nat_cmp item.name (slice_index_or items j d).name ≡ Less) (sym e) (flipped (slice_index_or items place d).name item.name (is.above d (omega (arith, le, fits)))))
        (below_or_not place k)

-- an item whose name is there adds nothing
pub adds_none : (items : List Item) (item : Item) → HasName items item.name → AddsItem item items items
adds_none items item named = record { ordered = λ ordered. ordered; only = λ x among. inl among; others = λ x among. among; named = named }

pub adds_nothing : (t : Table) (at : Path) (name : Part) (items : List Item) → kind_of (t (child at name)) ≡ Missing → AddsEntry t at name items items
adds_nothing t at name items none = record { ordered = λ ordered. ordered; right = λ right. right; others = λ x among. among; named = λ some. absurd (some none) }

pub adds_entry : (t : Table) (at : Path) (name : Part) (kind : Kind) (old new : List Item) → kind_of (t (child at name)) ≡ kind → kind ≢ Missing
    → AddsItem (record { name = name; kind = kind }) old new → AddsEntry t at name old new
adds_entry t at name kind old new is some adds = record {
  ordered = adds.ordered;
  right = λ right x among. ⊎_elim (right x)
      (λ e. subst (λ (y : Item). (y.kind ≢ Missing) × (kind_of (t (child at y.name)) ≡ y.kind)) (sym e) (some, is))
      (adds.only x among);
  others = adds.others;
  named = λ _. adds.named;
}

-- the gathered items are the listing, where each entry's name was among those that were looked at
pub listing_is : (bytes : ℕ → List ℕ) (t : Table) (at : Path) (items : List Item) → AreOrdered items → AreRight t at items
    → ((a : Part) → kind_of (t (child at a)) ≢ Missing → HasName items a) → IsListing (λ p. found bytes (t p)) at items
listing_is bytes t at items ordered right all = record {
  ordered = ordered;
  entries = λ x. (
    λ among. ((right x among).0, sym (kind_seen bytes (t (child at x.name))) ∙ (right x among).1),
    λ h.
        let kind : kind_of (t (child at x.name)) ≡ x.kind = kind_seen bytes (t (child at x.name)) ∙ h.1 in
        let there : HasName items x.name = all x.name (λ none. h.0 (sym kind ∙ none)) in
        let kinds : there.0.kind ≡ x.kind = sym (right there.0 there.1).1 ∙ ap (λ a. kind_of (t (child at a))) there.2 ∙ kind in
        let same : there.0 ≡ x = λ i. record { name = there.2 i; kind = kinds i } in
        subst (Contains items) same there.1,
  );
}
