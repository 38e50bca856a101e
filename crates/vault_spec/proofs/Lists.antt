-- A directory has one list.
use Rattle.std.proofs.Common.{◌≡◌, ◌⊎◌, inl, inr, ℕ, zero, suc, ◌<◌, List, [], ◌∷◌, true, false, length, get_or, refl, sym, ap, ◌∙◌, subst, arith}
use Rattle.std.specs.Prelude.{AllPairs, Contains}
use Rattle.std.specs.Ordering.{is_eq, ordering_reverse}
use Rattle.std.specs.Str.{bytes_eq}
use Rattle.std.specs.declared.cmp.Ordering.TheVariants.{Less, Greater}
use Rattle.std.proofs.lemmas.Cmp.{nat_list_cmp_total}
use Rattle.std.proofs.lemmas.Map.Text.{is_eq-slice_cmp}
use Rattle.std.proofs.lemmas.Slice.Eq.{bytes_eq-Decides}
use Rattle.folder_spec.specs.View.{View}
use Rattle.plain_tree.specs.Order.{name_cmp}
use Rattle.vault_spec.specs.Format.{Format, Directory}
use Rattle.vault_spec.specs.Listing.{Listed, AreListed}

abbrev IsBefore : Listed → Listed → Type 0
IsBefore x y = name_cmp x.name y.name ≡ Less

not_itself : (x : Listed) → IsBefore x x → ⊥
not_itself x less =
    let equal : bytes_eq x.name x.name ≡ true = (bytes_eq-Decides x.name x.name).1 refl in
    let clash : true ≡ false = sym equal ∙ sym (is_eq-slice_cmp x.name x.name) ∙ ap is_eq less in cc

not_both : (x y : Listed) → IsBefore x y → IsBefore y x → ⊥
not_both x y less more =
    let clash : Less ≡ Greater = sym less ∙ nat_list_cmp_total.antisymm x.name y.name ∙ ap ordering_reverse more in cc

contained : (y : Listed) (ys : List Listed) (x : Listed) → Contains (y ∷ ys) x → (y ≡ x) ⊎ Contains ys x
contained y ys x there = by_place there.0 there.1 there.2
  where
    by_place : (k : ℕ) → k < length (y ∷ ys) → get_or (y ∷ ys) k x ≡ x → (y ≡ x) ⊎ Contains ys x
    by_place zero within e = inl e
    by_place (suc k) within e = inr (k, omega (arith, within), e)

later : (y : Listed) (ys : List Listed) (x : Listed) → Contains ys x → Contains (y ∷ ys) x
later y ys x there = let within : there.0 < length ys = there.1 in (suc there.0, omega (arith, within), there.2)

first : (y : Listed) (ys : List Listed) → Contains (y ∷ ys) y
first y ys = (0, omega arith, refl)

before_rest : (x : Listed) (xs : List Listed) → AllPairs IsBefore (x ∷ xs) → (y : Listed) → Contains xs y → IsBefore x y
before_rest x xs all y there =
    let within : there.0 < length xs = there.1 in
    subst (IsBefore x) there.2 (all 0 (suc there.0) y (omega arith) (omega (arith, within)))

rest_ordered : (x : Listed) (xs : List Listed) → AllPairs IsBefore (x ∷ xs) → AllPairs IsBefore xs
rest_ordered x xs all i j d less within = all (suc i) (suc j) d (omega (arith, less)) (omega (arith, within))

abbrev AreAmong : List Listed → List Listed → Type 0
AreAmong xs ys = (x : Listed) → Contains xs x → Contains ys x

same_first : (x : Listed) (xs : List Listed) (y : Listed) (ys : List Listed) → AllPairs IsBefore (x ∷ xs) → AllPairs IsBefore (y ∷ ys)
    → AreAmong (x ∷ xs) (y ∷ ys) → AreAmong (y ∷ ys) (x ∷ xs) → y ≡ x
same_first x xs y ys up up' there back = by_places (contained y ys x (there x (first x xs))) (contained x xs y (back y (first y ys)))
  where
    by_places : (y ≡ x) ⊎ Contains ys x → (x ≡ y) ⊎ Contains xs y → y ≡ x
    by_places (inl e) other = e
    by_places (inr behind) (inl e) = sym e
    by_places (inr behind) (inr behind') = absurd (not_both x y (before_rest x xs up y behind') (before_rest y ys up' x behind))

rest_among : (x : Listed) (xs : List Listed) (y : Listed) (ys : List Listed) → AllPairs IsBefore (x ∷ xs) → y ≡ x → AreAmong (x ∷ xs) (y ∷ ys) → AreAmong xs ys
rest_among x xs y ys up same there z among = by_place (contained y ys z (there z (later x xs z among)))
  where
    by_place : (y ≡ z) ⊎ Contains ys z → Contains ys z
    by_place (inr behind) = behind
    by_place (inl e) = absurd (not_itself x (subst (IsBefore x) (sym e ∙ same) (before_rest x xs up z among)))

one_order : (xs ys : List Listed) → AllPairs IsBefore xs → AllPairs IsBefore ys → AreAmong xs ys → AreAmong ys xs → xs ≡ ys
one_order [] [] up up' there back = refl
one_order [] (y ∷ ys) up up' there back = let none = back y (first y ys) in absurd (omega (arith, none.1))
one_order (x ∷ xs) [] up up' there back = let none = there x (first x xs) in absurd (omega (arith, none.1))
one_order (x ∷ xs) (y ∷ ys) up up' there back =
    let same : y ≡ x = same_first x xs y ys up up' there back in
    let rest : xs ≡ ys = one_order xs ys (rest_ordered x xs up) (rest_ordered y ys up') (rest_among x xs y ys up same there) (rest_among y ys x xs up' (sym same) back) in
    ap (λ l. x ∷ l) rest ∙ ap (λ z. z ∷ ys) (sym same)

pub one_list : (f : Format) (v : View) (dir : Directory) (items other : List Listed) → AreListed f v dir items → AreListed f v dir other → items ≡ other
one_list f v dir items other listed listed' =
    one_order items other listed.ordered listed'.ordered
    (λ item there. (listed'.items item).1 ((listed.items item).0 there)) (λ item there. (listed.items item).1 ((listed'.items item).0 there))
