-- The first item that differs, and the first further one.
use Rattle.std.proofs.Common.{◌≡◌, List, ◌∷◌, [], Option, Some, None, refl, ap, ◌∙◌}
use Rattle.vault_spec.specs.Plan.{Planned}
use Rattle.tree_match.specs.Comparing.{Outcome, Is, Stops, IsFault}
use Rattle.tree_match.specs.Matching.{by_item, by_other, first_differing, first_further, item_with}
use Rattle.tree_match.specs.declared.answer.How.{How}
use Rattle.tree_match.specs.declared.answer.Match.{Match}
use Rattle.tree_match.specs.declared.answer.Match.TheVariants.{Same, Contained, Differs}
use Rattle.tree_match.specs.declared.answer.MatchFault.{MatchFault}
use Rattle.tree_match.proofs.Fronts.{fault_map}

module _ (held : Planned → Outcome (Option How)) (last : Outcome Match) where
  one_more : (x : Planned) (xs : List Planned) (o : Outcome (Option How)) → held x ≡ o → first_differing held (x ∷ xs) last ≡ by_item x.path o (first_differing held xs last)
  unfolding first_differing
  one_more x xs o is = ap (λ (h : Outcome (Option How)). by_item x.path h (first_differing held xs last)) is

  pub holds_one : (x : Planned) (xs : List Planned) → held x ≡ Is None → first_differing held (x ∷ xs) last ≡ first_differing held xs last
  holds_one x xs is = one_more x xs (Is None) is

  pub differs_one : (x : Planned) (xs : List Planned) (how : How) → held x ≡ Is (Some how) → first_differing held (x ∷ xs) last ≡ Is (Differs x.path how)
  differs_one x xs how is = one_more x xs (Is (Some how)) is

  pub stops_one : (whole : Outcome Match) (x : Planned) (xs : List Planned) → whole ≡ first_differing held (x ∷ xs) last → (fault : MatchFault)
      → IsFault (λ at ending. held x ≡ Stops at ending) fault → IsFault (λ at ending. whole ≡ Stops at ending) fault
  stops_one whole x xs is fault h = fault_map (λ at ending cut e. is ∙ one_more x xs (Stops at ending) e) fault h

  pub holds_none : first_differing held [] last ≡ last
  unfolding first_differing
  holds_none = refl

module _ (items : List Planned) where
  pub further_found : (x y : Planned) (xs : List Planned) → item_with x.path items ≡ Some y → first_further items (x ∷ xs) ≡ first_further items xs
  unfolding first_further
  further_found x y xs is = ap (λ (o : Option Planned). by_other x.path o (first_further items xs)) is

  pub further_none : (x : Planned) (xs : List Planned) → item_with x.path items ≡ None → first_further items (x ∷ xs) ≡ Contained x.path
  unfolding first_further
  further_none x xs is = ap (λ (o : Option Planned). by_other x.path o (first_further items xs)) is

  pub further_end : first_further items [] ≡ Same
  unfolding first_further
  further_end = refl
