-- What form C makes of characters are characters.
use Rattle.std.proofs.Common.{◌≡◌, ℕ, ◌+◌, ◌-◌, ◌/◌, ◌%◌, ◌==◌, Bool, true, false, List, [], ◌∷◌, Option, Some, refl, sym, ap, ◌∙◌, arith, inl, inr, cond, ◌&&◌}
use Rattle.std.specs.List.{list_all}
use Rattle.std.proofs.lemmas.Bool.{cases_Bool, cases_eq, and_parts, and_from}
use lib.Utf8.{scalar, scalars, low_scalar}
use Rattle.ucd_table.proofs.Computing.{tables}
use Rattle.ucd_table.proofs.RangedFacts.{values_ok, Stepped-at_values}
use Rattle.ucd_normal.specs.Composition.{paired_with}
use Rattle.ucd_normal.specs.Compositions.{compositions}
use Rattle.ucd_normal.specs.Decomposition.{canonical_decomposition, or_itself}
use Rattle.ucd_normal.specs.declared.forms.Form.TheVariants.{Nfc}
use Rattle.ucd_normal.proofs.CompositionLemmas.{IsCompositeOf-composite, composite-paired_with}
use Rattle.ucd_normal.proofs.CompositionsLemmas.{compositions_stepped}
use Rattle.ucd_normal.proofs.DecompositionLemmas.{canonical_decomposition_stepped}
use Rattle.unicode_normalization.specs.Compose.{primary_composite}
use Rattle.unicode_normalization.specs.Decompose.{decompose}
use Rattle.unicode_normalization.specs.Forms.{nfc}
use Rattle.unicode_normalization.specs.Hangul.{is_syllable}
use Rattle.unicode_normalization.proofs.DecomposeLemmas.{decompose-syllable, decompose-other, primary_composite-some}
use Rattle.unicode_normalization.proofs.HangulLemmas.{is_syllable-true, decompose_hangul-two, decompose_hangul-three}
use Rattle.unicode_normalization.proofs.KeptLemmas.{list_all-normalize}
use Rattle.unicode_normalization.proofs.TableFacts.{table_of-full}

-- all that the tables give are characters
parts_are_scalar : (c : ℕ) → list_all scalar (canonical_decomposition c) ≡ true
unfolding tables values_ok canonical_decomposition_stepped
parts_are_scalar c = Stepped-at_values canonical_decomposition canonical_decomposition_stepped (list_all scalar) refl c

made_are_scalar : (c : ℕ) → list_all scalar (compositions c) ≡ true
unfolding tables values_ok compositions_stepped
made_are_scalar c = Stepped-at_values compositions compositions_stepped (list_all scalar) refl c

or_itself_scalar : (c : ℕ) (parts : List ℕ) → scalar c ≡ true → list_all scalar parts ≡ true → list_all scalar (or_itself c parts) ≡ true
or_itself_scalar c [] own all_ = and_from _ _ own refl
or_itself_scalar c (x ∷ parts) own all_ = all_

decomposed_scalar : (c : ℕ) → scalar c ≡ true → list_all scalar (decompose Nfc c) ≡ true
decomposed_scalar c own =
    elim (cases_Bool (is_syllable c)) [
      | inl syllable ↦
          let range = is_syllable-true c syllable in
          let l = low_scalar (0x1100 + (c - 0xAC00) / 588) (omega (arith, range.0, range.1)) in
          let v = low_scalar (0x1161 + (c - 0xAC00) % 588 / 28) (omega arith) in
          let t = low_scalar (0x11A7 + (c - 0xAC00) % 28) (omega arith) in
          ap (list_all scalar) (decompose-syllable Nfc c syllable)
          ∙ elim (cases_eq ((c - 0xAC00) % 28) 0) [
            | inl two ↦ ap (list_all scalar) (decompose_hangul-two c two) ∙ and_from _ _ l (and_from _ _ v refl)
            | inr three ↦ ap (list_all scalar) (decompose_hangul-three c three) ∙ and_from _ _ l (and_from _ _ v (and_from _ _ t refl))
          ]
      | inr other ↦
          ap (list_all scalar) (decompose-other Nfc c other ∙ ap (or_itself c) (sym (table_of-full Nfc c)))
          ∙ or_itself_scalar c (canonical_decomposition c) own (parts_are_scalar c)
    ]

by_pair : (test : Bool) (q p : ℕ) (later : Option ℕ) → scalar q ≡ true → (later ≡ Some p → scalar p ≡ true) → cond test (Some q) later ≡ Some p → scalar p ≡ true
by_pair true q p later own more e = let same : q ≡ p = cc e in ap scalar (sym same) ∙ own
by_pair false q p later own more e = more e

paired_scalar : (b : ℕ) (pairs : List ℕ) (p : ℕ) → list_all scalar pairs ≡ true → paired_with b pairs ≡ Some p → scalar p ≡ true
unfolding paired_with
paired_scalar b [] p all_ h = cc h
paired_scalar b (x ∷ []) p all_ h = cc h
paired_scalar b (x ∷ q ∷ rest) p all_ h =
    let parts = and_parts (scalar x) (list_all scalar (q ∷ rest)) all_ in
    let more = and_parts (scalar q) (list_all scalar rest) parts.1 in
    by_pair (x == b) q p (paired_with b rest) more.0 (paired_scalar b rest p more.1) h

composed_scalar : (a b c : ℕ) → scalar a ≡ true → scalar b ≡ true → primary_composite a b ≡ Some c → scalar c ≡ true
composed_scalar a b c first second h =
    elim (primary_composite-some a b c h) [
      | inl hangul ↦ elim hangul [ inl lv ↦ low_scalar c (omega arith) | inr lvt ↦ low_scalar c (omega arith) ]
      | inr table ↦ paired_scalar b (compositions a) c (made_are_scalar a) (sym (composite-paired_with a b) ∙ IsCompositeOf-composite a b c table)
    ]

all_scalars : (cs : List ℕ) → scalars cs ≡ list_all scalar cs
all_scalars [] = refl
all_scalars (c ∷ cs) = ap (λ b. scalar c && b) (all_scalars cs)

pub scalars-nfc : (cs : List ℕ) → scalars cs ≡ true → scalars (nfc cs) ≡ true
scalars-nfc cs h =
    all_scalars (nfc cs) ∙ list_all-normalize Nfc scalar decomposed_scalar composed_scalar cs (sym (all_scalars cs) ∙ h)
