-- Entries by their texts, in either format: a text of at most so many characters is the entry's name, and a longer one stands in the
-- long-name file of an entry that is named by it.
use Rattle.std.proofs.Common.{◌≡◌, ◌≢◌, ◌⊎◌, ℕ, true, false, List, cond, refl, sym, ap, ◌∙◌, inl, inr, Some, None, is_some, length, nat_le, bytes_eq, if◌then◌else◌}
use Rattle.std.proofs.lemmas.Slice.Eq.{bytes_eq-Decides}
use Rattle.vault_names.specs.declared.entry.Stored.{Stored}

abbrev pub short_entry : List ℕ → Stored
short_entry text = record { name = text; full = None }

abbrev pub long_entry : (List ℕ → List ℕ) → List ℕ → Stored
long_entry named text = record { name = named text; full = Some text }

abbrev pub entry_by : (List ℕ → List ℕ) → ℕ → List ℕ → Stored
entry_by named limit text = if nat_le (length text) limit then short_entry text else long_entry named text

abbrev pub IsShortOrLong : (List ℕ → List ℕ) → ℕ → List ℕ → Type 0
IsShortOrLong named limit text = (entry_by named limit text ≡ short_entry text) ⊎ (entry_by named limit text ≡ long_entry named text)

pub entry_is : (named : List ℕ → List ℕ) (limit : ℕ) (text : List ℕ) → IsShortOrLong named limit text
entry_is named limit text =
    elim (nat_le (length text) limit) as (λ b. (cond b (short_entry text) (long_entry named text) ≡ short_entry text) ⊎ (cond b (short_entry text) (long_entry named text) ≡ long_entry named text)) [
      | true ↦ inl refl
      | false ↦ inr refl
    ]

-- one entry is of one text
pub one_text : (named : List ℕ → List ℕ) (limit : ℕ) (text other : List ℕ) → entry_by named limit text ≡ entry_by named limit other → text ≡ other
one_text named limit text other e = by_forms (entry_is named limit text) (entry_is named limit other)
  where
    by_forms : IsShortOrLong named limit text → IsShortOrLong named limit other → text ≡ other
    by_forms (inl a) (inl b) = ap (λ (s : Stored). s.name) (sym a ∙ e ∙ b)
    by_forms (inl a) (inr b) = let fulls : None ≡ Some other = ap (λ (s : Stored). s.full) (sym a ∙ e ∙ b) in cc
    by_forms (inr a) (inl b) = let fulls : Some text ≡ None = ap (λ (s : Stored). s.full) (sym a ∙ e ∙ b) in cc
    by_forms (inr a) (inr b) = let fulls : Some text ≡ Some other = ap (λ (s : Stored). s.full) (sym a ∙ e ∙ b) in cc

-- names of one entry are both long or both short, where no text is a long entry's name
pub same_forms : (named : List ℕ → List ℕ) (limit : ℕ) (text other : List ℕ) → text ≢ named other → other ≢ named text
    → (entry_by named limit text).name ≡ (entry_by named limit other).name → is_some (entry_by named limit text).full ≡ is_some (entry_by named limit other).full
same_forms named limit text other apart apart_too e = by_forms (entry_is named limit text) (entry_is named limit other)
  where
    by_forms : IsShortOrLong named limit text → IsShortOrLong named limit other → is_some (entry_by named limit text).full ≡ is_some (entry_by named limit other).full
    by_forms (inl a) (inl b) = ap (λ (s : Stored). is_some s.full) a ∙ sym (ap (λ (s : Stored). is_some s.full) b)
    by_forms (inr a) (inr b) = ap (λ (s : Stored). is_some s.full) a ∙ sym (ap (λ (s : Stored). is_some s.full) b)
    by_forms (inl a) (inr b) = absurd (apart (ap (λ (s : Stored). s.name) (sym a) ∙ e ∙ ap (λ (s : Stored). s.name) b))
    by_forms (inr a) (inl b) = absurd (apart_too (ap (λ (s : Stored). s.name) (sym b) ∙ sym e ∙ ap (λ (s : Stored). s.name) a))

-- texts that aren't equal are told apart
pub differ : (a b : List ℕ) → a ≢ b → bytes_eq a b ≡ false
differ a b apart = elim (bytes_eq a b) as (λ t. bytes_eq a b ≡ t → t ≡ false) [
  | true ↦ λ e. absurd (apart ((bytes_eq-Decides a b).0 e))
  | false ↦ λ e. refl
] refl
