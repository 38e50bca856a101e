-- The names of the demonstration's items are names. They are ASCII, and so in Unicode's normalization form C.
use Rattle.std.proofs.Common.{◌≡◌, ◌≢◌, ◌∙◌, ◌+◌, ◌/◌, ◌%◌, ◌<◌, ℕ, zero, suc, Bool, true, false, cond, nat_eq, List, [], ◌∷◌, ◌++◌, codes, replicate, Contains, inl, inr, IsTrue, sym, ap, subst, arith}
use Rattle.std.specs.Str.{IsAscii, IsUtf8, chars}
use Rattle.std.proofs.lemmas.List.Elements.{Contains-push_cases}
use Rattle.std.proofs.lemmas.Str.{IsUtf8-from_ascii, chars-encodes, encodes-IsAscii, encodes_same}
use Rattle.std.proofs.lemmas.Str.Ascii.{All-from_ascii, IsAscii-cons, IsAscii-nil, IsAscii-push}
use Rattle.unicode_normalization.proofs.FormsLemmas.{normalize-ascii}
use Rattle.unicode_normalization.specs.Forms.{IsInForm}
use Rattle.unicode_normalization.specs.declared.Form.TheVariants.{Nfc}
use Rattle.plain_tree.specs.Names.{IsNfc, Path, is_name}
use Rattle.vault_spec.specs.Format.{Format}
use Rattle.vault_spec.specs.Making.{Allows}
use Rattle.vault_spec.specs.Opens.{NoItem, Tree}
use Rattle.demo_core.specs.Demonstration.{digits, directory_name, directory_path, file_name, is_directory, path_of}
use Rattle.demo_core.specs.Tree.{HasItems}
use Rattle.demo_core.proofs.Naming.{is_name-directory, is_name-file}
use Rattle.demo_core.proofs.Numbered.{number_at}

-- ---- ASCII

ascii_append : (xs ys : List ℕ) → IsAscii xs → IsAscii ys → IsAscii (xs ++ ys)
ascii_append [] ys front back = back
ascii_append (x ∷ xs) ys front back = IsAscii-cons x (xs ++ ys) (front 0) (ascii_append xs ys (λ i. front (suc i)) back)

ascii_digits : (count n : ℕ) → IsAscii (digits count n)
ascii_digits zero n = IsAscii-nil
ascii_digits (suc count) n = IsAscii-push (digits count (n / 10)) (48 + n % 10) (ascii_digits count (n / 10)) (omega arith)

ascii_x : (count : ℕ) → IsAscii (replicate count 120)
ascii_x zero = IsAscii-nil
ascii_x (suc count) = IsAscii-cons 120 (replicate count 120) (omega arith) (ascii_x count)

ascii_directory : (count : ℕ) → IsAscii (directory_name count)
ascii_directory count = ascii_append (codes "dir") (digits 4 count) dir (ascii_digits 4 count)
  where
    dir : IsAscii (codes "dir")
    dir = IsAscii-cons 100 (codes "ir") (omega arith) (IsAscii-cons 105 (codes "r") (omega arith) (IsAscii-cons 114 [] (omega arith) IsAscii-nil))

ascii_file : (number : ℕ) → IsAscii (file_name number)
ascii_file number = ascii_append (codes "file") (digits 6 number ++ cond (nat_eq (number % 25) 7) (replicate 180 120) []) file (ascii_append (digits 6 number) (cond (nat_eq (number % 25) 7) (replicate 180 120) []) (ascii_digits 6 number) (end (nat_eq (number % 25) 7)))
  where
    file : IsAscii (codes "file")
    file = IsAscii-cons 102 (codes "ile") (omega arith) (IsAscii-cons 105 (codes "le") (omega arith) (IsAscii-cons 108 (codes "e") (omega arith) (IsAscii-cons 101 [] (omega arith) IsAscii-nil)))

    end : (b : Bool) → IsAscii (cond b (replicate 180 120) [])
    end true = ascii_x 180
    end false = IsAscii-nil

nfc_ascii : (name : List ℕ) → IsAscii name → IsNfc name
nfc_ascii name ascii =
    let utf8 : IsUtf8 name = IsUtf8-from_ascii name ascii in
    let same : chars name ≡ name = ap chars (sym utf8.1.1) ∙ chars-encodes utf8.0 utf8.1.0 ∙ encodes_same utf8.0 name (utf8.1.1 ∙ sym (encodes-IsAscii name ascii)) in
    (utf8, subst (λ cs. IsInForm Nfc cs) (sym same) (normalize-ascii Nfc name (All-from_ascii name ascii)))

-- ---- names of items

module _ (P : List ℕ → Type 0) (directories : (k : ℕ) → P (directory_name k)) (files : (number : ℕ) → P (file_name number)) where
  in_directory : (k : ℕ) (name : List ℕ) → Contains (directory_path k) name → P name
  in_directory zero name there = elim (Contains-push_cases [] (directory_name zero) name there) [
    | inl none ↦ let less : none.0 < 0 = none.1 in absurd (omega (arith, less))
    | inr last ↦ subst P last (directories zero)
  ]
  in_directory (suc k) name there = by (nat_eq (suc k % 4) 0) (in_directory k name) there
    where
      by : (b : Bool) → (Contains (directory_path k) name → P name) → Contains (cond b [] (directory_path k) ++ directory_name (suc k) ∷ []) name → P name
      by true above here = elim (Contains-push_cases [] (directory_name (suc k)) name here) [
        | inl none ↦ let less : none.0 < 0 = none.1 in absurd (omega (arith, less))
        | inr last ↦ subst P last (directories (suc k))
      ]
      by false above here = elim (Contains-push_cases (directory_path k) (directory_name (suc k)) name here) [
        | inl front ↦ above front
        | inr last ↦ subst P last (directories (suc k))
      ]

  in_item : (number : ℕ) (name : List ℕ) → Contains (path_of number) name → P name
  in_item number name there = by (is_directory number) there
    where
      by : (b : Bool) → Contains (cond b (directory_path (number / 10)) (directory_path (number / 10) ++ file_name number ∷ [])) name → P name
      by true here = in_directory (number / 10) name here
      by false here = elim (Contains-push_cases (directory_path (number / 10)) (file_name number) name here) [
        | inl front ↦ in_directory (number / 10) name front
        | inr last ↦ subst P last (files number)
      ]

  in_tree : (seed count : ℕ) (t : Tree) → HasItems seed count t → (path : Path) (name : List ℕ) → t path ≢ NoItem → Contains path name → P name
  in_tree seed count t has path name opens there =
      let item = number_at seed count t has path (some path there) opens in
      in_item item.0 name (subst (λ p. Contains p name) item.2 there)
    where
      some : (path : Path) → Contains path name → path ≢ []
      some [] there = let less : there.0 < 0 = there.1 in absurd (omega (arith, less))
      some (a ∷ rest) there = λ e. cc e

pub allowed : (f : Format) (seed count : ℕ) (t : Tree) → HasItems seed count t → (path : Path) (name : List ℕ) → t path ≢ NoItem → Contains path name → Allows f name
allowed f seed count t has path name opens there needs = nfc_ascii name (in_tree IsAscii ascii_directory ascii_file seed count t has path name opens there)

pub named : (seed count : ℕ) (t : Tree) → HasItems seed count t → (path : Path) (name : List ℕ) → t path ≢ NoItem → Contains path name → IsTrue (is_name name)
named = in_tree (λ name. IsTrue (is_name name)) is_name-directory is_name-file
