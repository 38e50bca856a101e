-- What rules make of names and of paths.
use Rattle.std.proofs.Common.{◌≡◌, ◌≢◌, ℕ, zero, suc, ◌+◌, ◌<◌, ◌≤◌, Bool, true, false, cond, ◌&&◌, IsTrue, List, [], ◌∷◌, ◌++◌, map, length, take, get_or, Some, None, Decides, refl, arith, sym, ap, ap₂, ◌∙◌, subst, encode_utf8_all}
use Rattle.std.specs.Prelude.{AllPairs}
use Rattle.std.specs.Cmp.{IsTotalOrder}
use Rattle.std.specs.List.{list_all}
use Rattle.std.specs.Cmp.Lexicographic.{bytes_decides, pointwise_decides, lists_total, nat_list_cmp_total}
use Rattle.std.specs.FinMap.{slice_cmp-IsAntisymmetric, nat_cmp-IsAntisymmetric}
use Rattle.std.specs.Ordering.{ordering_reverse}
use Rattle.std.specs.Str.{IsUtf8, is_utf8, chars}
use Rattle.std.specs.declared.cmp.Ordering.{Ordering}
use Rattle.std.specs.declared.cmp.Ordering.TheVariants.{Less, Equal, Greater}
use Rattle.std.proofs.lemmas.Str.{is_utf8-from_IsUtf8, IsUtf8-from_is_utf8, chars-encodes, chars_from_encodes, encodes-chars}
use Rattle.std.proofs.lemmas.Bool.Decides.{same_from_decides}
use Rattle.std.proofs.lemmas.List.{map_more, take_all}
use Rattle.std.proofs.lemmas.List.Folds.{list_all-append}
use Rattle.std.proofs.lemmas.Map.Keys.{IsDistinct-IsPermutation}
use Rattle.std.proofs.lemmas.Map.Made.{AllPairs-from_IsDistinct, IsDistinct-from_AllPairs}
use lib.Utf8.{scalars}
use Rattle.unicode_normalization.specs.Forms.{nfc}
use Rattle.unicode_normalization.proofs.FormsLemmas.{nfc_idem}
use Rattle.plain_tree.specs.Names.{Path, IsNfc, is_name}
use Rattle.plain_tree.specs.Order.{path_cmp, path_eq}
use Rattle.plain_tree.specs.Mapped.{AreMapped, StayApart, mapped_name, mapped_path}
use Rattle.plain_tree.specs.declared.name_map.NameMap.{NameMap}
use Rattle.plain_tree.specs.declared.name_map.NameMap.TheVariants.{Same, Nfc}
use Rattle.plain_tree.proofs.Scalars.{scalars-nfc}

pub same_name : (name : List ℕ) → mapped_name Same name ≡ name
unfolding mapped_name
same_name name = refl

pub same_path : (path : Path) → mapped_path Same path ≡ path
same_path [] = refl
same_path (name ∷ path) = ap₂ (λ (n : List ℕ) (p : Path). n ∷ p) (same_name name) (same_path path)

pub nfc_of_text : (name : List ℕ) → IsUtf8 name → mapped_name Nfc name ≡ encode_utf8_all (nfc (chars name))
unfolding mapped_name
nfc_of_text name utf8 = rw (is_utf8-from_IsUtf8 name utf8) refl

by_test : (test : Bool) (text bytes : List ℕ) → (test ≡ true → ⊥) → cond test text bytes ≡ bytes
by_test true text bytes not = absurd (not refl)
by_test false text bytes not = refl

pub nfc_of_bytes : (name : List ℕ) → ¬ IsUtf8 name → mapped_name Nfc name ≡ name
unfolding mapped_name
nfc_of_bytes name not = by_test (is_utf8 name) _ name (λ test. not (IsUtf8-from_is_utf8 name test))

comes_to_nfc : (name : List ℕ) → IsUtf8 name → IsNfc (encode_utf8_all (nfc (chars name)))
comes_to_nfc name utf8 =
    let own : scalars (chars name) ≡ true = ap scalars (sym (chars_from_encodes utf8.0 name utf8 utf8.1.1)) ∙ utf8.1.0 in
    let all_ : scalars (nfc (chars name)) ≡ true = scalars-nfc (chars name) own in
    let back : chars (encode_utf8_all (nfc (chars name))) ≡ nfc (chars name) = chars-encodes (nfc (chars name)) all_ in
    ((nfc (chars name), (all_, refl)), ap nfc back ∙ nfc_idem (chars name) ∙ sym back)

pub nfc_from_text : (name : List ℕ) → IsUtf8 name → IsNfc (mapped_name Nfc name)
nfc_from_text name utf8 = subst IsNfc (sym (nfc_of_text name utf8)) (comes_to_nfc name utf8)

pub text_from_nfc : (name : List ℕ) → IsNfc (mapped_name Nfc name) → IsUtf8 name
text_from_nfc name h = by (is_utf8 name) refl
  where
    by : (test : Bool) → is_utf8 name ≡ test → IsUtf8 name
    by true e = IsUtf8-from_is_utf8 name e
    by false e =
        let not : ¬ IsUtf8 name = λ utf8. let yes_ : is_utf8 name ≡ true = is_utf8-from_IsUtf8 name utf8 in cc in
        subst IsUtf8 (nfc_of_bytes name not) h.0

pub nfc_stays : (name : List ℕ) → IsNfc name → mapped_name Nfc name ≡ name
nfc_stays name h = nfc_of_text name h.0 ∙ ap encode_utf8_all h.1 ∙ encodes-chars name h.0

pub name_stays : (names : NameMap) (name : List ℕ) → mapped_name names (mapped_name names name) ≡ mapped_name names name
name_stays Same name = same_name (mapped_name Same name)
name_stays Nfc name = by (is_utf8 name) refl
  where
    by : (test : Bool) → is_utf8 name ≡ test → mapped_name Nfc (mapped_name Nfc name) ≡ mapped_name Nfc name
    by true e = nfc_stays (mapped_name Nfc name) (nfc_from_text name (IsUtf8-from_is_utf8 name e))
    by false e =
        let not : ¬ IsUtf8 name = λ utf8. let yes_ : is_utf8 name ≡ true = is_utf8-from_IsUtf8 name utf8 in cc in
        ap (mapped_name Nfc) (nfc_of_bytes name not)

pub path_stays : (names : NameMap) (path : Path) → mapped_path names (mapped_path names path) ≡ mapped_path names path
path_stays names [] = refl
path_stays names (name ∷ path) = ap₂ (λ (n : List ℕ) (p : Path). n ∷ p) (name_stays names name) (path_stays names path)

-- ---- what becomes of names

pub same_found : (names : NameMap) (name new : List ℕ) → names ≡ Same → IsTrue (is_name name) → new ≡ name → Some new ≡ cond (is_name (mapped_name names name)) (Some (mapped_name names name)) None
unfolding mapped_name
same_found Same name new e named same = ap Some same ∙ ap (λ (b : Bool). cond b (Some name) None) (sym named)
same_found Nfc name new e named same = cc e

and_false : (a : Bool) → (a && false) ≡ false
and_false true = refl
and_false false = refl

not_all : (names : NameMap) (path : Path) (k : ℕ) (x : List ℕ) → k < length path → x ≡ get_or path k x → is_name (mapped_name names x) ≡ false → list_all is_name (mapped_path names path) ≡ false
not_all names [] k x few is fails = absurd (omega arith)
not_all names (name ∷ path) zero x few is fails =
    ap (λ (n : List ℕ). is_name (mapped_name names n) && list_all is_name (mapped_path names path)) (sym is) ∙ ap (λ (b : Bool). b && list_all is_name (mapped_path names path)) fails
not_all names (name ∷ path) (suc k) x few is fails =
    ap (λ (b : Bool). is_name (mapped_name names name) && b) (not_all names path k x (omega arith) is fails) ∙ and_false (is_name (mapped_name names name))

-- one that is no name makes the path none
pub unnamed : (names : NameMap) (path : Path) (k : ℕ) (x : List ℕ) → k < length path → x ≡ get_or path k x
    → None ≡ cond (is_name (mapped_name names x)) (Some (mapped_name names x)) None → None ≡ cond (list_all is_name (mapped_path names path)) (Some (mapped_path names path)) None
unnamed names path k x few is none = by (is_name (mapped_name names x)) refl none
  where
    by : (b : Bool) → is_name (mapped_name names x) ≡ b → None ≡ cond b (Some (mapped_name names x)) None → None ≡ cond (list_all is_name (mapped_path names path)) (Some (mapped_path names path)) None
    by true e none = cc none
    by false e none = ap (λ (b : Bool). cond b (Some (mapped_path names path)) None) (sym (not_all names path k x few is e))

-- one more that is a name
pub named_more : (names : NameMap) (path before after : Path) (k : ℕ) (x new : List ℕ) → k < length path → x ≡ get_or path k x
    → Some new ≡ cond (is_name (mapped_name names x)) (Some (mapped_name names x)) None → before ≡ mapped_path names (take k path) → list_all is_name before ≡ true
    → after ≡ before ++ new ∷ [] → (after ≡ mapped_path names (take (k + 1) path)) × (list_all is_name after ≡ true)
named_more names path before after k x new few is some mapped named grown = by (is_name (mapped_name names x)) refl some
  where
    by : (b : Bool) → is_name (mapped_name names x) ≡ b → Some new ≡ cond b (Some (mapped_name names x)) None → (after ≡ mapped_path names (take (k + 1) path)) × (list_all is_name after ≡ true)
    by true e some =
        let same : new ≡ mapped_name names x = cc some in (
          grown ∙ ap₂ (λ (p : Path) (n : List ℕ). p ++ n ∷ []) mapped (same ∙ ap (mapped_name names) is) ∙ sym (map_more (mapped_name names) path k x few),
          ap (list_all is_name) grown ∙ list_all-append is_name before (new ∷ []) ∙ ap₂ (λ (a b : Bool). a && (b && true)) named (ap is_name same ∙ e),
        )
    by false e some = cc some

-- all are names
pub all_named : (names : NameMap) (path mapped : Path) (k : ℕ) → length path ≤ k → mapped ≡ mapped_path names (take k path) → list_all is_name mapped ≡ true
    → Some mapped ≡ cond (list_all is_name (mapped_path names path)) (Some (mapped_path names path)) None
all_named names path mapped k long is named =
    let whole : mapped ≡ mapped_path names path = is ∙ ap (mapped_path names) (take_all k path long) in
    ap Some whole ∙ ap (λ (b : Bool). cond b (Some (mapped_path names path)) None) (sym (ap (list_all is_name) (sym whole) ∙ named))

-- ---- paths in order

order : IsTotalOrder path_cmp
order = lists_total nat_list_cmp_total

-- a path that isn't after another one is before it or equal to it
before_from : (p q : Path) → path_cmp q p ≢ Less → p ≢ q → path_cmp p q ≡ Less
before_from p q late other = by (path_cmp p q) refl
  where
    by : (o : Ordering) → path_cmp p q ≡ o → path_cmp p q ≡ Less
    by Less e = e
    by Equal e = absurd (other (slice_cmp-IsAntisymmetric (slice_cmp-IsAntisymmetric nat_cmp-IsAntisymmetric) p q e))
    by Greater e = absurd (late (order.antisymm q p ∙ ap ordering_reverse e))

path_decides : (p q : Path) → Decides (path_eq p q) (p ≡ q)
path_decides = pointwise_decides bytes_decides

path_eq_flips : (p q : Path) → path_eq p q ≡ path_eq q p
path_eq_flips p q =
    let other = path_decides q p in same_from_decides (path_eq p q) (path_eq q p) (path_decides p q) (λ e. sym (other.0 e), λ e. other.1 (sym e))

pub in_order : (names : NameMap) (paths mapped : List Path) → StayApart names paths → AreMapped names paths mapped → AllPairs (λ (p q : Path). path_cmp p q ≡ Less) mapped
in_order names paths mapped stay h =
    let before_ = map (mapped_path names) paths in
    let distinct = IsDistinct-IsPermutation path_eq path_eq_flips before_ mapped h.same (IsDistinct-from_AllPairs path_decides before_ stay) in
    let apart = AllPairs-from_IsDistinct path_decides mapped distinct in
    λ i j d before few. before_from (get_or mapped i d) (get_or mapped j d) (h.ordered i j d before few) (apart i j d before few)
