-- The entries of a directory are removed one after the other.
use Rattle.std.proofs.Common.{◌≡◌, ◌≢◌, ◌⊎◌, ℕ, suc, ◌<◌, ◌≤◌, ◌+◌, true, false, List, [], ◌∷◌, ◌++◌, length, Option, Some, None, Ok, Err, refl, sym, ap, ◌∙◌, subst, inl, inr, arith, append_assoc, slice_index_or, Contains, bytes_eq}
use Rattle.std.specs.Cmp.Lexicographic.{slice_cmp, nat_list_cmp_total}
use Rattle.std.specs.Ordering.{nat_cmp, ordering_reverse}
use Rattle.std.specs.declared.cmp.Ordering.TheVariants.{Less, Greater}
use Rattle.std.proofs.lemmas.Slice.Eq.{bytes_eq-Decides}
use Rattle.folder_spec.specs.declared.Kind.TheVariants.{Missing, Dir}
use Rattle.folder_spec.specs.Path.{Part, Path, below, child}
use Rattle.folder_spec.specs.State.{present, IsSound}
use Rattle.folder_spec.specs.Event.{Told, FromTo}
use Rattle.folder_spec.specs.View.{Found, NoEntry, Folder, FileOf, Special, View, kind_found}
use Rattle.folder_spec.specs.Seen.{IfSeen, IsSeen, seen}
use Rattle.folder_spec.specs.Listing.{Item, IsListing}
use Rattle.folder_spec.proofs.Paths.{below-append, below-sibling}
use Rattle.folder_spec.proofs.Tellings.{from_to_more}
use Rattle.folder_spec.specs.declared.FolderFault.{FolderFault}
use Rattle.folder_model.specs.Answers.{Answers, Counts}
use Rattle.folder_model.proofs.Counting.{never_falls, counts_at_fault}
use Rattle.folder_staging.specs.declared.removal.RemovalFault.{RemovalFault}
use Rattle.folder_staging.specs.declared.removal.RemovalFault.TheVariants.{Depth, Failed}
use Rattle.folder_staging.specs.Removal.{from, below_only, IsWithin, IsRemoving, IsBare, RemovesAs, Removes, fault_of}
use Rattle.folder_staging.proofs.Blame.{risen_by}
use Rattle.folder_staging.proofs.Removals.{Removing, removing_so_far, run_none, run_then, run_in, stays_gone, was_seen, bare_below, done_exit, fault_exit, none_from, folder_fault_as}

-- Of the directory's items, as they were at a, those before the index are gone at b, and what stands at the others is as it was.
pub record SoFar (at : Path) (most : ℕ) (items : List Item) (index : ℕ) (a b : Told) : Type 0 where
  pub went : Removing (below_only at (most + 1)) a b
  pub gone : (k : ℕ) (d : Item) → k < index → (rest : Path) → seen b.state (child at (slice_index_or items k d).name ++ rest) ≡ NoEntry
  pub left : (k : ℕ) (d : Item) → index ≤ k → k < length items → present b.state (child at (slice_index_or items k d).name) ≡ present a.state (child at (slice_index_or items k d).name)

pub none_so_far : (at : Path) (most : ℕ) (items : List Item) (a : Told) → SoFar at most items 0 a a
none_so_far at most items a = record { went = run_none (below_only at (most + 1)) a; gone = λ k d less. absurd (omega (arith, less)); left = λ k d le fits. refl }

-- an entry and all below it are below the directory
pub entry_within : (at : Path) (a : Part) (most : ℕ) (q : Path) → IsWithin (from (child at a) most) q → IsWithin (below_only at (most + 1)) q
entry_within at a most q h = record {
  rest = a ∷ h.rest;
  is = h.is ∙ append_assoc at (a ∷ []) h.rest;
  least = omega arith;
  most = (let shallow : length h.rest ≤ most = h.most in omega (arith, shallow));
}

pub entry_deeper : (at : Path) (a : Part) (most : ℕ) (rest : Path) → most < length rest → (more : Path) × (most + 1 < length more) × (at ++ more ≡ child at a ++ rest)
entry_deeper at a most rest deep = (a ∷ rest, omega (arith, deep), sym (append_assoc at (a ∷ []) rest))

-- two names in order are apart
names_apart : (x y : Part) → slice_cmp nat_cmp x y ≡ Less → bytes_eq x y ≡ false
names_apart x y less = elim (bytes_eq x y) as (λ b. bytes_eq x y ≡ b → b ≡ false) [
  | true ↦ λ e.
      let same : x ≡ y = (bytes_eq-Decides x y).0 e in
      let itself : slice_cmp nat_cmp x x ≡ Less = subst (λ z. slice_cmp nat_cmp x z ≡ Less) (sym same) less in
      let both : Less ≡ Greater = sym itself ∙ nat_list_cmp_total.antisymm x x ∙ ap ordering_reverse itself in
      cc
  | false ↦ λ e. refl
] refl

pub any_item : (items : List Item) (k : ℕ) (d e : Item) → k < length items → slice_index_or items k d ≡ slice_index_or items k e
any_item [] k d e fits = absurd (omega (arith, fits))
any_item (x ∷ items) ℕ.zero d e fits = refl
any_item (x ∷ items) (suc k) d e fits = any_item items k d e (omega (arith, fits))

-- one more entry is removed
pub one_more : (at : Path) (most : ℕ) (items : List Item) (index : ℕ) (item : Item) (a b c : Told) → index < length items
    → ((d : Item) → slice_index_or items index d ≡ item) → IsListing (seen a.state) at items → SoFar at most items index a b
    → Removing (from (child at item.name) most) b c → IsBare (from (child at item.name) most) (seen c.state) → SoFar at most items (index + 1) a c
one_more at most items index item a b c fits is listing so_far went bare = record {
  went = run_then (below_only at (most + 1)) a b c so_far.went (run_in (from (child at item.name) most) (below_only at (most + 1)) b c (entry_within at item.name most) went);
  gone = λ k d less rest. gone k d rest (below_or_at k index less);
  left = λ k d le within. left k d (omega (arith, le)) within;
}
  where
    removing : IsRemoving (from (child at item.name) most) b.state c.state
    removing = removing_so_far (from (child at item.name) most) b c went

    below_or_at : (k index : ℕ) → k < index + 1 → (k < index) ⊎ (k ≡ index)
    below_or_at ℕ.zero ℕ.zero less = inr refl
    below_or_at ℕ.zero (suc index) less = inl (omega arith)
    below_or_at (suc k) ℕ.zero less = absurd (omega (arith, less))
    below_or_at (suc k) (suc index) less = elim (below_or_at k index (omega (arith, less))) as (λ _. (suc k < suc index) ⊎ (suc k ≡ suc index)) [
      | inl more ↦ inl (omega (arith, more))
      | inr same ↦ inr (ap suc same)
    ]

    gone : (k : ℕ) (d : Item) (rest : Path) → ((k < index) ⊎ (k ≡ index)) → seen c.state (child at (slice_index_or items k d).name ++ rest) ≡ NoEntry
    gone k d rest (inl before) =
        stays_gone (from (child at item.name) most) b.state c.state (child at (slice_index_or items k d).name ++ rest) removing (so_far.gone k d before rest)
    gone k d rest (inr same) =
        let this_one : slice_index_or items k d ≡ item = ap (λ j. slice_index_or items j d) same ∙ is d in
        ap (λ (x : Item). seen c.state (child at x.name ++ rest)) this_one ∙ bare rest (omega arith)

    left : (k : ℕ) (d : Item) → index < k → k < length items → present c.state (child at (slice_index_or items k d).name) ≡ present a.state (child at (slice_index_or items k d).name)
    left k d later within =
        let name : Part = (slice_index_or items k d).name in
        let less : slice_cmp nat_cmp item.name name ≡ Less = subst (λ (x : Item). slice_cmp nat_cmp x.name name ≡ Less) (is d) (listing.ordered index k d later within) in
        let apart : below (child at item.name) (child at name) ≡ None = below-sibling at item.name name (names_apart item.name name less) in
        elim (removing.seen (child at name)) as (λ _. present c.state (child at name) ≡ present a.state (child at name)) [
          | inl same ↦ same ∙ so_far.left k d (omega (arith, later)) within
          | inr removed ↦ absurd (
              let there : below (child at item.name) (child at name) ≡ Some (removed.0.rest) = ap (below (child at item.name)) (removed.0.is) ∙ below-append (child at item.name) (removed.0.rest) in
              let both : None ≡ Some (removed.0.rest) = sym apart ∙ there in
              cc)
        ]

-- what stands at an entry that is not yet removed
pub kind_left : (at : Path) (most : ℕ) (items : List Item) (index : ℕ) (item : Item) (a b : Told) → index < length items → ((d : Item) → slice_index_or items index d ≡ item)
    → IsListing (seen a.state) at items → SoFar at most items index a b → item.kind ≡ kind_found (seen b.state (child at item.name))
kind_left at most items index item a b fits is listing so_far =
    let right : (item.kind ≢ Missing) × (kind_found (seen a.state (child at item.name)) ≡ item.kind) = (listing.entries item).0 (index, fits, is item) in
    let same : present b.state (child at item.name) ≡ present a.state (child at item.name) =
    subst (λ (x : Item). present b.state (child at x.name) ≡ present a.state (child at x.name)) (is item) (so_far.left index item (omega arith) fits) in
    let seen_same : seen b.state (child at item.name) ≡ seen a.state (child at item.name) =
    was_seen (below_only at (most + 1)) a.state b.state (child at item.name) (removing_so_far (below_only at (most + 1)) a b so_far.went) same in
    sym right.1 ∙ ap kind_found (sym seen_same)

-- all entries are removed
pub all_gone : (at : Path) (most : ℕ) (items : List Item) (index : ℕ) (a b : Told) → length items ≤ index → IsSound b.state → IsListing (seen a.state) at items
    → SoFar at most items index a b → IsBare (below_only at (most + 1)) (seen b.state)
all_gone at most items index a b all_ sound listing so_far [] least = absurd (omega (arith, least))
all_gone at most items index a b all_ sound listing so_far (name ∷ rest) least = by_found (seen a.state (child at name)) refl
  where
    listed : kind_found (seen a.state (child at name)) ≢ Missing → seen b.state (at ++ name ∷ rest) ≡ NoEntry
    listed some =
        let x : Item = record { name = name; kind = kind_found (seen a.state (child at name)) } in
        let among : Contains items x = (listing.entries x).1 (some, refl) in
        ap (seen b.state) (sym (append_assoc at (name ∷ []) rest)) ∙ ap (λ (y : Item). seen b.state (child at y.name ++ rest)) (sym among.2)
        ∙ so_far.gone (among.0) x (let fits : among.0 < length items = among.1 in omega (arith, fits, all_)) rest

    none_there : seen b.state (child at name) ≡ NoEntry → (rest : Path) → seen b.state (at ++ name ∷ rest) ≡ NoEntry
    none_there none [] = none
    none_there none (c ∷ more) =
        ap (seen b.state) (sym (append_assoc at (name ∷ []) (c ∷ more)))
        ∙ bare_below b.state (child at name) c more sound (λ dir. let both : NoEntry ≡ Folder = sym none ∙ dir in cc)

    by_found : (x : Found) → seen a.state (child at name) ≡ x → seen b.state (at ++ name ∷ rest) ≡ NoEntry
    by_found NoEntry e =
        none_there (stays_gone (below_only at (most + 1)) a.state b.state (child at name) (removing_so_far (below_only at (most + 1)) a b so_far.went) e) rest
    by_found Folder e = listed (λ none. cc (e, none))
    by_found (FileOf bytes) e = listed (λ none. cc (e, none))
    by_found Special e = listed (λ none. cc (e, none))

-- The same of a folder that may tell nothing.
module _ (at : Path) (most : ℕ) (items : List Item) (index : ℕ) (t0 t1 : Option Told) (so_far : FromTo (SoFar at most items index) t0 t1) where
  pub went_so_far : FromTo (Removing (below_only at (most + 1))) t0 t1
  went_so_far = from_to_more (SoFar at most items index) (Removing (below_only at (most + 1))) t0 t1 (λ a b is h. h.went) so_far

  pub entries_done : (n0 n1 : ℕ) → n0 ≤ n1 → length items ≤ index → ((b : Told) → t1 ≡ Some b → IsSound b.state) → IfSeen t0 (λ v. IsListing v at items)
      → Removes (below_only at (most + 1)) t0 t1 n0 n1 (Ok tt)
  entries_done n0 n1 le all_ sound listing = done_exit (below_only at (most + 1)) t0 t1 n0 n1 went_so_far (bare t0 t1 so_far sound listing) le
    where
      bare : (t0 t1 : Option Told) → FromTo (SoFar at most items index) t0 t1 → ((b : Told) → t1 ≡ Some b → IsSound b.state)
          → IfSeen t0 (λ v. IsListing v at items) → IfSeen t1 (λ v. IsBare (below_only at (most + 1)) v)
      bare (Some a) (Some b) so_far sound listing v is =
          subst (IsBare (below_only at (most + 1))) (sym is) (all_gone at most items index a b all_ (sound b refl) (listing (seen a.state) refl) so_far)
      bare None (Some b) so_far sound listing v is = absurd so_far
      bare t None so_far sound listing v is = absurd is

  module _ (item : Item) (fits : index < length items) (is_item : (d : Item) → slice_index_or items index d ≡ item) (listing : IfSeen t0 (λ v. IsListing v at items)) where
    pub entry_kind : IfSeen t1 (λ v. item.kind ≡ kind_found (v (child at item.name)))
    entry_kind v is = kind t0 t1 so_far listing is
      where
        kind : (t0 t1 : Option Told) → FromTo (SoFar at most items index) t0 t1 → IfSeen t0 (λ v. IsListing v at items) → IsSeen t1 v
            → item.kind ≡ kind_found (v (child at item.name))
        kind (Some a) (Some b) so_far listing is =
            kind_left at most items index item a b fits is_item (listing (seen a.state) refl) so_far ∙ ap (λ w. kind_found (w (child at item.name))) (sym is)
        kind None (Some b) so_far listing is = absurd so_far
        kind t None so_far listing is = absurd is

    pub one_more_from : (t2 : Option Told) (n1 n2 : ℕ) → Removes (from (child at item.name) most) t1 t2 n1 n2 (Ok tt) → FromTo (SoFar at most items (index + 1)) t0 t2
    one_more_from t2 n1 n2 h = on t0 t1 t2 so_far listing h.moments h.bare
      where
        on : (t0 t1 t2 : Option Told) → FromTo (SoFar at most items index) t0 t1 → IfSeen t0 (λ v. IsListing v at items)
            → FromTo (Removing (from (child at item.name) most)) t1 t2 → IfSeen t2 (λ v. IsBare (from (child at item.name) most) v)
            → FromTo (SoFar at most items (index + 1)) t0 t2
        on (Some a) (Some b) (Some c) so_far listing went bare =
            one_more at most items index item a b c fits is_item (listing (seen a.state) refl) so_far went (bare (seen c.state) refl)
        on None None None so_far listing went bare = tt
        on None None (Some c) so_far listing went bare = absurd went
        on None (Some b) t so_far listing went bare = absurd so_far
        on (Some a) None t so_far listing went bare = absurd so_far
        on (Some a) (Some b) None so_far listing went bare = absurd went

    pub entry_fault : (t2 : Option Told) (n0 n1 n2 : ℕ) (fault : RemovalFault) → n0 ≤ n1 → Removes (from (child at item.name) most) t1 t2 n1 n2 (Err fault)
        → Removes (below_only at (most + 1)) t0 t2 n0 n2 (Err fault)
    entry_fault t2 n0 n1 n2 fault le h =
        fault_exit (from (child at item.name) most) (below_only at (most + 1)) (entry_within at item.name most) (entry_deeper at item.name most) t0 t1 t2 n0 n1 n2 fault
        went_so_far le h

-- A directory without entries, and one with some that are too deep.
pub none_listed : (at : Path) (most : ℕ) (items : List Item) (t u : Option Told) (n0 n1 : ℕ) → u ≡ t → n0 ≤ n1 → items ≡ [] → ((b : Told) → u ≡ Some b → IsSound b.state)
    → IfSeen t (λ v. IsListing v at items) → Removes (below_only at most) t u n0 n1 (Ok tt)
none_listed at most items t u n0 n1 same le none sound listing = done_exit (below_only at most) t u n0 n1 (none_from (below_only at most) t u same) (bare t u same sound listing) le
  where
    bare : (t u : Option Told) → u ≡ t → ((b : Told) → u ≡ Some b → IsSound b.state) → IfSeen t (λ v. IsListing v at items) → (v : View) → IsSeen u v
        → IsBare (below_only at most) v
    bare (Some a) (Some b) same sound listing v is =
        let one : b ≡ a = cc same in
        let listed : IsListing (seen b.state) at items = listing (seen b.state) (ap (λ (c : Told). seen c.state) one) in
        subst (IsBare (below_only at most)) (sym is) (all_gone at most items 0 b b (omega (arith, ap length none)) (sound b refl) listed (none_so_far at most items b))
    bare None (Some b) same sound listing v is = cc same
    bare t None same sound listing v is = absurd is

pub first_too_deep : (at : Path) (item : Item) (items : List Item) (v : View) → IsListing v at (item ∷ items) → RemovesAs (below_only at 0) v (Err Depth)
first_too_deep at item items v listing =
    let right : (item.kind ≢ Missing) × (kind_found (v (child at item.name)) ≡ item.kind) = (listing.entries item).0 (0, omega arith, refl) in
    (item.name ∷ [], omega arith, λ none. right.0 (sym right.1 ∙ ap kind_found none))

pub too_deep : (at : Path) (most : ℕ) (items : List Item) (t u : Option Told) (n0 n1 : ℕ) → u ≡ t → n0 ≤ n1 → items ≢ [] → most ≡ 0
    → IfSeen t (λ v. IsListing v at items) → Removes (below_only at most) t u n0 n1 (Err Depth)
too_deep at most items t u n0 n1 same le some shallow listing = record {
  moments = none_from (below_only at most) t u same;
  bare = tt;
  answer = λ v is. subst (λ m. RemovesAs (below_only at m) v (Err Depth)) (sym shallow) (deep items v some (listing v is));
  grows = le;
  failed = λ e. cc e;
}
  where
    deep : (items : List Item) (v : View) → items ≢ [] → IsListing v at items → RemovesAs (below_only at 0) v (Err Depth)
    deep [] v some listing = absurd (some refl)
    deep (item ∷ items) v some listing = first_too_deep at item items v listing

-- a listing that fell
pub listing_exit : (at : Path) (most : ℕ) (t u : Option Told) (n0 n1 : ℕ) (fault : FolderFault) → u ≡ t → IfSeen t (λ v. v at ≡ Folder)
    → Answers {T = List Item} t (λ v. v at ≡ Folder) (λ v items. IsListing v at items) (Err fault) → Counts {T = List Item} t n0 n1 (Err fault)
    → Removes (below_only at most) t u n0 n1 (Err (fault_of fault))
listing_exit at most t u n0 n1 fault same directory answer counts = record {
  moments = none_from (below_only at most) t u same;
  bare = tt;
  answer = λ v is. folder_fault_as (below_only at most) v fault;
  grows = never_falls {T = List Item} t n0 n1 (Err fault) counts;
  failed = λ e. risen_by fault_of Failed (λ none. cc none) n0 n1 fault
      (counts_at_fault (List Item) (Unit {0}) t n0 n0 n1 (λ v. v at ≡ Folder) (λ v items. IsListing v at items) fault (omega arith) directory answer counts) (cc e);
}

pub is_folder : (x : Found) → kind_found x ≡ Dir → x ≡ Folder
is_folder Folder e = refl
is_folder NoEntry e = cc
is_folder (FileOf bytes) e = cc
is_folder Special e = cc

pub no_items : (items : List Item) → length items ≡ 0 → items ≡ []
no_items [] none = refl
no_items (item ∷ items) none = absurd (omega (arith, none))

pub some_items : (items : List Item) → 0 < length items → items ≢ []
some_items [] some none = omega (arith, some)
some_items (item ∷ items) some none = cc none
