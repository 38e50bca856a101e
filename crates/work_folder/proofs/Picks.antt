-- The first foreign item of a listing is the first foreign entry.
use Rattle.std.proofs.Common.{◌≡◌, ◌≢◌, ◌⊎◌, ℕ, ◌<◌, Bool, false, List, length, slice_index_or, Ok, Err, refl, sym, ap, ◌∙◌, subst, inl, inr, IsTrue}
use Rattle.std.specs.Cmp.Lexicographic.{slice_cmp}
use Rattle.std.specs.Ordering.{nat_cmp}
use Rattle.std.specs.declared.cmp.Ordering.TheVariants.{Less}
use Rattle.std.proofs.lemmas.Bool.{cases_order}
use Rattle.folder_spec.specs.declared.Kind.{Kind}
use Rattle.folder_spec.specs.declared.Kind.TheVariants.{Missing}
use Rattle.folder_spec.specs.Path.{Part, Path, child}
use Rattle.folder_spec.specs.Listing.{Item, IsListing}
use Rattle.folder_spec.specs.View.{View, kind_found}
use Rattle.work_folder.specs.declared.fault.WorkFault.TheVariants.{NoParent, WrongKind, Foreign, Begun, Depth, Failed, NoMemory}
use Rattle.work_folder.specs.Entries.{is_foreign, IsForeign, IsFirstForeign}
use Rattle.work_folder.specs.Looking.{Looked, TestsEntries, Gives}
use Rattle.work_folder.specs.Picking.{NoneBefore, IsFirstAt, Picks}

-- what is foreign stands there
foreign_stands : (old : Bool) (name : Part) (kind : Kind) → IsTrue (is_foreign old name kind) → kind ≢ Missing
foreign_stands old name kind foreign none = let no_ : is_foreign old name kind ≡ false = ap (is_foreign old name) none in cc

module _ (old : Bool) (v : View) (work : Path) (items : List Item) (listing : IsListing v work items) where
  -- where a foreign entry is listed
  place_of : (name : Part) → IsForeign old v work name
      → (k : ℕ) × (k < length items) × (slice_index_or items k (record { name = name; kind = kind_found (v (child work name)) }) ≡ record { name = name; kind = kind_found (v (child work name)) })
  place_of name foreign =
      (listing.entries (record { name = name; kind = kind_found (v (child work name)) })).1 (foreign_stands old name (kind_found (v (child work name))) foreign, refl)

  not_foreign : (n : ℕ) → NoneBefore old items n → (name : Part) (k : ℕ) → k < n
      → slice_index_or items k (record { name = name; kind = kind_found (v (child work name)) }) ≡ record { name = name; kind = kind_found (v (child work name)) }
      → IsForeign old v work name → ⊥
  not_foreign n none name k less is foreign =
      let x : Item = record { name = name; kind = kind_found (v (child work name)) } in
      let clean : is_foreign old (slice_index_or items k x).name (slice_index_or items k x).kind ≡ false = none k less x in
      let no_ : is_foreign old name (kind_found (v (child work name))) ≡ false = subst (λ (y : Item). is_foreign old y.name y.kind ≡ false) is clean in
      cc

  first_is : (n : ℕ) (x : Item) → IsFirstAt old items n x → IsFirstForeign old v work x.name
  first_is n x at = record {
    foreign = subst (λ k. IsTrue (is_foreign old x.name k)) (sym there.1) at.foreign;
    first = λ other foreign apart.
        let y : Item = record { name = other; kind = kind_found (v (child work other)) } in
        let p : (k : ℕ) × (k < length items) × (slice_index_or items k y ≡ y) = place_of other foreign in
        by_order p.0 p.1 other p.2 foreign apart (cases_order p.0 n);
  }
    where
      there : (x.kind ≢ Missing) × (kind_found (v (child work x.name)) ≡ x.kind)
      there = (listing.entries x).0 (n, at.fits, at.is x)

      by_order : (k : ℕ) → k < length items → (other : Part)
          → slice_index_or items k (record { name = other; kind = kind_found (v (child work other)) }) ≡ record { name = other; kind = kind_found (v (child work other)) }
          → IsForeign old v work other → other ≢ x.name → ((k ≡ n) ⊎ ((k < n) ⊎ (n < k))) → slice_cmp nat_cmp x.name other ≡ Less
      by_order k fits other is foreign apart (inl same) =
          let y : Item = record { name = other; kind = kind_found (v (child work other)) } in
          absurd (apart (ap (λ (z : Item). z.name) (sym is ∙ ap (λ j. slice_index_or items j y) same ∙ at.is y)))
      by_order k fits other is foreign apart (inr (inl less)) = absurd (not_foreign n at.first other k less is foreign)
      by_order k fits other is foreign apart (inr (inr more)) =
          let y : Item = record { name = other; kind = kind_found (v (child work other)) } in
          let ordered : slice_cmp nat_cmp (slice_index_or items n y).name (slice_index_or items k y).name ≡ Less = listing.ordered n k y more fits in
          subst (λ (z : Item). slice_cmp nat_cmp z.name other ≡ Less) (at.is y) (subst (λ (z : Item). slice_cmp nat_cmp (slice_index_or items n y).name z.name ≡ Less) is ordered)

  pub listed : (answer : Looked) → Picks old work items answer → Gives (TestsEntries old v work) answer
  listed (Ok done) none =
      inl (
        (λ name foreign. let p : (k : ℕ) × (k < length items) × (slice_index_or items k (record { name = name; kind = kind_found (v (child work name)) }) ≡ record { name = name; kind = kind_found (v (child work name)) }) = place_of name foreign in
            not_foreign (length items) none name p.0 p.1 p.2 foreign),
        refl,
      )
  listed (Err (NoParent p)) h = absurd h
  listed (Err (WrongKind p)) h = absurd h
  listed (Err (Foreign p)) h = inr (h.1.name, first_is h.0 h.1 h.2, ap (λ q. Err (Foreign q)) h.3)
  listed (Err Begun) h = absurd h
  listed (Err Depth) h = absurd h
  listed (Err Failed) h = absurd h
  listed (Err NoMemory) h = tt

pub picks_not_failed : (old : Bool) (work : Path) (items : List Item) (answer : Looked) → Picks old work items answer → answer ≢ Err Failed
picks_not_failed old work items (Ok done) h e = cc e
picks_not_failed old work items (Err (NoParent p)) h e = cc e
picks_not_failed old work items (Err (WrongKind p)) h e = cc e
picks_not_failed old work items (Err (Foreign p)) h e = cc e
picks_not_failed old work items (Err Begun) h e = cc e
picks_not_failed old work items (Err Depth) h e = cc e
picks_not_failed old work items (Err Failed) h e = h
picks_not_failed old work items (Err NoMemory) h e = cc e
