-- That vaults whose items tell one tree compare as the same, and that one whose tree is part of the other's is held, unless a content
-- passes the limit.
use Rattle.std.proofs.Common.{◌≡◌, ◌≢◌, inl, inr, ℕ, suc, ◌≤◌, ◌&&◌, nat_eq, nat_le, List, [], ◌∷◌, ◌++◌, length, take, Bool, true, false, if◌then◌else◌, Option, Some, None, refl, sym, ap, subst, ◌∙◌, arith, Contains, length-append, append-nil}
use Rattle.std.proofs.lemmas.Bool.{leb-true, leb-false, false≢true}
use Rattle.std.proofs.lemmas.List.{take-take, take_at}
use Rattle.std.specs.List.{concat, starts_with}
use Rattle.std.specs.Str.{bytes_eq}
use Rattle.std.specs.Cmp.Lexicographic.{pointwise_decides, bytes_decides}
use Rattle.chunk_files.specs.Contents.{readable}
use Rattle.chunk_files.specs.Keys.{Keys}
use Rattle.chunk_files.specs.Reading.{Ending, Reading, Whole, Wanting, Faulty}
use Rattle.folder_spec.specs.Path as folder
use Rattle.folder_spec.specs.Seen.{ShowsFile}
use Rattle.folder_spec.specs.View.{View}
use Rattle.vault_spec.specs.PlanOf.{node_of}
use Rattle.vault_spec.specs.Mapped.{IsWhole}
use Rattle.plain_tree.specs.Names as plain
use Rattle.plain_tree.specs.Order.{path_eq}
use Rattle.plain_tree.specs.declared.NodeKind.{NodeKind}
use Rattle.plain_tree.specs.declared.NodeKind.TheVariants as node
use Rattle.vault_read.specs.Contents.{limited_reading}
use Rattle.vault_faults.specs.Limits.{content_limit}
use Rattle.vault_spec.specs.Format.{Format, file_bytes}
use Rattle.vault_spec.specs.Opens.{Opened, NoItem, Content, Tree, opened_by, opened_file}
use Rattle.vault_spec.specs.Plan.{Planned}
use Rattle.vault_spec.specs.Vault.{format_of}
use Rattle.tree_match.proofs.CutContents.{Partly, All, Front, partly_read}
use Rattle.tree_match.proofs.Differing.{holds_none, holds_one, further_found, further_none, further_end}
use Rattle.tree_match.proofs.HeldParts.{IsPart, OpenAlike}
use Rattle.tree_match.proofs.HeldTrees.{found_with, stopped}
use Rattle.tree_match.proofs.ToldTrees.{TellsTree, opens_file, opens_node}
use Rattle.tree_match.specs.Comparing.{Outcome, Is, Stops, compared, content_at, content_of, bytes_found, is_cut}
use Rattle.tree_match.specs.Matching.{content_held, first_differing, first_further, held_as, held_by, item_with}
use Rattle.tree_match.specs.Trees.{PlannedVault, HoldsAllBy, AsSame, AndFurther, HoldsAllOrTooLong, IsSameOrTooLong, AreSame, IsTooLong, match_of}
use Rattle.tree_match.specs.declared.answer.How.{How}
use Rattle.tree_match.specs.declared.answer.Match.{Match}
use Rattle.tree_match.specs.declared.answer.Match.TheVariants.{Same}
use Rattle.tree_match.proofs.InOrder.{first_or_among}

-- ---- two fronts of one content

-- an outcome that tells no difference, or that a content passes the limit
data TellsThis {A : Type 0} (x : A) : Outcome A → Type 0 where
  Told : TellsThis x (Is x)
  Cut : (at : folder.Path) → TellsThis x (Stops at Wanting)

abbrev FrontOf : List ℕ → List ℕ → Type 0
FrontOf content xs = (rest : List ℕ) × (content ≡ xs ++ rest)

taken : (content xs : List ℕ) → FrontOf content xs → xs ≡ take (length xs) content
taken content xs front = sym (ap (take (length xs)) front.1 ∙ take_at xs front.0 (length xs) refl)

shorter_first : (content xs ys : List ℕ) → FrontOf content xs → FrontOf content ys → length xs ≤ length ys → starts_with nat_eq ys xs ≡ true
shorter_first content xs ys one other few =
    (bytes_decides xs (take (length xs) ys)).1
    (taken content xs one ∙ sym (take-take (length xs) (length ys) content few) ∙ ap (take (length xs)) (sym (taken content ys other)))

all_fits : (content xs : List ℕ) → FrontOf content xs → length xs ≤ length content
all_fits content xs front = omega (arith, ap (λ (zs : List ℕ). length zs) front.1, length-append xs front.0)

itself : (content xs : List ℕ) → xs ≡ content → FrontOf content xs
itself content xs is = ([], sym is ∙ sym (append-nil xs))

-- how the tests of two contents come out
data Meets : Ending → Ending → Bool → Bool → Bool → Type 0 where
  Neither : (first second : Bool) → Meets Whole Whole first second true
  Second : (first same : Bool) → Meets Whole Wanting first true same
  First : (ending : Ending) (second same : Bool) → Meets Wanting ending true second same
  Last : (first same : Bool) → Meets Wanting Wanting first true same

decide : (e f : Ending) (first second same : Bool) (p q : folder.Path) → Meets e f first second same
    → TellsThis true (if is_cut e && first then Stops p e else if is_cut f && second then Stops q f else Is same)
decide _ _ _ _ _ p q (Neither first second) = Told
decide _ _ _ _ _ p q (Second first same) = Cut q
decide _ _ _ _ _ p q (First ending second same) = Cut p
decide _ _ _ _ _ p q (Last true same) = Cut p
decide _ _ _ _ _ p q (Last false same) = Cut q

abbrev MeetsOf : Reading → Reading → Type 0
MeetsOf r s = Meets r.ending s.ending (starts_with nat_eq (concat s.chunks) (concat r.chunks)) (starts_with nat_eq (concat r.chunks) (concat s.chunks)) (bytes_eq (concat r.chunks) (concat s.chunks))

meets : (content : List ℕ) (r s : Reading) → Partly content r → Partly content s → MeetsOf r s
meets content r s (All e c) (All f d) =
    let same : bytes_eq (concat r.chunks) (concat s.chunks) ≡ true = (bytes_decides (concat r.chunks) (concat s.chunks)).1 (c ∙ sym d) in
    rw (e, f, same) (Neither _ _)
meets content r s (All e c) (Front f rest d) =
    let begins : starts_with nat_eq (concat r.chunks) (concat s.chunks) ≡ true =
    shorter_first content (concat s.chunks) (concat r.chunks) (rest, d) (itself content (concat r.chunks) c) (omega (arith, ap (λ (zs : List ℕ). length zs) c, all_fits content (concat s.chunks) (rest, d))) in
    rw (e, f, begins) (Second _ _)
meets content r s (Front e rest c) (All f d) =
    let begins : starts_with nat_eq (concat s.chunks) (concat r.chunks) ≡ true =
    shorter_first content (concat r.chunks) (concat s.chunks) (rest, c) (itself content (concat s.chunks) d) (omega (arith, ap (λ (zs : List ℕ). length zs) d, all_fits content (concat r.chunks) (rest, c))) in
    rw (e, begins) (First _ _ _)
meets content r s (Front e rest c) (Front f rest' d) = by (nat_le (length (concat r.chunks)) (length (concat s.chunks))) refl
  where
    by : (few : Bool) → nat_le (length (concat r.chunks)) (length (concat s.chunks)) ≡ few → MeetsOf r s
    by true is =
        let begins : starts_with nat_eq (concat s.chunks) (concat r.chunks) ≡ true = shorter_first content (concat r.chunks) (concat s.chunks) (rest, c) (rest', d) (leb-true _ _ is) in
        rw (e, begins) (First _ _ _)
    by false is =
        let begins : starts_with nat_eq (concat r.chunks) (concat s.chunks) ≡ true = shorter_first content (concat s.chunks) (concat r.chunks) (rest', d) (rest, c) (omega (arith, leb-false _ _ is)) in
        rw (e, f, begins) (Last _ _)

alike : (content : List ℕ) (p q : folder.Path) (r s : Reading) → Partly content r → Partly content s → TellsThis true (compared (content_of p r) (content_of q s))
unfolding compared
alike content p q r s one other = decide r.ending s.ending _ _ _ p q (meets content r s one other)

-- ---- an item of both

held_tells : (outcome : Outcome Bool) → TellsThis true outcome → TellsThis None (content_held outcome)
held_tells _ Told = Told
held_tells _ (Cut at) = Cut at

-- the content file of an item that opens whole
record ReadsTo (f : Format) (v : View) (at : folder.Path) (o : Opened) : Type 0 where
  content : List ℕ
  opens : o ≡ Content content
  partly : Partly content (limited_reading f.content (bytes_found (v at)))

opened_whole : (keys : Keys) (at : folder.Path) (bytes : List ℕ) → opened_file keys (Some bytes) ≢ NoItem → IsWhole (opened_file keys (Some bytes)) → (readable keys bytes).ending ≡ Whole
opened_whole keys at bytes there whole = by (readable keys bytes).ending there whole
  where
    by : (ending : Ending) → opened_by (readable keys bytes).chunks ending ≢ NoItem → IsWhole (opened_by (readable keys bytes).chunks ending) → ending ≡ Whole
    by Whole there whole = refl
    by Wanting there whole = absurd (there refl)
    by (Faulty fault) there whole = absurd whole

file_reads : (f : Format) (v : View) (at : folder.Path) (o : Opened) → o ≡ opened_file f.content (file_bytes (v at)) → ShowsFile v at → o ≢ NoItem → IsWhole o → ReadsTo f v at o
file_reads f v at o opens there named whole =
    let is : o ≡ opened_file f.content (Some there.0) = opens ∙ ap (λ found. opened_file f.content (file_bytes found)) there.1 in
    let ended : (readable f.content there.0).ending ≡ Whole = opened_whole f.content at there.0 (subst (λ o. o ≢ NoItem) is named) (subst IsWhole is whole) in
    record {
      content = concat (readable f.content there.0).chunks;
      opens = is ∙ ap (opened_by (readable f.content there.0).chunks) ended;
      partly = subst (λ found. Partly (concat (readable f.content there.0).chunks) (limited_reading f.content (bytes_found found))) (sym there.1) (partly_read content_limit f.content there.0 ended);
    }

content_is : (x y : List ℕ) → Content x ≡ Content y → x ≡ y
content_is x y e = cc e

reads_alike : (f g : Format) (v w : View) (p q : folder.Path) (o : Opened) → ReadsTo f v p o → ReadsTo g w q o → TellsThis true (compared (content_at f.content v p) (content_at g.content w q))
reads_alike f g v w p q o one other =
    let same : other.content ≡ one.content = content_is _ _ (sym other.opens ∙ one.opens) in
    alike one.content p q (limited_reading f.content (bytes_found (v p))) (limited_reading g.content (bytes_found (w q))) one.partly
    (subst (λ c. Partly c (limited_reading g.content (bytes_found (w q)))) same other.partly)

-- where one has the path, an item is found
pub some_with : (path : plain.Path) (others : List Planned) (o : Planned) → Contains others o → o.path ≡ path → (found : Planned) × (item_with path others ≡ Some found)
some_with path [] o among is = absurd (omega (arith, among.1))
some_with path (z ∷ zs) o among is = by (path_eq z.path path) refl (some_with path zs o)
  where
    by : (b : Bool) → path_eq z.path path ≡ b → (Contains zs o → o.path ≡ path → (found : Planned) × (item_with path zs ≡ Some found)) → (found : Planned) × ((if b then Some z else item_with path zs) ≡ Some found)
    by true e later = (z, refl)
    by false e later = elim (first_or_among z zs o among) [
      | inl same ↦ absurd (false≢true (sym e ∙ (pointwise_decides bytes_decides z.path path).1 (ap (λ (y : Planned). y.path) same ∙ is)))
      | inr rest ↦ later rest is
    ]

module _ (v : View) (a b : PlannedVault) (t u : Tree) (tells_a : TellsTree v a t) (tells_b : TellsTree v b u) (one : IsPart t u) where
  at_item : (x : Planned) → Contains a.items x → OpenAlike t u x.path
  at_item x among = one x.path (tells_a.items x among).0 (tells_a.items x among).1

  found_in_other : (x : Planned) → Contains a.items x → (o : Planned) × (item_with x.path b.items ≡ Some o) × Contains b.items o × (o.path ≡ x.path)
  found_in_other x among =
      let there : u x.path ≢ NoItem = subst (λ o. o ≢ NoItem) (at_item x among).0 (tells_a.items x among).1 in
      let other : (o : Planned) × Contains b.items o × (o.path ≡ x.path) = tells_b.each x.path (tells_a.items x among).0 there in
      let found : (o : Planned) × (item_with x.path b.items ≡ Some o) = some_with x.path b.items other.0 other.1 other.2 in
      let with_path : Contains b.items found.0 × (found.0.path ≡ x.path) = found_with x.path b.items found.0 found.1 in
      (found.0, found.1, with_path.0, with_path.1)

  held_alike : (x o : Planned) → Contains a.items x → Contains b.items o → o.path ≡ x.path
      → TellsThis None (held_as x.node o.node (compared (content_at (format_of a.vault).content v x.at) (content_at (format_of b.vault).content v o.at)))
  held_alike x o in_a in_b same = by x.node o.node refl refl
    where
      there : u o.path ≡ t x.path
      there = ap u same ∙ sym (at_item x in_a).0

      nodes : Some x.node ≡ Some o.node
      nodes = sym (opens_node v a t tells_a x in_a) ∙ ap node_of (sym there) ∙ opens_node v b u tells_b o in_b

      outcome : Outcome Bool
      outcome = compared (content_at (format_of a.vault).content v x.at) (content_at (format_of b.vault).content v o.at)

      by : (n m : NodeKind) → x.node ≡ n → o.node ≡ m → TellsThis None (held_as n m outcome)
      by node.Dir node.Dir is_x is_o = Told
      by node.Dir node.File is_x is_o = absurd (other (sym (ap Some is_x) ∙ nodes ∙ ap Some is_o))
        where
          other : Some node.Dir ≡ Some node.File → ⊥
          other e = cc e
      by node.File node.Dir is_x is_o = absurd (other (sym (ap Some is_x) ∙ nodes ∙ ap Some is_o))
        where
          other : Some node.File ≡ Some node.Dir → ⊥
          other e = cc e
      by node.File node.File is_x is_o =
          let some : t x.path ≢ NoItem = (tells_a.items x in_a).1 in
          let whole : IsWhole (t x.path) = (at_item x in_a).1 in
          let first : ReadsTo (format_of a.vault) v x.at (t x.path) = file_reads (format_of a.vault) v x.at (t x.path) (opens_file v a t tells_a x in_a is_x) (tells_a.files x in_a is_x) some whole in
          let second : ReadsTo (format_of b.vault) v o.at (t x.path) =
          file_reads (format_of b.vault) v o.at (t x.path) (sym there ∙ opens_file v b u tells_b o in_b is_o) (tells_b.files o in_b is_o) some whole in
          held_tells outcome (reads_alike (format_of a.vault) (format_of b.vault) v v x.at o.at (t x.path) first second)

  held_one : (x : Planned) → Contains a.items x → TellsThis None (held_by (format_of a.vault).content (format_of b.vault).content v x (item_with x.path b.items))
  held_one x among =
      let found = found_in_other x among in
      subst (λ o. TellsThis None (held_by (format_of a.vault).content (format_of b.vault).content v x o)) (sym found.1) (held_alike x found.0 among found.2 found.3)

-- ---- all items

none_further : (items others : List Planned) → ((o : Planned) → Contains others o → (x : Planned) × (item_with o.path items ≡ Some x)) → first_further items others ≡ Same
none_further items [] each = further_end items
none_further items (z ∷ zs) each =
    let here : (x : Planned) × (item_with z.path items ≡ Some x) = each z (0, omega arith, refl) in
    further_found items z here.0 zs here.1 ∙ none_further items zs (λ o c. each o (suc c.0, omega (arith, c.1), c.2))

all_tell : (held : Planned → Outcome (Option How)) (items : List Planned) → ((x : Planned) → Contains items x → TellsThis None (held x)) → IsSameOrTooLong (first_differing held items (Is Same))
all_tell held [] each = subst IsSameOrTooLong (sym (holds_none held (Is Same))) AreSame
all_tell held (x ∷ xs) each = by (held x) refl (each x (0, omega arith, refl)) (all_tell held xs (λ y c. each y (suc c.0, omega (arith, c.1), c.2)))
  where
    by : (o : Outcome (Option How)) → held x ≡ o → TellsThis None o → IsSameOrTooLong (first_differing held xs (Is Same)) → IsSameOrTooLong (first_differing held (x ∷ xs) (Is Same))
    by _ is Told later = subst IsSameOrTooLong (sym (holds_one held (Is Same) x xs is)) later
    by _ is (Cut at) later = subst IsSameOrTooLong (sym (stopped held (Is Same) x xs at Wanting is)) (IsTooLong at)

pub one_tree_matches : (v : View) (a b : PlannedVault) (t u : Tree) → TellsTree v a t → TellsTree v b u → IsPart t u → IsPart u t → IsSameOrTooLong (match_of v a b)
one_tree_matches v a b t u tells_a tells_b one other =
    let held : Planned → Outcome (Option How) = λ item. held_by (format_of a.vault).content (format_of b.vault).content v item (item_with item.path b.items) in
    let none : first_further a.items b.items ≡ Same = none_further a.items b.items (λ o among. let found = found_in_other v b a u t tells_b tells_a other o among in (found.0, found.1)) in
    subst (λ (m : Match). IsSameOrTooLong (first_differing held a.items (Is m))) (sym none) (all_tell held a.items (held_one v a b t u tells_a tells_b one))

-- ---- a tree that is part of another

further_or_same : (items others : List Planned) → HoldsAllBy (Is (first_further items others))
further_or_same items [] = subst (λ (m : Match). HoldsAllBy (Is m)) (sym (further_end items)) AsSame
further_or_same items (z ∷ zs) = by (item_with z.path items) refl (further_or_same items zs)
  where
    by : (found : Option Planned) → item_with z.path items ≡ found → HoldsAllBy (Is (first_further items zs)) → HoldsAllBy (Is (first_further items (z ∷ zs)))
    by None e later = subst (λ (m : Match). HoldsAllBy (Is m)) (sym (further_none items z zs e)) (AndFurther z.path)
    by (Some x) e later = subst (λ (m : Match). HoldsAllBy (Is m)) (sym (further_found items z x zs e)) later

all_held : (held : Planned → Outcome (Option How)) (last : Match) → HoldsAllBy (Is last) → (items : List Planned) → ((x : Planned) → Contains items x → TellsThis None (held x)) → HoldsAllOrTooLong (first_differing held items (Is last))
all_held held last all [] each = subst HoldsAllOrTooLong (sym (holds_none held (Is last))) (inl all)
all_held held last all (x ∷ xs) each = by (held x) refl (each x (0, omega arith, refl)) (all_held held last all xs (λ y c. each y (suc c.0, omega (arith, c.1), c.2)))
  where
    by : (o : Outcome (Option How)) → held x ≡ o → TellsThis None o → HoldsAllOrTooLong (first_differing held xs (Is last)) → HoldsAllOrTooLong (first_differing held (x ∷ xs) (Is last))
    by _ is Told later = subst HoldsAllOrTooLong (sym (holds_one held (Is last) x xs is)) later
    by _ is (Cut at) later = subst HoldsAllOrTooLong (sym (stopped held (Is last) x xs at Wanting is)) (inr (at, refl))

pub part_matches : (v : View) (a b : PlannedVault) (t u : Tree) → TellsTree v a t → TellsTree v b u → IsPart t u → HoldsAllOrTooLong (match_of v a b)
part_matches v a b t u tells_a tells_b one =
    all_held (λ item. held_by (format_of a.vault).content (format_of b.vault).content v item (item_with item.path b.items)) (first_further a.items b.items) (further_or_same a.items b.items) a.items
    (held_one v a b t u tells_a tells_b one)
