-- Items of the source that are copied into the target, one after the other, by what is seen.
use Rattle.std.proofs.Common.{◌≡◌, ◌≢◌, ◌<◌, ◌+◌, ℕ, List, [], ◌∷◌, ◌++◌, length, take, get_or, Option, Some, None, Ok, refl, sym, ap, ◌∙◌, inl, inr, subst, subst₂, append-nil, append_assoc}
use Rattle.std.proofs.lemmas.List.{take_more}
use Rattle.std.proofs.lemmas.List.Elements.{Contains-append_left, Contains-append_right, Contains-push_cases}
use Rattle.item_making.specs.Ending.{Ending, Whole}
use Rattle.content_writing.specs.Content.{Coming}
use Rattle.vault_faults.specs.Limits.{content_limit}
use Rattle.vault_write.specs.ContentsComing.{coming_read}
use Rattle.item_making.specs.declared.fault.PutFault.TheVariants.{Taken}
use Rattle.folder_spec.proofs.Paths.{base_or_child, one_or_not}
use Rattle.folder_spec.specs.Event.{Told}
use Rattle.folder_spec.specs.Path.{Path}
use Rattle.folder_spec.specs.Seen.{IsSeen, seen, under}
use Rattle.folder_spec.specs.View.{View}
use Rattle.plain_tree.specs.declared.NodeKind.TheVariants.{Dir, File}
use Rattle.plain_tree.specs.declared.name_map.NameMap.{NameMap}
use Rattle.port_model.specs.Draws.{ByteStream}
use Rattle.folder_spec.specs.Apart.{AreSeparate}
use Rattle.migration_spec.proofs.Placing.{part_gains}
use Rattle.vault_spec.specs.Mapped.{IsMappedItem, IsPartOfMapped}
use Rattle.tree_match.specs.Trees.{side_of}
use Rattle.vault_spec.specs.Opened.{OpenedVault}
use Rattle.vault_spec.specs.Adding.{OpensWith}
use Rattle.vault_spec.specs.Alike.{IsOrderly}
use Rattle.vault_spec.specs.Findings.{IsClean}
use Rattle.vault_spec.specs.Making.{NewItem, NewDirectory, NewFile}
use Rattle.vault_spec.specs.Opens.{NoItem, tree}
use Rattle.vault_spec.specs.Plan.{Planned}
use Rattle.vault_spec.specs.Vault.{format_of}
use Rattle.vault_walk.specs.Surveyed.{IsWithin}
use Rattle.vault_write.specs.Calls.{MakesAt, MakesOne, MakesDirectory, New}
use Rattle.item_making.specs.Making.{Placing, is_apart}
use Rattle.item_making.specs.Placing.{EndsAs}
use Rattle.item_making.specs.Trees.{StaysGood, opens_as}
use Rattle.migrate_core.proofs.Movings.{moves_to, seen_stays, source_apart}
use Rattle.migrate_core.proofs.Placings.{no_answer}
use Rattle.migrate_core.proofs.Planned.{DirectoriesOpen, FilesFit, FilesOpen, file_opens, mapped_walk_of, reader_of}
use Rattle.migrate_core.specs.Copying.{Copies, CopiesOne, HasCopied, HasItem, IsCopying}
use Rattle.migration_spec.specs.Guard.{tree_at}
use Rattle.migrate_core.specs.Moving.{MovesBeside}
use Rattle.migrate_core.specs.Sides.{IsItemOf, StandsIn}
use Rattle.migration_spec.proofs.Tellings.{AreSound}

-- ---- nothing of either vault is changed

copying_as : (rule : NameMap) (from to : OpenedVault) (v w : View) → under from.root w ≡ under from.root v → under to.root w ≡ under to.root v → IsCopying rule from to v → IsCopying rule from to w
copying_as rule from to v w same_from same_to k = record {
  source = record { clean = subst (IsClean (format_of from.vault)) (sym same_from) k.source.clean; orderly = subst (IsOrderly (format_of from.vault)) (sym same_from) k.source.orderly };
  within = subst (IsWithin (format_of from.vault)) (sym same_from) k.within;
  target = record { clean = subst (IsClean (format_of to.vault)) (sym same_to) k.target.clean; orderly = subst (IsOrderly (format_of to.vault)) (sym same_to) k.target.orderly };
  part = subst₂ (λ x y. IsPartOfMapped rule (tree (format_of to.vault) x) (tree (format_of from.vault) y)) (sym same_to) (sym same_from) k.part;
}

pub copied_as : (rule : NameMap) (from to : OpenedVault) (items : List Planned) (v w : View) → under from.root w ≡ under from.root v → under to.root w ≡ under to.root v → HasCopied rule from to items v → HasCopied rule from to items w
copied_as rule from to items v w same_from same_to h = record {
  copying = copying_as rule from to v w same_from same_to h.copying;
  has = λ item among. subst (λ x. tree (format_of to.vault) x item.path ≢ NoItem) (sym same_to) (h.has item among);
}

-- ---- one item

-- a new item opens
some_item : (item : NewItem) → opens_as item ≢ NoItem
some_item NewDirectory e = cc e
some_item (NewFile content) e = cc e

module _ (rule : NameMap) (from to : OpenedVault) (work : Path) (planned : Planned) (item : NewItem) (ending : Ending) (drawn : List ℕ) (t u : Option Told) (made : MakesAt New to work planned.path item ending drawn t u (Ok tt)) where
  pub made_copies : (v w : View) → IsSeen t v → IsSeen u w → under from.root w ≡ under from.root v → (ending ≡ Whole → IsMappedItem rule (tree_at from v) planned.path (opens_as item)) → IsCopying rule from to v
      → Copies rule from to planned v w
  made_copies v w is_v is_w same held k = elim (base_or_child planned.path) [
    | inl root ↦ no_answer (Copies rule from to planned v w) (Taken to.root) (Ok tt) (made.root root).2
    | inr named ↦
        let p : Placing = record { vault = to; work = work; front = named.0; name = named.1; item = item } in
        let one : MakesOne New p ending drawn t u (Ok tt) = made.named named.0 named.1 named.2 in
        let ends : EndsAs p (under to.root v) (under to.root w) (Ok tt) = one.makes.ends v w is_v is_w in
        by (subst (λ path. OpensWith (format_of to.vault) (under to.root v) (under to.root w) path (opens_as item)) (sym named.2) (ends.1 k.target.orderly)) (ends.2 k.target.clean k.target.orderly) (held (one.answer v is_v).1)
  ]
    where
      by : OpensWith (format_of to.vault) (under to.root v) (under to.root w) planned.path (opens_as item) → StaysGood (format_of to.vault) (under to.root v) (under to.root w) → IsMappedItem rule (tree_at from v) planned.path (opens_as item)
          → Copies rule from to planned v w
      by gains stays is = record {
        copying = record {
          source = record { clean = subst (IsClean (format_of from.vault)) (sym same) k.source.clean; orderly = subst (IsOrderly (format_of from.vault)) (sym same) k.source.orderly };
          within = subst (IsWithin (format_of from.vault)) (sym same) k.within;
          target = record { clean = stays.clean; orderly = stays.orderly };
          part = subst (λ x. IsPartOfMapped rule (tree_at to w) (tree (format_of from.vault) x)) (sym same)
              (part_gains rule (tree_at to v) (tree_at to w) (tree_at from v) planned.path item is gains.others gains.there k.part);
        };
        has = λ none. some_item item (sym gains.there ∙ none);
        keeps = λ path there none. elim (one_or_not path planned.path) [
          | inl one ↦ some_item item (sym gains.there ∙ ap (tree_at to w) (sym one) ∙ none)
          | inr other ↦ there (sym (gains.others path other.0) ∙ none)
        ];
        gains = λ path there. elim (one_or_not path planned.path) [
          | inl one ↦ inl one
          | inr other ↦ inr (λ none. there (gains.others path other.0 ∙ none))
        ];
        tidy = stays.tidy;
        loads = stays.loads;
      }

module _ (rule : NameMap) (from to : OpenedVault) (work : Path) (item : Planned) (t u : Option Told) (separate : AreSeparate from.root to.root work) (sound : AreSound t) (moves : MovesBeside (is_apart work to.root) work to.root t u)
    (of : IsItemOf rule t from item) where
  source_stays : (v w : View) → IsSeen t v → IsSeen u w → under from.root w ≡ under from.root v
  source_stays = seen_stays (is_apart work to.root) from.root t u sound (λ rest. source_apart from.root to.root work rest separate) (moves_to work (is_apart work to.root) to.root t u moves)

  pub directory_copies : DirectoriesOpen → item.node ≡ Dir → (s s' : Option ByteStream) → MakesDirectory to work item.path s s' t u (Ok tt) → CopiesOne rule from to item t u
  directory_copies opens node s s' made v w is_v is_w k =
      made_copies rule from to work item NewDirectory Whole made.drawn t u made.makes v w is_v is_w (source_stays v w is_v is_w)
      (λ whole. opens v rule (side_of from of.items) item (mapped_walk_of rule from of.items t v of.walked is_v k.source.orderly) of.among node) k

  pub file_copies : FilesOpen → FilesFit → item.node ≡ File → (content drawn : List ℕ) (ending : Ending)
      → ((a : Told) → t ≡ Some a → (c : Coming) → coming_read (reader_of from item) content_limit [] (seen a.state item.at) ≡ Some c → c ≡ record { bytes = content; ending = ending })
      → MakesAt New to work item.path (NewFile content) ending drawn t u (Ok tt) → CopiesOne rule from to item t u
  file_copies opens fits node content drawn ending told made v w is_v is_w k =
      made_copies rule from to work item (NewFile content) ending drawn t u made v w is_v is_w (source_stays v w is_v is_w)
      (λ whole.
      let shown : (a : Told) × (t ≡ Some a) × (v ≡ seen a.state) = told_of t is_v in
      let orderly : IsOrderly (format_of from.vault) (under from.root (seen shown.0.state)) = subst (λ x. IsOrderly (format_of from.vault) (under from.root x)) shown.2 k.source.orderly in
      subst (λ x. IsMappedItem rule (tree_at from x) item.path (opens_as (NewFile content))) (sym shown.2)
      (file_opens opens fits rule from t shown.0 item shown.1 of (mapped_walk_of rule from of.items t (seen shown.0.state) of.walked (subst (IsSeen t) shown.2 is_v) orderly) node content ending (told shown.0 shown.1) whole)) k
    where
      told_of : (t : Option Told) → IsSeen t v → (a : Told) × (t ≡ Some a) × (v ≡ seen a.state)
      told_of (Some a) is = (a, refl, is)
      told_of None is = absurd is

-- ---- one after the other

-- an item that stands there already
pub stands_copied : (rule : NameMap) (from to : OpenedVault) (there : List Planned) (item : Planned) (v w : View) → w ≡ v → StandsIn item there → HasCopied rule from to there v → Copies rule from to item v w
stands_copied rule from to there item v w same stands h = subst (Copies rule from to item v) (sym same) (record {
  copying = h.copying;
  has = subst (λ path. tree_at to v path ≢ NoItem) stands.2 (h.has stands.0 stands.1);
  keeps = λ path is. is;
  gains = λ path is. inr is;
  tidy = λ place is. is;
  loads = λ pass vault is. is;
})

pub none_copied : (rule : NameMap) (from to : OpenedVault) (there : List Planned) (v w : View) → w ≡ v → HasCopied rule from to there v → HasCopied rule from to (there ++ []) w
none_copied rule from to there v w same h = subst₂ (HasCopied rule from to) (sym (append-nil there)) (sym same) h

pub one_copied : (rule : NameMap) (from to : OpenedVault) (there items : List Planned) (k : ℕ) (item : Planned) (v w : View) → k < length items → item ≡ get_or items k item → HasCopied rule from to (there ++ take k items) v
    → Copies rule from to item v w → HasCopied rule from to (there ++ take (k + 1) items) w
one_copied rule from to there items k item v w inside at h copies =
    subst (λ xs. HasCopied rule from to xs w) (append_assoc there (take k items) (item ∷ []) ∙ ap (λ xs. there ++ xs) (ap (λ x. take k items ++ x ∷ []) at ∙ sym (take_more items k item inside))) (record {
      copying = copies.copying;
      has = λ one among. elim (Contains-push_cases (there ++ take k items) item one among) [
        | inl before ↦ copies.keeps one.path (h.has one before)
        | inr same ↦ subst (HasItem to w) same copies.has
      ];
    })

pub all_copied : (rule : NameMap) (from to : OpenedVault) (there items : List Planned) (v : View) → HasCopied rule from to (there ++ items) v → HasCopied rule from to items v
all_copied rule from to there items v h = record { copying = h.copying; has = λ item among. h.has item (Contains-append_right there items item among) }

pub there_copied : (rule : NameMap) (from to : OpenedVault) (there items : List Planned) (v : View) → HasCopied rule from to (there ++ items) v → HasCopied rule from to there v
there_copied rule from to there items v h = record { copying = h.copying; has = λ item among. h.has item (Contains-append_left there items item among) }
