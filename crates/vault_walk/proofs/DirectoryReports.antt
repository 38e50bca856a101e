-- The report of a directory, gathered from those of its folder's entries.
use Rattle.std.proofs.Common.{◌≡◌, ◌≢◌, ◌⊎◌, ◌<◌, ◌+◌, ◌++◌, ◌∷◌, [], ℕ, true, false, List, Some, is_some, inl, inr, refl, sym, ap, ◌∙◌, subst, append-nil, length, length-append, get_or, arith}
use Rattle.std.specs.Prelude.{AllPairs, Contains}
use Rattle.std.specs.Ordering.{is_eq}
use Rattle.std.specs.Str.{bytes_eq}
use Rattle.std.proofs.lemmas.List.{get_or_append_left}
use Rattle.std.proofs.lemmas.List.Elements.{Contains-append_left, Contains-append_right, Contains-append_cases, Contains-push, Contains-push_cases}
use Rattle.std.proofs.lemmas.Map.Text.{is_eq-slice_cmp}
use Rattle.std.proofs.lemmas.Slice.Eq.{bytes_eq-Decides}
use Rattle.std.proofs.Math.Seq.{get_or-append_seam}
use Rattle.folder_spec.specs.Listing as folder
use Rattle.folder_spec.specs.Listing.{IsListing}
use Rattle.folder_spec.specs.Path.{Part, Path, child}
use Rattle.folder_spec.specs.Seen.{under}
use Rattle.folder_spec.specs.View as view
use Rattle.folder_spec.specs.View.{NoEntry, Folder, FileOf, Special, View, kind_found}
use Rattle.folder_spec.specs.declared.Kind.TheVariants as kinds
use Rattle.plain_tree.specs.declared.NodeKind.{NodeKind}
use Rattle.plain_tree.specs.declared.NodeKind.TheVariants as node
use Rattle.vault_spec.specs.Format.{Format, Directory, Nothing, NoItem}
use Rattle.vault_spec.specs.Listing.{node_of}
use Rattle.vault_spec.specs.Standing.{entry_at, item_at, standing_in, standing_of}
use Rattle.vault_spec.specs.declared.Finding.{Finding}
use Rattle.vault_spec.specs.declared.Finding.TheVariants as is
use Rattle.vault_spec.specs.declared.Lack.{Lack}
use Rattle.vault_spec.specs.declared.Lack.TheVariants as lacks
use Rattle.vault_walk.specs.Here.{IsFindingHere, IsInsideHere, IsLockedHere, IsNoItemHere, IsOrphanHere, IsIdleHere, IsUnnamedHere}
use Rattle.vault_walk.specs.Report.{Addition, HasReported, HaveOwnNames, IsBelow, IsEntryIn, IsFoundHere, IsMember, IsReport, IsReportOf, is_told}
use Rattle.vault_walk.specs.declared.found.Found.{Found}
use Rattle.vault_walk.specs.declared.report.Member.{Member}
use Rattle.vault_walk.specs.declared.report.Report.{Report}
use Rattle.vault_walk.proofs.EntryReports.{none_apart}
use Rattle.vault_walk.proofs.Finds.{FindsRight}
use Rattle.vault_walk.proofs.Flats.{none_within}
use Rattle.vault_walk.proofs.NamedEntries.{item_named, standing_place, stands_as}
use Rattle.vault_walk.proofs.Pairs.{pairs_of_both, pairs_of_front}
use Rattle.vault_walk.proofs.SideNames.{right_is_file}

abbrev AreOwn : List folder.Item → Type 0
AreOwn entries = AllPairs (λ (x y : folder.Item). x.name ≢ y.name) entries

module _ (f : Format) (v : View) (dir : Directory) where
  pub none_reported : (report : Report) → report.members.items ≡ [] → report.found.items ≡ [] → HasReported f v dir [] report
  none_reported report members found = record {
    sound = λ member there. absurd (none_within member (subst (λ ms. Contains ms member) members there));
    complete = λ entry name node there stands same. absurd (none_within entry there);
    apart = λ own. subst HaveOwnNames (sym members) none_apart;
    found = λ x. (λ there. absurd (none_within x (subst (λ xs. Contains xs x) found there)), λ is_found. absurd (none_within is_found.0 is_found.1));
  }

  module _ (entries : List folder.Item) (e : folder.Item) (report : Report) (more : Addition) (all : Report) (before : HasReported f v dir entries report) (its : IsReportOf f v dir e.name more)
      (members : all.members.items ≡ report.members.items ++ more.members) (found : all.found.items ≡ report.found.items ++ more.found) where
    in_all : (member : Member) → Contains (report.members.items ++ more.members) member → Contains all.members.items member
    in_all member there = subst (λ ms. Contains ms member) (sym members) there

    old : (entry : folder.Item) → Contains entries entry → Contains (entries ++ e ∷ []) entry
    old entry there = Contains-append_left entries (e ∷ []) entry there

    sound_by : (member : Member) → Contains report.members.items member ⊎ Contains more.members member
        → (entry : folder.Item) × Contains (entries ++ e ∷ []) entry × IsMember f v dir member × ((f.stored dir.key member.name).name ≡ entry.name)
    sound_by member (inl there) = let s = before.sound member there in (s.0, old s.0 s.1, s.2, s.3)
    sound_by member (inr there) = let s = its.sound member there in (e, Contains-push entries e, s.0, s.1)

    complete_by : (entry : folder.Item) (name : List ℕ) (node : NodeKind) → Contains entries entry ⊎ (e ≡ entry) → node_of (standing_in f v dir name) ≡ Some node
        → (f.stored dir.key name).name ≡ entry.name → (member : Member) × Contains all.members.items member × (member.name ≡ name)
    complete_by entry name node (inl there) stands same =
        let c = before.complete entry name node there stands same in
        (c.0, in_all c.0 (Contains-append_left report.members.items more.members c.0 c.1), c.2)
    complete_by entry name node (inr is_e) stands same =
        let c = its.complete name node stands (same ∙ ap (λ (x : folder.Item). x.name) (sym is_e)) in
        (c.0, in_all c.0 (Contains-append_right report.members.items more.members c.0 c.1), c.2)

    -- an entry that was looked at has another name
    earlier : AreOwn (entries ++ e ∷ []) → (entry : folder.Item) → Contains entries entry → entry.name ≢ e.name
    earlier own entry there same =
        let within : there.0 < length entries = there.1 in
        let sizes : length (entries ++ e ∷ []) ≡ length entries + 1 = length-append entries (e ∷ []) in
        let first : get_or (entries ++ e ∷ []) there.0 entry ≡ entry = get_or_append_left entries (e ∷ []) entry there.0 there.1 ∙ there.2 in
        let last : get_or (entries ++ e ∷ []) (length entries) entry ≡ e = get_or-append_seam entries e [] entry in
        own there.0 (length entries) entry (omega (arith, within)) (omega (arith, sizes))
        (ap (λ (x : folder.Item). x.name) first ∙ same ∙ sym (ap (λ (x : folder.Item). x.name) last))

    apart_by : AreOwn (entries ++ e ∷ []) → HaveOwnNames (report.members.items ++ more.members)
    apart_by own =
        pairs_of_both (λ (x y : Member). x.name ≢ y.name) report.members.items more.members
        (before.apart (pairs_of_front (λ (x y : folder.Item). x.name ≢ y.name) entries (e ∷ []) own)) its.apart
        (λ x y one two same.
        let s = before.sound x one in
        earlier own s.0 s.1 (sym s.3 ∙ ap (λ n. (f.stored dir.key n).name) same ∙ (its.sound y two).1))

    IsFoundAt : folder.Item → Found → Type 0
    IsFoundAt entry x = IsFoundHere f v dir x × IsBelow (child dir.folder entry.name) x.at

    found_on : (x : Found) → Contains report.found.items x ⊎ Contains more.found x
        → (entry : folder.Item) × Contains (entries ++ e ∷ []) entry × IsFoundHere f v dir x × IsBelow (child dir.folder entry.name) x.at
    found_on x (inl there) = let s = (before.found x).0 there in (s.0, old s.0 s.1, s.2, s.3)
    found_on x (inr there) = let s = (its.found x).0 there in (e, Contains-push entries e, s.0, s.1)

    found_back : (x : Found) (entry : folder.Item) → Contains entries entry ⊎ (e ≡ entry) → IsFoundHere f v dir x → IsBelow (child dir.folder entry.name) x.at
        → Contains (report.found.items ++ more.found) x
    found_back x entry (inl there) here below = Contains-append_left report.found.items more.found x ((before.found x).1 (entry, there, here, below))
    found_back x entry (inr is_e) here below =
        Contains-append_right report.found.items more.found x
        ((its.found x).1 (here, subst (λ (y : folder.Item). IsBelow (child dir.folder y.name) x.at) (sym is_e) below))

    pub one_more_reported : HasReported f v dir (entries ++ e ∷ []) all
    one_more_reported = record {
      sound = λ member there. sound_by member (Contains-append_cases report.members.items more.members member (subst (λ ms. Contains ms member) members there));
      complete = λ entry name node there stands same. complete_by entry name node (Contains-push_cases entries e entry there) stands same;
      apart = λ own. subst HaveOwnNames (sym members) (apart_by own);
      found = λ x. (
        λ there. found_on x (Contains-append_cases report.found.items more.found x (subst (λ xs. Contains xs x) found there)),
        λ is_found. subst (λ xs. Contains xs x) (sym found) (found_back x is_found.0 (Contains-push_cases entries e is_found.0 is_found.1) is_found.2 is_found.3),
      );
    }

-- where something is found, an entry stands
abbrev StandsAbove : View → Directory → Path → Type 0
StandsAbove v dir x = (entry : Part) × (v (child dir.folder entry) ≢ NoEntry) × IsBelow (child dir.folder entry) x

module _ (f : Format) (right : FindsRight f) (v : View) (dir : Directory) where
  no_item : (name : List ℕ) → v (entry_at f dir name) ≡ NoEntry → item_at f v dir (f.stored dir.key name) ≡ Nothing
  no_item name none = right.absent (is_some (f.stored dir.key name).full) (under (entry_at f dir name) v) (ap v (append-nil (entry_at f dir name)) ∙ none)

  at_entry : (entry : Part) (x : Path) → x ≡ child dir.folder entry → IsBelow (child dir.folder entry) x
  at_entry entry x e = ([], e ∙ sym (append-nil (child dir.folder entry)))

  -- where an item stands under a name, something stands at its entry
  pub item_stands : (name : List ℕ) (node : NodeKind) → node_of (standing_in f v dir name) ≡ Some node → v (entry_at f dir name) ≢ NoEntry
  item_stands name node stands none =
      let of = item_named f v dir name node stands in
      let absent : node_of (standing_of f v (entry_at f dir name) true Nothing) ≡ Some node
      = ap node_of (sym (stands_as f v dir name (entry_at f dir name) Nothing of.named of.full refl (no_item name none))) ∙ stands in
      cc absent

  above_unnamed : (finding : Finding) (x : Path) → IsUnnamedHere f v dir finding x → StandsAbove v dir x
  above_unnamed finding x u = (u.entry, subst (λ p. v p ≢ NoEntry) u.place u.there, at_entry u.entry x u.place)

  above_odd : (finding : Finding) (x : Path) → IsNoItemHere f v dir finding x → StandsAbove v dir x
  above_odd finding x u = ((f.stored dir.key u.name).name, (λ none. clash (sym (no_item u.name none) ∙ u.is)), at_entry (f.stored dir.key u.name).name x u.place)
    where
      clash : Nothing ≡ NoItem finding → ⊥
      clash e = cc

  above_locked : (lack : Lack) (x : Path) → IsLockedHere f v dir lack x → StandsAbove v dir x
  above_locked lack x u = (
    (f.stored dir.key u.name).name,
    item_stands u.name node.Dir (ap node_of u.stands),
    at_entry (f.stored dir.key u.name).name x (sym (standing_place f v dir u.name x lack u.stands)),
  )

  above_inside : (x : Path) → IsInsideHere f v dir x → StandsAbove v dir x
  above_inside x u = (
    (f.stored dir.key u.name).name,
    λ none. right.inner_nothing (is_some (f.stored dir.key u.name).full) u.entry (v x)
        (ap (λ i. f.inner_role (is_some (f.stored dir.key u.name).full) i u.entry (v x)) (sym (no_item u.name none)) ∙ u.extra),
    (u.entry ∷ [], u.place),
  )

  file_stands : (there : view.Found) (bytes : List ℕ) → there ≡ FileOf bytes → there ≢ NoEntry
  file_stands there bytes e none = let clash : FileOf bytes ≡ NoEntry = sym e ∙ none in cc clash

  above_orphan : (x : Path) → IsOrphanHere f v dir x → StandsAbove v dir x
  above_orphan x o = (o.file, subst (λ p. v p ≢ NoEntry) o.place (file_stands (v x) o.there.0 o.there.1), at_entry o.file x o.place)

  above_idle : (x : Path) → IsIdleHere f v dir x → StandsAbove v dir x
  above_idle x o =
      let is_file = right_is_file f v dir o.file o.entry o.right in
      (o.file, file_stands (v (child dir.folder o.file)) is_file.0 is_file.1, at_entry o.file x o.place)

  above : (finding : Finding) (x : Path) → is_told finding ≡ true → IsFindingHere f v dir finding x → StandsAbove v dir x
  above is.BadStoredName x told here = above_unnamed is.BadStoredName x here
  above is.NoDirKey x told here = above_locked lacks.NoDirKey x here
  above is.LongNameLost x told here = above_unnamed is.LongNameLost x here
  above is.OrphanLongName x told here = above_orphan x here
  above is.DirIdTwice x told here = absurd here
  above is.NoFolder x told here = above_locked lacks.NoFolder x here
  above is.OrphanFolder x told here = absurd here
  above is.SymlinkFound x told here = above_odd is.SymlinkFound x here
  above is.WrongKind x told (inl here) = above_unnamed is.WrongKind x here
  above is.WrongKind x told (inr here) = above_odd is.WrongKind x here
  above is.ExtraEntry x told here = above_inside x here
  above is.TwoKinds x told here = above_odd is.TwoKinds x here
  above is.HeaderDamaged x told here = cc
  above is.ChunkDamaged x told here = cc
  above is.EmptyOrphan x told here = above_idle x here

  kind_there : (there : view.Found) → there ≢ NoEntry → kind_found there ≢ kinds.Missing
  kind_there NoEntry some e = some refl
  kind_there Folder some e = cc
  kind_there (FileOf bytes) some e = cc
  kind_there Special some e = cc

  module _ (entries : List folder.Item) (listing : IsListing v dir.folder entries) where
    -- what stands is listed
    its_entry : (name : Part) → v (child dir.folder name) ≢ NoEntry → (entry : folder.Item) × Contains entries entry × (entry.name ≡ name)
    its_entry name some =
        let entry : folder.Item = record { name = name; kind = kind_found (v (child dir.folder name)) } in
        (entry, (listing.entries entry).1 (kind_there (v (child dir.folder name)) some, refl), refl)

    pub listed_in : (entry : folder.Item) → Contains entries entry → IsEntryIn v dir entry
    listed_in entry there = let both = (listing.entries entry).0 there in record { there = both.0; kind = both.1 }

    own_names : AreOwn entries
    own_names i j d less within same =
        let equal : bytes_eq (get_or entries i d).name (get_or entries j d).name ≡ true = (bytes_eq-Decides (get_or entries i d).name (get_or entries j d).name).1 same in
        let clash : true ≡ false = sym equal ∙ sym (is_eq-slice_cmp (get_or entries i d).name (get_or entries j d).name) ∙ ap is_eq (listing.ordered i j d less within) in cc clash

    -- the report of all entries that a folder shows is that of the directory
    pub all_reported : (report : Report) → HasReported f v dir entries report → IsReport f v dir report
    all_reported report has = record {
      sound = λ member there. (has.sound member there).2;
      complete = λ name node stands.
          let entry = its_entry (f.stored dir.key name).name (item_stands name node stands) in
          has.complete entry.0 name node entry.1 stands (sym entry.2);
      apart = has.apart own_names;
      found = λ x. (
        λ there. ((has.found x).0 there).2,
        λ here.
            let up = above here.finding x.at here.told here.here in
            let entry = its_entry up.0 up.1 in
            (has.found x).1 (entry.0, entry.1, here, subst (λ n. IsBelow (child dir.folder n) x.at) (sym entry.2) up.2),
      );
    }
