-- What an entry that is of a name adds to a report, by what the entry is.
use Rattle.std.proofs.Common.{◌≡◌, ◌≢◌, ◌⊎◌, ◌↔◌, ◌<◌, ◌++◌, ◌∷◌, [], ℕ, true, List, Some, Err, inl, inr, refl, sym, ap, ◌∙◌, subst, append-nil, arith}
use Rattle.std.specs.Prelude.{Contains}
use Rattle.std.proofs.lemmas.List.Elements.{Contains-append_left, Contains-append_right, Contains-append_cases, Contains-push}
use Rattle.folder_spec.specs.Listing as folder
use Rattle.folder_spec.specs.Path.{Part, Path, child}
use Rattle.folder_spec.specs.Seen.{under}
use Rattle.folder_spec.specs.View.{NoEntry, View, kind_found}
use Rattle.plain_tree.specs.declared.NodeKind.{NodeKind}
use Rattle.vault_spec.specs.Findings.{number_of}
use Rattle.vault_spec.specs.Format.{Format, Directory, Nothing, FileItem, DirectoryItem, NoItem, key_of}
use Rattle.vault_spec.specs.Listing.{node_of}
use Rattle.vault_spec.specs.Standing.{Dir, directory_with, standing_in, standing_of}
use Rattle.vault_spec.specs.declared.Finding.{Finding}
use Rattle.vault_spec.specs.declared.Finding.TheVariants as is
use Rattle.vault_spec.specs.declared.Lack.{Lack}
use Rattle.vault_spec.specs.declared.Lack.TheVariants as lacks
use Rattle.vault_spec.specs.Cryptomator.{content_file}
use Rattle.vault_spec.specs.Vault.{Vault}
use Rattle.vault_read.specs.Items.{item_of}
use Rattle.vault_read.specs.declared.items.EntryItem.{EntryItem}
use Rattle.vault_read.specs.declared.items.EntryItem.TheVariants as items
use Rattle.vault_read.specs.declared.listing.NameAt.{NameAt}
use Rattle.vault_walk.specs.Report.{Addition, AreInside, HaveOwnNames, IsEntryIn, IsLeadOf, IsMainOf, IsMember, IsNamed, LeadsRight, FitMembers, FitsLead, FitsWhat, found_by, lack_by, lead_of, leaf_found, leaf_members, standing_by}
use Rattle.vault_walk.specs.declared.found.Found.{Found}
use Rattle.vault_walk.specs.declared.report.Lead.{Lead}
use Rattle.vault_walk.specs.declared.report.Lead.TheVariants as lead
use Rattle.vault_walk.specs.declared.report.Member.{Member}
use Rattle.vault_walk.specs.declared.report.What.TheVariants as what
use Rattle.vault_walk.proofs.Finds.{FindsRight}
use Rattle.vault_walk.proofs.Flats.{none_within, only_one}
use Rattle.vault_walk.proofs.NamedEntries.{IsFoundOf, Odd, Locked, Inside, finding_of, item_named, name_here, named_on, named_back, stands_here}

found_one : Path → ℕ → Found
found_one at number = record { at = at; number = number }

-- what is found at a path
pub by_on : (at : Path) (finding : Finding) (x : Found) → Contains (found_by at (Some finding)) x → (x.at ≡ at) × (x.number ≡ number_of finding)
by_on at finding x there =
    let same = only_one (record { at = at; number = number_of finding }) x there in
    (sym (ap (λ (y : Found). y.at) same), sym (ap (λ (y : Found). y.number) same))

pub by_back : (at : Path) (finding : Finding) (x : Found) → x.at ≡ at → x.number ≡ number_of finding → Contains (found_by at (Some finding)) x
unfolding found_one
by_back at finding x place number =
    let same : found_one at (number_of finding) ≡ x = ap (λ p. found_one p (number_of finding)) (sym place) ∙ ap (found_one x.at) (sym number) in
    subst (Contains (found_by at (Some finding))) same (Contains-push [] (found_one at (number_of finding)))

pub none_apart : HaveOwnNames []
none_apart i j d less within = absurd (omega (arith, within))

pub one_apart : (member : Member) → HaveOwnNames (member ∷ [])
one_apart member i j d less within =
    let first : i < j = less in
    let last : j < 1 = within in
    absurd (omega (arith, first, last))

fit_both : (vault : Vault) (one two all : List Member) → all ≡ one ++ two → FitMembers vault one → FitMembers vault two → FitMembers vault all
fit_both vault one two all e fits more member there = by_place (Contains-append_cases one two member (subst (λ ms. Contains ms member) e there))
  where
    by_place : Contains one member ⊎ Contains two member → FitsWhat vault member.what
    by_place (inl old) = fits member old
    by_place (inr new) = more member new

one_fits : (vault : Vault) (m : Member) → FitsWhat vault m.what → FitMembers vault (m ∷ [])
one_fits vault m fits member there = subst (λ (x : Member). FitsWhat vault x.what) (only_one m member there) fits

none_fits : (vault : Vault) → FitMembers vault []
none_fits vault member there = absurd (none_within member there)

-- no directory is led to
pub leaf_fits : (vault : Vault) (at : Path) (name : List ℕ) (item : EntryItem) (before after : List Member) → after ≡ before ++ leaf_members at name item → FitMembers vault before → FitMembers vault after
leaf_fits vault at name item before after added fits = fit_both vault before (leaf_members at name item) after added fits (by_item item)
  where
    by_item : (item : EntryItem) → FitMembers vault (leaf_members at name item)
    by_item items.EntryFile = one_fits vault (record { name = name; at = at; what = what.File }) tt
    by_item items.ContentFile = one_fits vault (record { name = name; at = child at content_file; what = what.File }) tt
    by_item items.Directory = none_fits vault
    by_item items.Nothing = none_fits vault
    by_item (items.NoItem finding) = none_fits vault

-- a directory whose key fits is led to
pub lead_fits : (vault : Vault) (at : Path) (name : List ℕ) (its_lead : Lead) (before after : List Member) → after ≡ before ++ (record { name = name; at = at; what = what.Dir its_lead }) ∷ [] → FitsLead vault its_lead
    → FitMembers vault before → FitMembers vault after
lead_fits vault at name its_lead before after added its_fits fits =
    fit_both vault before ((record { name = name; at = at; what = what.Dir its_lead }) ∷ []) after added fits (one_fits vault (record { name = name; at = at; what = what.Dir its_lead }) its_fits)

-- the items of an entry
pub record AreMembersOf (f : Format) (v : View) (dir : Directory) (entry : Part) (members : List Member) : Type 0 where
  pub sound : (member : Member) → Contains members member → IsMember f v dir member × ((f.stored dir.key member.name).name ≡ entry)
  pub complete : (name : List ℕ) (node : NodeKind) → node_of (standing_in f v dir name) ≡ Some node → (f.stored dir.key name).name ≡ entry
      → (member : Member) × Contains members member × (member.name ≡ name)
  pub apart : HaveOwnNames members

module _ (f : Format) (right : FindsRight f) (v : View) (dir : Directory) (entry : Part) (at : Path) (named : NameAt) (place : at ≡ child dir.folder entry) (its : IsNamed f v dir entry named) where
  none_held : (members : List Member) → members ≡ [] → ((node : NodeKind) → node_of (standing_of f v at true (f.item named.long (under at v))) ≡ Some node → ⊥) → AreMembersOf f v dir entry members
  none_held members e none = record {
    sound = λ member there. absurd (none_within member (subst (λ ms. Contains ms member) e there));
    complete = λ name node stands same.
        let name_is = name_here f right v dir entry at named place its name (item_named f v dir name node stands) same in
        absurd (none node (ap node_of (sym (stands_here f right v dir entry at named place its)) ∙ ap (λ n. node_of (standing_in f v dir n)) (sym name_is) ∙ stands));
    apart = subst HaveOwnNames (sym e) none_apart;
  }

  one_held : (members : List Member) (m : Member) → members ≡ m ∷ [] → m.name ≡ named.name
      → standing_of f v at true (f.item named.long (under at v)) ≡ standing_by m.at m.what → LeadsRight f v m.at m.what → AreMembersOf f v dir entry members
  one_held members m e name stands leads = record {
    sound = λ member there. subst (λ (m : Member). IsMember f v dir m × ((f.stored dir.key m.name).name ≡ entry)) (only_one m member (subst (λ ms. Contains ms member) e there)) own;
    complete = λ other node held same. (m, subst (λ ms. Contains ms m) (sym e) (Contains-push [] m), name ∙ sym (name_here f right v dir entry at named place its other (item_named f v dir other node held) same));
    apart = subst HaveOwnNames (sym e) (one_apart m);
  }
    where
      own : IsMember f v dir m × ((f.stored dir.key m.name).name ≡ entry)
      own = (
        record { stands = ap (standing_in f v dir) name ∙ stands_here f right v dir entry at named place its ∙ stands; leads = leads },
        ap (λ n. (f.stored dir.key n).name) name ∙ its.of.stores,
      )

  main_of : (more : Addition) → AreMembersOf f v dir entry more.members → ((x : Found) → Contains more.found x ↔ IsFoundOf f v at named.long (f.item named.long (under at v)) x) → IsMainOf f v dir entry more
  main_of more members found = record {
    sound = members.sound;
    complete = members.complete;
    apart = members.apart;
    found = λ x. (λ there. named_back f right v dir entry at named place its x ((found x).0 there), λ is. (found x).1 (named_on f right v dir entry at named place its x is));
  }

  -- nothing stands at no entry
  pub main_nothing : (e : folder.Item) → e.name ≡ entry → IsEntryIn v dir e → f.item named.long (under at v) ≡ Nothing → ⊥
  main_nothing e name listed item =
      let none : v (child dir.folder e.name) ≡ NoEntry
      = ap (λ n. v (child dir.folder n)) name ∙ ap v (sym place ∙ sym (append-nil at)) ∙ right.present named.long (under at v) item in
      listed.there (sym listed.kind ∙ ap kind_found none)

  main_file : (rest : Path) (inside : List Found) → f.item named.long (under at v) ≡ FileItem rest → AreInside f v at named.long (f.item named.long (under at v)) inside
      → IsMainOf f v dir entry (record { members = (record { name = named.name; at = at ++ rest; what = what.File }) ∷ []; found = inside })
  main_file rest inside item are =
      main_of (record { members = m ∷ []; found = inside }) (one_held (m ∷ []) m refl refl (ap (standing_of f v at true) item) tt) (λ x. (λ there. Inside ((are x).0 there), back x))
    where
      m : Member
      m = record { name = named.name; at = at ++ rest; what = what.File }

      back : (x : Found) → IsFoundOf f v at named.long (f.item named.long (under at v)) x → Contains inside x
      back x (Odd finding other x_at number) = let clash : FileItem rest ≡ NoItem finding = sym item ∙ other in cc clash
      back x (Locked lack other lead x_at number) = let clash : FileItem rest ≡ DirectoryItem = sym item ∙ other in cc clash
      back x (Inside u) = (are x).1 u

  main_odd : (finding : Finding) → f.item named.long (under at v) ≡ NoItem finding → IsMainOf f v dir entry (record { members = []; found = found_by at (Some finding) })
  main_odd finding item =
      main_of (record { members = []; found = found_by at (Some finding) })
      (none_held [] refl (λ node stands. no_node node (ap (λ i. node_of (standing_of f v at true i)) (sym item) ∙ stands)))
      (λ x. (on x, back x))
    where
      no_node : (node : NodeKind) → node_of (standing_of f v at true (NoItem finding)) ≡ Some node → ⊥
      no_node node e = cc

      on : (x : Found) → Contains (found_by at (Some finding)) x → IsFoundOf f v at named.long (f.item named.long (under at v)) x
      on x there = let one = by_on at finding x there in Odd finding item one.0 one.1

      back : (x : Found) → IsFoundOf f v at named.long (f.item named.long (under at v)) x → Contains (found_by at (Some finding)) x
      back x (Odd other also x_at number) =
          let both : NoItem other ≡ NoItem finding = sym also ∙ item in
          let same : other ≡ finding = cc in
          by_back at finding x x_at (number ∙ ap number_of same)
      back x (Locked lack other lead x_at number) = let clash : NoItem finding ≡ DirectoryItem = sym item ∙ other in cc clash
      back x (Inside u) = absurd (right.inner_odd named.long finding u.entry (v x.at) (ap (λ i. f.inner_role named.long i u.entry (v x.at)) (sym item) ∙ u.extra))

  pub main_leaf : (e : folder.Item) (item : EntryItem) (inside : List Found) → e.name ≡ entry → IsEntryIn v dir e → item ≢ items.Directory → item_of item ≡ f.item named.long (under at v)
      → AreInside f v at named.long (f.item named.long (under at v)) inside → IsMainOf f v dir entry (record { members = leaf_members at named.name item; found = leaf_found at item inside })
  main_leaf e items.Nothing inside name listed other is are = absurd (main_nothing e name listed (sym is))
  main_leaf e items.EntryFile inside name listed other is are =
      subst (λ p. IsMainOf f v dir entry (record { members = (record { name = named.name; at = p; what = what.File }) ∷ []; found = inside })) (append-nil at) (main_file [] inside (sym is) are)
  main_leaf e items.ContentFile inside name listed other is are = main_file (content_file ∷ []) inside (sym is) are
  main_leaf e items.Directory inside name listed other is are = absurd (other refl)
  main_leaf e (items.NoItem finding) inside name listed other is are = main_odd finding (sym is)

  -- what a directory item lacks
  lack_on : (its_lead : Lead) (x : Found) → f.item named.long (under at v) ≡ DirectoryItem → directory_with f v at (key_of f (under at v)) ≡ lead_of its_lead → Contains (found_by at (lack_by its_lead)) x
      → IsFoundOf f v at named.long (f.item named.long (under at v)) x
  lack_on lead.NoKey x item directory there = let one = by_on at is.NoDirKey x there in Locked lacks.NoDirKey item directory one.0 one.1
  lack_on (lead.NoFolder to) x item directory there = let one = by_on at is.NoFolder x there in Locked lacks.NoFolder item directory one.0 one.1
  lack_on (lead.To to) x item directory there = absurd (none_within x there)

  lack_back : (its_lead : Lead) (lack : Lack) (x : Found) → lead_of its_lead ≡ Err lack → x.at ≡ at → x.number ≡ number_of (finding_of lack) → Contains (found_by at (lack_by its_lead)) x
  lack_back lead.NoKey lack x e x_at number =
      let same : lack ≡ lacks.NoDirKey = cc in by_back at is.NoDirKey x x_at (number ∙ ap (λ l. number_of (finding_of l)) same)
  lack_back (lead.NoFolder to) lack x e x_at number =
      let same : lack ≡ lacks.NoFolder = cc in by_back at is.NoFolder x x_at (number ∙ ap (λ l. number_of (finding_of l)) same)
  lack_back (lead.To to) lack x e x_at number = cc

  pub main_directory : (its_lead : Lead) (inside : List Found) → f.item named.long (under at v) ≡ DirectoryItem → IsLeadOf f v at its_lead
      → AreInside f v at named.long (f.item named.long (under at v)) inside
      → IsMainOf f v dir entry (record { members = (record { name = named.name; at = at; what = what.Dir its_lead }) ∷ []; found = inside ++ found_by at (lack_by its_lead) })
  main_directory its_lead inside item leads are =
      main_of (record { members = m ∷ []; found = inside ++ found_by at (lack_by its_lead) }) (one_held (m ∷ []) m refl refl stands leads) (λ x. (on x, within x))
    where
      m : Member
      m = record { name = named.name; at = at; what = what.Dir its_lead }

      stands : standing_of f v at true (f.item named.long (under at v)) ≡ Dir at (lead_of its_lead)
      stands = ap (standing_of f v at true) item ∙ ap (Dir at) leads.directory

      by_place : (x : Found) → Contains inside x ⊎ Contains (found_by at (lack_by its_lead)) x → IsFoundOf f v at named.long (f.item named.long (under at v)) x
      by_place x (inl there) = Inside ((are x).0 there)
      by_place x (inr there) = lack_on its_lead x item leads.directory there

      on : (x : Found) → Contains (inside ++ found_by at (lack_by its_lead)) x → IsFoundOf f v at named.long (f.item named.long (under at v)) x
      on x there = by_place x (Contains-append_cases inside (found_by at (lack_by its_lead)) x there)

      within : (x : Found) → IsFoundOf f v at named.long (f.item named.long (under at v)) x → Contains (inside ++ found_by at (lack_by its_lead)) x
      within x (Odd finding other x_at number) = let clash : DirectoryItem ≡ NoItem finding = sym item ∙ other in cc clash
      within x (Locked lack other directory x_at number) =
          Contains-append_right inside (found_by at (lack_by its_lead)) x (lack_back its_lead lack x (sym leads.directory ∙ directory) x_at number)
      within x (Inside u) = Contains-append_left inside (found_by at (lack_by its_lead)) x ((are x).1 u)
