-- At which content comparing the two vaults stops when it passes the limit.
use Rattle.std.proofs.Common.{◌≡◌, ◌⊎◌, inl, inr, ℕ, ◌+◌, ◌*◌, ◌≤◌, ◌<◌, ◌++◌, nat_eq, nat_lt, Bool, true, false, List, length, take, drop, Option, Some, Result, Ok, Err, IfErr, IsErrAnd, Contains, refl, sym, ap, ◌∙◌, subst, subst₂, arith}
use Rattle.std.proofs.Math.Seq.{drop-append_seam}
use Rattle.std.proofs.lemmas.Bool.{ltb-true, le-ltb}
use Rattle.std.proofs.lemmas.List.{length-take, take_all}
use Rattle.std.specs.Cmp.Lexicographic.{bytes_decides}
use Rattle.std.specs.List.{concat, starts_with}
use Rattle.chunk_files.specs.Contents.{read_file, readable}
use Rattle.chunk_files.specs.Format.{stored_size}
use Rattle.chunk_files.specs.Keys as contents
use Rattle.chunk_files.specs.Keys.{Keys}
use Rattle.chunk_files.specs.Reading.{Ending, Reading, Whole, Wanting, Faulty}
use Rattle.chunk_files.specs.Sizes.{FilesAreNotMuchLonger, IsFaultless}
use Rattle.chunk_files.proofs.LayoutSizes.{sizes_fit}
use Rattle.folder_spec.specs.Event.{Told}
use Rattle.folder_spec.specs.Path.{Path}
use Rattle.folder_spec.specs.Seen.{IfSeen, IsSeen, ShowsFile, under}
use Rattle.folder_spec.specs.View.{Found, View, NoEntry, Folder, FileOf, Special}
use Rattle.migration_sides.specs.Sides.{IsWalked, opened_in}
use Rattle.plain_tree.specs.Mapped.{mapped_path}
use Rattle.plain_tree.specs.Names as plain
use Rattle.port_model.specs.Draws.{ByteStream}
use Rattle.plain_tree.specs.declared.NodeKind.TheVariants as node
use Rattle.plain_tree.specs.declared.name_map.NameMap.{NameMap}
use Rattle.tree_match.proofs.CutItems.{EndsWithin, IsCutItem, cut_content, cut_item}
use Rattle.tree_match.proofs.HeldTrees.{file_stands, planned, FilesAreThere}
use Rattle.tree_match.specs.Comparing.{Answers, Content, Outcome, Stops, bytes_found, content_at}
use Rattle.tree_match.specs.Matching.{matched}
use Rattle.tree_match.specs.Trees.{side_of}
use Rattle.tree_match.specs.declared.answer.Match.{Match}
use Rattle.tree_match.specs.declared.answer.MatchFault.{MatchFault}
use Rattle.tree_match.specs.declared.answer.MatchFault.TheVariants as match
use Rattle.vault_read.specs.Contents.{limited_reading}
use Rattle.vault_faults.specs.Limits.{content_limit}
use Rattle.vault_read.specs.OwnFolders.{HasOwnFolders}
use Rattle.vault_spec.specs.Opened.{OpenedVault}
use Rattle.vault_faults.specs.declared.fault.Limit.TheVariants as limit
use Rattle.vault_spec.proofs.Endings.{whole_ends}
use Rattle.vault_spec.specs.Format.{Format, file_bytes}
use Rattle.vault_spec.specs.Opens.{opened, opened_at, opened_by, opened_file}
use Rattle.vault_spec.specs.Plan.{Planned, IsPlanned}
use Rattle.vault_spec.specs.Standing.{File, standing}
use Rattle.vault_spec.specs.Vault.{IsVault, format_of}
use Rattle.vault_walk.specs.Surveyed.{placed}
use Rattle.migrate_core.proofs.Copyings.{copied_as}
use Rattle.migrate_core.proofs.MappedItems.{own_item}
use Rattle.migrate_core.proofs.Sharing.{later_taken, share_in_tree, stops_more, taken_for, taken_more}
use Rattle.migrate_core.specs.Causes.{StopsLater}
use Rattle.migrate_core.specs.Copying.{CopiesAll, HasCopied, MayBegin, StayGood}
use Rattle.migration_spec.specs.Guard.{tree_at}
use Rattle.migrate_core.specs.Faults.{of_match}
use Rattle.migrate_core.specs.Sharing.{IsOfTaken, SharesInTree, SharesSeen}
use Rattle.migrate_core.specs.Limits.{StopsElsewhere, StopsFor, EndsBy, HasSmallContents, IsContentAt, IsCut, IsLonger, IsOfLimit, IsSmall, PassesAsTold, PassesInTree, PassesLimit, content_in}
use Rattle.migrate_core.specs.Sides.{IsMappedWalk}
use Rattle.migrate_core.specs.declared.fault.MoveFault.{MoveFault}
use Rattle.migrate_core.specs.declared.fault.MoveFault.TheVariants.{Work, Journal as Unread, Overlap, Load, Walk, NotEmpty, NotAllowed, Meet, Changed, Match as Matching, Differ, Place, SourceGone, Failed, NoMemory}
use Rattle.migration_sides.proofs.Chains.{fault_as, refused_as}

-- ---- how much is read where reading ends at the limit

-- over any limit, so that nothing computes with so great a number
module _ (most : ℕ) (great : 131072 ≤ most) (short : FilesAreNotMuchLonger) (keys : Keys) (bytes : List ℕ) where
  -- a header and a stored chunk
  abbrev beside : ℕ
  beside = (contents.format_of keys).header_size + stored_size (contents.format_of keys)

  few_beside : beside ≤ 32904
  few_beside = omega (arith, (sizes_fit keys).few_header, (sizes_fit keys).few_stored)

  abbrev limited : Reading
  limited = read_file keys (take most bytes) (nat_lt most (length bytes))

  small_whole : (readable keys bytes).ending ≡ Whole → 64 * (length (concat (readable keys bytes).chunks) + 2) ≤ most → limited ≡ readable keys bytes
  small_whole whole small =
      let few : length bytes ≤ 33 * length (concat (readable keys bytes).chunks) + beside = short keys bytes false (subst IsFaultless (sym whole) tt) in
      let fits : length bytes ≤ most = omega (arith, few, few_beside, small, great) in
      ap (λ (xs : List ℕ). read_file keys xs (nat_lt most (length bytes))) (take_all most bytes fits) ∙ ap (read_file keys bytes) (le-ltb most (length bytes) fits)

  -- the file goes on
  goes_on : limited.ending ≡ Wanting → nat_lt most (length bytes) ≡ true
  goes_on wanting = by (nat_lt most (length bytes)) refl
    where
      by : (more : Bool) → nat_lt most (length bytes) ≡ more → nat_lt most (length bytes) ≡ true
      by true is = is
      by false is = absurd (whole_ends keys (take most bytes) (ap (λ more. (read_file keys (take most bytes) more).ending) (sym is) ∙ wanting))

  cut_longer : limited.ending ≡ Wanting → most < length bytes
  cut_longer wanting = ltb-true most (length bytes) (goes_on wanting)

  cut_long : limited.ending ≡ Wanting → most ≤ 33 * length (concat limited.chunks) + beside
  cut_long wanting =
      let few : length (take most bytes) ≤ 33 * length (concat limited.chunks) + beside = short keys (take most bytes) (nat_lt most (length bytes)) (subst IsFaultless (sym wanting) tt) in
      omega (arith, few, cut_longer wanting, length-take most bytes)

  -- and so much isn't the front of a small content
  not_within : limited.ending ≡ Wanting → (content : List ℕ) → 64 * (length content + 2) ≤ most → starts_with nat_eq content (concat limited.chunks) ≡ true → ⊥
  not_within wanting content small begins =
      let is : concat limited.chunks ≡ take (length (concat limited.chunks)) content = (bytes_decides (concat limited.chunks) (take (length (concat limited.chunks)) content)).0 begins in
      let within : length (concat limited.chunks) ≤ length content = omega (arith, ap (λ (xs : List ℕ). length xs) is, length-take (length (concat limited.chunks)) content) in
      omega (arith, within, cut_long wanting, few_beside, small, great)

-- ---- what passes the limit

at_limit : 131072 ≤ content_limit
at_limit = omega arith

longer_at : FilesAreNotMuchLonger → (keys : Keys) (v : View) (q at : Path) → q ≡ at → (content_at keys v q).ending ≡ Wanting → IsLonger v at
longer_at short keys v q at same wanting = subst (IsLonger v) same (by (v q) refl)
  where
    more : content_limit < length (bytes_found (v q))
    more = cut_longer content_limit at_limit short keys (bytes_found (v q)) wanting

    by : (found : Found) → v q ≡ found → IsLonger v q
    by (FileOf bytes) is = record { bytes = bytes; file = is; more = subst (λ found. content_limit < length (bytes_found found)) is more }
    by NoEntry is = absurd (omega (arith, subst (λ found. content_limit < length (bytes_found found)) is more))
    by Folder is = absurd (omega (arith, subst (λ found. content_limit < length (bytes_found found)) is more))
    by Special is = absurd (omega (arith, subst (λ found. content_limit < length (bytes_found found)) is more))

pub passed_longer : FilesAreNotMuchLonger → (rule : NameMap) (from to : OpenedVault) (v : View) (at : Path) → PassesLimit rule from to v at → IsLonger v at
passed_longer short rule from to v at p = by p.cut
  where
    by : IsCut at (content_in from v p.source) (content_in to v p.target) ⊎ IsCut at (content_in to v p.target) (content_in from v p.source) → IsLonger v at
    by (inl cut) = longer_at short (format_of from.vault).content v (from.root ++ p.source) at cut.place cut.wanting
    by (inr cut) = longer_at short (format_of to.vault).content v (to.root ++ p.target) at cut.place cut.wanting

-- a file that opens as a small content
record IsSmallFile (keys : Keys) (bytes : List ℕ) : Type 0 where
  whole : (readable keys bytes).ending ≡ Whole
  small : 64 * (length (concat (readable keys bytes).chunks) + 2) ≤ content_limit

small_file : (keys : Keys) (bytes : List ℕ) → IsSmall (opened_file keys (Some bytes)) → IsSmallFile keys bytes
small_file keys bytes small = by (readable keys bytes).ending refl small
  where
    by : (ending : Ending) → (readable keys bytes).ending ≡ ending → IsSmall (opened_by (readable keys bytes).chunks ending) → IsSmallFile keys bytes
    by Whole is small = record { whole = is; small = small }
    by Wanting is small = absurd (whole_ends keys bytes is)
    by (Faulty fault) is small = absurd small

small_stands : (f : Format) (u : View) (path : plain.Path) (at : Path) (bytes : List ℕ) → standing f u path ≡ File at → u at ≡ FileOf bytes → IsSmall (opened f u path) → IsSmallFile f.content bytes
unfolding opened
small_stands f u path at bytes stands there small =
    small_file f.content bytes (subst IsSmall (ap (opened_at f u) stands ∙ ap (λ found. opened_file f.content (file_bytes found)) there) small)

-- the content file of an item that opens as a small content is read whole
record IsReadWhole (keys : Keys) (found : Found) : Type 0 where
  bytes : List ℕ
  file : IsSmallFile keys bytes
  read : limited_reading keys (bytes_found found) ≡ readable keys bytes

small_read : FilesAreNotMuchLonger → FilesAreThere → (a : OpenedVault) (v : View) (path : plain.Path) (at : Path) → HasSmallContents (tree_at a v) → standing (format_of a.vault) (under a.root v) path ≡ File at
    → IsReadWhole (format_of a.vault).content (v (a.root ++ at))
small_read short files a v path at small stands =
    let keys = (format_of a.vault).content in
    let there : ShowsFile (under a.root v) at = files a.vault (under a.root v) path at stands in
    let file : IsSmallFile keys there.0 = small_stands (format_of a.vault) (under a.root v) path at there.0 stands there.1 (small path) in
    record { bytes = there.0; file = file; read = ap (λ found. limited_reading keys (bytes_found found)) there.1 ∙ small_whole content_limit at_limit short keys there.0 file.whole file.small }

pub small_ends : FilesAreNotMuchLonger → FilesAreThere → (a : OpenedVault) (v : View) (path : plain.Path) (at : Path) → HasSmallContents (tree_at a v) → standing (format_of a.vault) (under a.root v) path ≡ File at
    → (content_at (format_of a.vault).content v (a.root ++ at)).ending ≡ Whole
small_ends short files a v path at small stands =
    let whole = small_read short files a v path at small stands in
    ap (λ (r : Reading). r.ending) whole.read ∙ whole.file.whole

pub small_passes : FilesAreNotMuchLonger → FilesAreThere → (rule : NameMap) (from to : OpenedVault) (v : View) (at : Path) → HasOwnFolders from.vault (under from.root v) → HasSmallContents (tree_at from v) → PassesLimit rule from to v at → ⊥
small_passes short files rule from to v at own small p = by p.cut
  where
    whole : IsReadWhole (format_of from.vault).content (v (from.root ++ p.source))
    whole = small_read short files from v p.path p.source small (p.in_source own)

    by : IsCut at (content_in from v p.source) (content_in to v p.target) ⊎ IsCut at (content_in to v p.target) (content_in from v p.source) → ⊥
    by (inl cut) = let never : Whole ≡ Wanting = sym (ap (λ (r : Reading). r.ending) whole.read ∙ whole.file.whole) ∙ cut.wanting in cc never
    by (inr cut) =
        not_within content_limit at_limit short (format_of to.vault).content (bytes_found (v (to.root ++ p.target))) cut.wanting (concat (readable (format_of from.vault).content whole.bytes).chunks) whole.file.small
        (subst (λ (r : Reading). starts_with nat_eq (concat r.chunks) (content_in to v p.target).bytes ≡ true) whole.read cut.begins)

-- ---- comparing

same_rest : (root one other : Path) → root ++ one ≡ root ++ other → one ≡ other
same_rest root one other same = sym (drop-append_seam root one) ∙ ap (drop (length root)) same ∙ drop-append_seam root other

-- where the content of an item stands
record ItsContent (a : OpenedVault) (v : View) (x : Planned) : Type 0 where
  rest : Path
  place : x.at ≡ a.root ++ rest
  stands : IsContentAt a v x.path rest

its_content : (a : OpenedVault) (items : List Planned) (t : Option Told) (v : View) → IsWalked t a items → IsSeen t v → (x : Planned) → Contains items x → x.node ≡ node.File → ItsContent a v x
its_content a items t v walked is x among file = record {
  rest = behind.0;
  place = behind.1;
  stands = λ own. by (planned v (side_of a items) (walked.plan v is own) x among);
}
  where
    behind : (rest : Path) × (x.at ≡ a.root ++ rest)
    behind = walked.behind x among

    by : (y : Planned) × (placed a.root y ≡ x) × IsPlanned (format_of a.vault) (under a.root v) y → standing (format_of a.vault) (under a.root v) x.path ≡ File behind.0
    by p =
        let at : a.root ++ p.0.at ≡ a.root ++ behind.0 = ap (λ (z : Planned). z.at) p.1 ∙ behind.1 in
        let is_file : p.0.node ≡ node.File = ap (λ (z : Planned). z.node) p.1 ∙ file in
        subst (λ q. standing (format_of a.vault) (under a.root v) q ≡ File behind.0) (ap (λ (z : Planned). z.path) p.1)
        (file_stands (standing (format_of a.vault) (under a.root v) p.0.path) p.0.at (p.2.node ∙ ap Some is_file) p.2.place ∙ ap File (same_rest a.root p.0.at behind.0 at))

-- an item of the source at its mapped path, and where the content of the file stands from which it comes
record ItComes (rule : NameMap) (a : OpenedVault) (v : View) (x : Planned) : Type 0 where
  path : plain.Path
  comes : mapped_path rule path ≡ x.path
  rest : Path
  place : x.at ≡ a.root ++ rest
  stands : IsContentAt a v path rest

it_comes : (rule : NameMap) (a : OpenedVault) (items : List Planned) (t : Option Told) (v : View) → IsMappedWalk rule t a items → IsSeen t v → (x : Planned) → Contains items x → x.node ≡ node.File → ItComes rule a v x
it_comes rule a items t v walked is x among file =
    let own = own_item rule walked.own items x walked.mapped among in
    let its : ItsContent a v own.0 = its_content a walked.own t v walked.walked is own.0 own.1 (ap (λ (z : Planned). z.node) own.2 ∙ file) in
    record { path = own.0.path; comes = ap (λ (z : Planned). z.path) own.2; rest = its.rest; place = ap (λ (z : Planned). z.at) (sym own.2) ∙ its.place; stands = its.stands }

is_cut : (at : Path) (one other : Content) → EndsWithin at Wanting one other → IsCut at one other
is_cut at one other e = record { place = e.place; wanting = e.ends; begins = e.begins }

module _ (rule : NameMap) (from to : OpenedVault) (items others : List Planned) (t : Option Told) (v : View) (walked : IsMappedWalk rule t from items) (walked_to : IsWalked t to others) (is : IsSeen t v) (at : Path) where
  abbrev keys : Keys
  keys = (format_of from.vault).content

  abbrev keys_to : Keys
  keys_to = (format_of to.vault).content

  -- the source with the target
  pub source_first : matched keys items keys_to others v ≡ Stops at Wanting → PassesLimit rule from to v at
  source_first stops =
      let c : IsCutItem keys keys_to v items others at Wanting = cut_item keys keys_to v items others at Wanting stops in
      let x : ItComes rule from v c.item = it_comes rule from items t v walked is c.item c.among c.file in
      let y : ItsContent to v c.other = its_content to others t v walked_to is c.other c.among_others c.other_file in
      record {
        path = x.path;
        source = x.rest;
        target = y.rest;
        in_source = x.stands;
        in_target = subst (λ p. IsContentAt to v p y.rest) (c.same ∙ sym x.comes) y.stands;
        cut = subst₂ (λ p q. IsCut at (content_at keys v p) (content_at keys_to v q) ⊎ IsCut at (content_at keys_to v q) (content_at keys v p)) x.place y.place
            (elim (cut_content (content_at keys v c.item.at) (content_at keys_to v c.other.at) at Wanting c.stops) [
              | inl e ↦ inl (is_cut at _ _ e)
              | inr e ↦ inr (is_cut at _ _ e)
            ]);
      }

  -- the target with the source
  pub target_first : matched keys_to others keys items v ≡ Stops at Wanting → PassesLimit rule from to v at
  target_first stops =
      let c : IsCutItem keys_to keys v others items at Wanting = cut_item keys_to keys v others items at Wanting stops in
      let x : ItComes rule from v c.other = it_comes rule from items t v walked is c.other c.among_others c.other_file in
      let y : ItsContent to v c.item = its_content to others t v walked_to is c.item c.among c.file in
      record {
        path = x.path;
        source = x.rest;
        target = y.rest;
        in_source = x.stands;
        in_target = subst (λ p. IsContentAt to v p y.rest) (sym c.same ∙ sym x.comes) y.stands;
        cut = subst₂ (λ p q. IsCut at (content_at keys v p) (content_at keys_to v q) ⊎ IsCut at (content_at keys_to v q) (content_at keys v p)) x.place y.place
            (elim (cut_content (content_at keys_to v c.item.at) (content_at keys v c.other.at) at Wanting c.stops) [
              | inl e ↦ inr (is_cut at _ _ e)
              | inr e ↦ inl (is_cut at _ _ e)
            ]);
      }

-- what comparing answers
pub by_match : (P : Path → Type 0) (outcome : Outcome Match) (why : MatchFault) → Answers outcome (Err why) → ((at : Path) → outcome ≡ Stops at Wanting → P at) → IsOfLimit P (of_match why)
by_match P outcome (match.Limit (limit.Length at)) answers passes = passes at answers
by_match P outcome (match.Limit limit.Items) answers passes = absurd answers
by_match P outcome (match.Limit limit.Depth) answers passes = absurd answers
by_match P outcome (match.Limit limit.Input) answers passes = absurd answers
by_match P outcome (match.Damaged at fault) answers passes = tt
by_match P outcome match.Failed answers passes = tt
by_match P outcome match.NoMemory answers passes = tt

-- ---- other faults

not_compared : (P : Path → Type 0) (Q : Type 0) (fault : MoveFault) → StopsFor Q fault → IsOfLimit P fault
not_compared P Q (Matching why) none = absurd none
not_compared P Q (Work fault) none = tt
not_compared P Q (Unread fault) none = tt
not_compared P Q (Overlap p q) none = tt
not_compared P Q (Load side fault) none = tt
not_compared P Q (Walk fault) none = tt
not_compared P Q (NotEmpty at) none = tt
not_compared P Q (NotAllowed path) none = tt
not_compared P Q (Meet one other) none = tt
not_compared P Q (Changed plan items plan' items') none = tt
not_compared P Q (Differ path how) none = tt
not_compared P Q (Place fault) none = tt
not_compared P Q SourceGone none = tt
not_compared P Q Failed none = tt
not_compared P Q NoMemory none = tt

pub uncompared : (P : Path → Type 0) (fault : MoveFault) → StopsElsewhere fault → IsOfLimit P fault
uncompared P fault none = not_compared P ⊥ fault none

-- ---- by the answer of a call

-- what is so at each view of the one is so of the path
limit_all : (S : View → Type 0) (P : View → Path → Type 0) (Q : Path → Type 0) (fault : MoveFault) → ((at : Path) → ((v : View) → S v → P v at) → Q at) → ((v : View) → S v → IsOfLimit (P v) fault) → IsOfLimit Q fault
limit_all S P Q (Matching (match.Limit (limit.Length at))) all h = all at h
limit_all S P Q (Matching (match.Limit limit.Items)) all h = tt
limit_all S P Q (Matching (match.Limit limit.Depth)) all h = tt
limit_all S P Q (Matching (match.Limit limit.Input)) all h = tt
limit_all S P Q (Matching (match.Damaged at fault)) all h = tt
limit_all S P Q (Matching match.Failed) all h = tt
limit_all S P Q (Matching match.NoMemory) all h = tt
limit_all S P Q (Work fault) all h = tt
limit_all S P Q (Unread fault) all h = tt
limit_all S P Q (Overlap p q) all h = tt
limit_all S P Q (Load side fault) all h = tt
limit_all S P Q (Walk fault) all h = tt
limit_all S P Q (NotEmpty at) all h = tt
limit_all S P Q (NotAllowed path) all h = tt
limit_all S P Q (Meet one other) all h = tt
limit_all S P Q (Changed plan items plan' items') all h = tt
limit_all S P Q (Differ path how) all h = tt
limit_all S P Q (Place fault) all h = tt
limit_all S P Q SourceGone all h = tt
limit_all S P Q Failed all h = tt
limit_all S P Q NoMemory all h = tt

pub limit_more : {T : Type 0} (P Q : Path → Type 0) (result : Result T MoveFault) → ((at : Path) → P at → Q at) → IfErr result (IsOfLimit P) → IfErr result (IsOfLimit Q)
limit_more P Q (Ok value) more h = tt
limit_more P Q (Err fault) more h = limit_all (λ v. Unit {0}) (λ v. P) Q fault (λ at all. more at (all (λ q. NoEntry) tt)) (λ v s. h)

pub none_compared : {T : Type 0} (Q : Path → Type 0) (result : Result T MoveFault) (why : MoveFault) → IsErrAnd result (λ fault. fault ≡ why) → StopsElsewhere why → IfErr result (IsOfLimit Q)
none_compared Q result why is none = fault_as (IsOfLimit Q) result is (uncompared Q why none)

pub ends_stopped : {T : Type 0} (P Q : Type 0) (rule : NameMap) (from to : OpenedVault) (t : Option Told) (result : Result T MoveFault) (why : MoveFault) → IsErrAnd result (λ fault. fault ≡ why) → StopsFor Q why → EndsBy P Q rule from to t result
ends_stopped P Q rule from to t result why is stops =
    refused_as (λ answer. EndsBy P Q rule from to t answer) result is ((λ v seen. not_compared (PassesLimit rule from to v) Q why stops), taken_for Q Q why (λ h. h) stops)

pub ends_uncompared : {T : Type 0} (P Q : Type 0) (rule : NameMap) (from to : OpenedVault) (t : Option Told) (result : Result T MoveFault) (why : MoveFault) → IsErrAnd result (λ fault. fault ≡ why) → StopsElsewhere why → EndsBy P Q rule from to t result
ends_uncompared P Q rule from to t result why is none = ends_stopped P Q rule from to t result why is (stops_more ⊥ Q why (λ never. absurd never) none)

pub ends_more : {T : Type 0} (P Q R S : Type 0) (rule : NameMap) (from to : OpenedVault) (t : Option Told) (result : Result T MoveFault) → (P → Q) → (R → S) → EndsBy P R rule from to t result → EndsBy Q S rule from to t result
ends_more P Q R S rule from to t (Ok value) more further ends = more ends
ends_more P Q R S rule from to t (Err fault) more further ends = (ends.0, taken_more R S fault further ends.1)

-- where no item is placed any more
pub ends_later : {T : Type 0} (P Q : Type 0) (Is R : View → Type 0) (rule : NameMap) (from to : OpenedVault) (t u w : Option Told) (result : Result T MoveFault) → (P → Q) → IfSeen t (λ v. (x : View) × IsSeen u x)
    → IfErr result (StopsLater Is u) → EndsBy P (Unit {0}) rule from to w result → EndsBy Q (IfSeen t (λ v. R v)) rule from to w result
ends_later P Q Is R rule from to t u w (Ok value) more after later ends = more ends
ends_later P Q Is R rule from to t u w (Err fault) more after later ends = (ends.0, later_taken Is R t u fault after later)

pub none_taken : {T : Type 0} (Q : Type 0) (result : Result T MoveFault) (why : MoveFault) → IsErrAnd result (λ fault. fault ≡ why) → StopsElsewhere why → IfErr result (IsOfTaken Q)
none_taken Q result why is none = fault_as (IsOfTaken Q) result is (taken_for ⊥ Q why (λ never. absurd never) none)

pub if_taken : {T : Type 0} (P Q : Type 0) (result : Result T MoveFault) → (P → Q) → IfErr result (IsOfTaken P) → IfErr result (IsOfTaken Q)
if_taken P Q (Ok value) more h = tt
if_taken P Q (Err fault) more h = taken_more P Q fault more h

-- of the vaults that two roots and their passphrases are
pub limit_in_tree : {T : Type 0} (P Q : Type 0) (rule : NameMap) (from to : Path) (pass pass' : List ℕ) (source target : OpenedVault) (t u : Option Told) (result : Result T MoveFault) → source.root ≡ from → target.root ≡ to
    → IfSeen t (λ v. IsVault (under from v) pass source.vault) → IfSeen t (λ v. IsVault (under to v) pass' target.vault)
    → EndsBy P Q rule source target u result → IfErr result (IsOfLimit (PassesInTree rule from to pass pass' t u))
limit_in_tree P Q rule from to pass pass' source target t u (Ok value) at_from at_to opens opens_to ends = tt
limit_in_tree P Q rule from to pass pass' source target t u (Err fault) at_from at_to opens opens_to ends =
    limit_all (IsSeen u) (PassesLimit rule source target) (PassesInTree rule from to pass pass' t u) fault
    (λ at passes. record {
      source = source.vault;
      target = target.vault;
      opens_source = opens;
      opens_target = opens_to;
      passes = λ v is. subst₂ (λ p q. PassesLimit rule (opened_in p source.vault) (opened_in q target.vault) v at) at_from at_to (passes v is);
    }) ends.0

pub shared_in_tree : {T : Type 0} (P : Type 0) (rule : NameMap) (from to work : Path) (pass pass' : List ℕ) (source target : OpenedVault) (s s' : Option ByteStream) (t u : Option Told) (result : Result T MoveFault) → source.root ≡ from → target.root ≡ to
    → IfSeen t (λ v. IsVault (under from v) pass source.vault) → IfSeen t (λ v. IsVault (under to v) pass' target.vault)
    → EndsBy P (SharesSeen rule source target work s s' t u) rule source target u result → IfErr result (IsOfTaken (SharesInTree rule from to work pass pass' s s' t u))
shared_in_tree P rule from to work pass pass' source target s s' t u (Ok value) at_from at_to opens opens_to ends = tt
shared_in_tree P rule from to work pass pass' source target s s' t u (Err fault) at_from at_to opens opens_to ends =
    taken_more (SharesSeen rule source target work s s' t u) (SharesInTree rule from to work pass pass' s s' t u) fault (share_in_tree rule from to work pass pass' source target s s' t u at_from at_to opens opens_to) ends.1

-- what is seen at first is seen where the vaults are opened
pub in_tree_before : (rule : NameMap) (from to : Path) (pass pass' : List ℕ) (t0 t u : Option Told) → IfSeen t0 (λ v. IsSeen t v) → (at : Path) → PassesInTree rule from to pass pass' t u at → PassesInTree rule from to pass pass' t0 u at
in_tree_before rule from to pass pass' t0 t u before at p = record {
  source = p.source;
  target = p.target;
  opens_source = λ v is. p.opens_source v (before v is);
  opens_target = λ v is. p.opens_target v (before v is);
  passes = p.passes;
}

pub as_told_before : (work : Path) (pass pass' : List ℕ) (t0 t u : Option Told) → IfSeen t0 (λ v. IsSeen t v) → (v : View) (at : Path) → PassesAsTold work pass pass' t u v at → PassesAsTold work pass pass' t0 u v at
as_told_before work pass pass' t0 t u before v at p = record {
  journal = p.journal;
  is = p.is;
  stands = p.stands;
  passes = in_tree_before p.journal.names p.journal.source p.journal.target pass pass' t0 t u before at p.passes;
}

-- ---- in good order

-- where no two directories of either vault shared a folder, and both were copied into
pub good_copies : (rule : NameMap) (from to : OpenedVault) (there items : List Planned) (t u w : Option Told) → MayBegin rule from to there t → IfSeen t (λ v. (x : View) × IsSeen u x)
    → ((v x : View) → IsSeen t v → IsSeen u x → under from.root x ≡ under from.root v) → ((v x : View) → IsSeen t v → IsSeen u x → under to.root x ≡ under to.root v)
    → CopiesAll rule from to there items u w → StayGood from to t w
good_copies rule from to there items t u w may then_ source_is target_is copies v y is_v is_y own =
    let x : (x : View) × IsSeen u x = then_ v is_v in
    let has : HasCopied rule from to items y = copies x.0 y x.1 is_y (copied_as rule from to there v x.0 (source_is v x.0 is_v x.1) (target_is v x.0 is_v x.1) (may v is_v own)) in
    (has.copying.source, has.copying.target)
