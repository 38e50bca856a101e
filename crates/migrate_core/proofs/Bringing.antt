-- What a migration that begins brings to the journal's place.
use Rattle.std.proofs.Common.{◌≡◌, ◌⊎◌, ◌<◌, ◌≤◌, ◌++◌, ℕ, List, [], ◌∷◌, Option, Some, None, refl, sym, subst, ap, ◌∙◌, inl, inr, length, get_or, append_assoc, arith, codes}
use Rattle.folder_spec.proofs.Moments.{went_more, went_on, went_to}
use Rattle.folder_spec.proofs.Paths.{append-cancel, child-apart, child-last}
use Rattle.folder_spec.proofs.Tables.{present_is_table}
use Rattle.folder_spec.proofs.Tellings.{from_to_more}
use Rattle.folder_spec.specs.declared.Spot.TheVariants.{FileNode}
use Rattle.folder_spec.specs.Event.{Told}
use Rattle.folder_spec.specs.Moments.{Went}
use Rattle.folder_spec.specs.Path.{Part, Path}
use Rattle.folder_spec.specs.Region.{SparesOld, apart_from}
use Rattle.folder_spec.specs.Replace.{IsNewFile}
use Rattle.folder_spec.specs.Seen.{seen, under}
use Rattle.folder_spec.specs.State.{IsSound, IsTableOf, Node, State, Table, present}
use Rattle.folder_spec.specs.View.{View}
use Rattle.migration_spec.proofs.Tellings.{AreSound}
use Rattle.move_journal.specs.Journal.{journal_text, phase_line, title}
use Rattle.move_journal.specs.declared.journal.Form.TheVariants.{Second}
use Rattle.move_journal.specs.declared.journal.Phase.{Phase}
use Rattle.move_journal.specs.Writing.{IsWriting, PutsOnce, WritesOnce}
use Rattle.move_journal.specs.declared.journal.Journal.{Journal}
use Rattle.move_journal.specs.declared.journal.Phase.TheVariants.{Building, Done}
use Rattle.work_folder.specs.Changing.{ChangesAt, ChangesOnly, IsChangingAt}
use Rattle.work_folder.specs.Entering.{IsLeftOver, IsWorkOrStage}
use Rattle.work_folder.specs.Entries.{journal_path}
use Rattle.plain_tree.specs.declared.name_map.NameMap.{NameMap}
use Rattle.vault_spec.specs.Opened.{OpenedVault}
use Rattle.vault_spec.specs.Vault.{IsVault}
use Rattle.migrate_core.proofs.Endings.{told_trees}
use Rattle.migrate_core.proofs.Lastings.{made_then, none_said, went_known}
use Rattle.migrate_core.specs.Lasting.{BringsBetween, BringsJournal, BringsText, BringsTexts, ComesLast, HaveToldTrees, KeepsText, KeepsTexts}
use Rattle.migrate_core.specs.Moved.{HaveMappedTree, done_of}
use Rattle.migrate_core.specs.Sides.{new_journal}

-- ---- the work folder is made ready

comes_elsewhere : (work : Path) → IsWorkOrStage work (journal_path work) → ⊥
comes_elsewhere work (inl root) = child-apart work _ root
comes_elsewhere work (inr stage) =
    let names : codes "journal" ≡ codes "stage" = child-last work (codes "journal") (codes "stage") stage in
    let sizes : 7 ≡ 5 = ap length names in omega (arith, sizes)

first : Path → Part
first [] = []
first (name ∷ rest) = name

goes_elsewhere : (work : Path) → IsLeftOver work (journal_path work) → ⊥
unfolding first
goes_elsewhere work (inl new) =
    let names : codes "journal" ≡ codes "journal.new" = child-last work (codes "journal") (codes "journal.new") new in
    let sizes : 7 ≡ 11 = ap length names in omega (arith, sizes)
goes_elsewhere work (inr staged) =
    let names : codes "journal" ≡ codes "stage" = ap first (append-cancel work (codes "journal" ∷ []) (codes "stage" ∷ staged.rest) (staged.is ∙ append_assoc work (codes "stage" ∷ []) staged.rest)) in
    let sizes : 7 ≡ 5 = ap length names in omega (arith, sizes)

text_entered : (work : Path) (journal : Journal) (s0 s : State) → IsChangingAt work (IsWorkOrStage work) (IsLeftOver work) s0 s → KeepsText (λ v. ⊥) work journal s0 s
text_entered work journal s0 s changing = record {
  tables = λ t among. let before = changing.changing.tables t among in elim (before.2 (journal_path work)) [
    | inl same ↦ inl (before.0, before.1, same)
    | inr other ↦ absurd (elim other [ inl comes ↦ comes_elsewhere work comes.0 | inr goes ↦ goes_elsewhere work goes.0 ])
  ];
  nodes = changing.others.nodes;
  made = changing.others.made;
}

pub texts_entered : (work : Path) (journal : Journal) (t u : Option Told) → AreSound t → ChangesAt work (IsWorkOrStage work) (IsLeftOver work) t u → KeepsTexts (λ v. ⊥) work journal t u
texts_entered work journal t u sound =
    from_to_more
    (λ a b. Went (IsChangingAt work (IsWorkOrStage work) (IsLeftOver work) a.state) (λ s e. ChangesOnly (IsWorkOrStage work) (IsLeftOver work) e.call × SparesOld (apart_from work) a.state s e.call) a b)
    (λ a b. Went (KeepsText (λ v. ⊥) work journal a.state) (λ s e. ComesLast work journal a.state s e.call) a b) t u
    (λ a b is went. went_known (IsChangingAt work (IsWorkOrStage work) (IsLeftOver work) a.state) (KeepsText (λ v. ⊥) work journal a.state)
    (λ s e. ChangesOnly (IsWorkOrStage work) (IsLeftOver work) e.call × SparesOld (apart_from work) a.state s e.call) (λ s e. ComesLast work journal a.state s e.call) a b
    (λ s changing. text_entered work journal a.state s changing)
    (λ s e changing h new. absurd (none_said work journal a.state s (sound a is) (text_entered work journal a.state s changing) new)) went)

-- ---- the journal is written

-- more may be so then
brought_more : (P Q : View → Type 0) (work : Path) (journal : Journal) (s0 s : State) → (P (seen s) → Q (seen s)) → BringsText P work journal s0 s → BringsText Q work journal s0 s
brought_more P Q work journal s0 s more brought = record {
  tables = λ t among. elim (brought.tables t among) [
    | inl same ↦ inl same
    | inr other ↦ elim other [ inl new ↦ inr (inl new) | inr done ↦ inr (inr (done.0, more done.1)) ]
  ];
  nodes = brought.nodes;
  made = brought.made;
}

pub brings_more : (P Q : View → Type 0) (work : Path) (journal : Journal) (t u : Option Told) → ((w : View) → P w → Q w) → BringsTexts P work journal t u → BringsTexts Q work journal t u
brings_more P Q work journal t u more =
    from_to_more (λ a b. Went (BringsText P work journal a.state) (λ s e. ComesLast work journal a.state s e.call) a b) (λ a b. Went (BringsText Q work journal a.state) (λ s e. ComesLast work journal a.state s e.call) a b) t u
    (λ a b is went. went_more (BringsText P work journal a.state) (BringsText Q work journal a.state) (λ s e. ComesLast work journal a.state s e.call) (λ s e. ComesLast work journal a.state s e.call) a b
    (λ s brought. brought_more P Q work journal a.state s (more (seen s)) brought) (λ s e last. last) went)

same_node : (n m : ℕ) → FileNode n ≡ FileNode m → n ≡ m
same_node n m e = cc e

-- the two texts of a journal differ in their phases
texts_by : (phase : Phase) (rest other : List ℕ) → phase ≡ Building → title Second ++ 10 ∷ (phase_line phase ++ rest) ≡ title Second ++ 10 ∷ (phase_line Done ++ other) → ⊥
texts_by Building rest other is same = let never : 98 ≡ 100 = ap (λ (xs : List ℕ). get_or xs 18 0) same in absurd (omega (arith, never))
texts_by Done rest other is same = cc is

pub texts_differ : (journal : Journal) → journal.phase ≡ Building → journal_text journal ≡ journal_text (done_of journal) → ⊥
texts_differ journal is same = texts_by journal.phase _ _ is same

module _ (Is : View → Type 0) (work : Path) (journal : Journal) where
  abbrev at : Path
  at = journal_path work

  abbrev done : List ℕ
  done = journal_text (done_of journal)

  abbrev Brought : (s0 s : State) → Table → Type 0
  Brought s0 s t = ((u : Table) × IsTableOf s0 u × (t (journal_path work) ≡ u (journal_path work)))
      ⊎ (IsNewFile (journal_text journal) s0 s (t (journal_path work)) ⊎ (IsNewFile (journal_text (done_of journal)) s0 s (t (journal_path work)) × Is (seen s)))

  -- nothing is brought there
  none_brought : (s0 s : State) → KeepsText (λ v. ⊥) work journal s0 s → BringsText Is work journal s0 s
  none_brought s0 s kept = record {
    tables = λ t among. elim (kept.tables t among) [ inl same ↦ inl same | inr none ↦ absurd none.2 ];
    nodes = kept.nodes;
    made = kept.made;
  }

  pub brings_nothing : (t u : Option Told) → KeepsTexts (λ v. ⊥) work journal t u → BringsTexts Is work journal t u
  brings_nothing t u =
      from_to_more (λ a b. Went (KeepsText (λ v. ⊥) work journal a.state) (λ s e. ComesLast work journal a.state s e.call) a b) (λ a b. Went (BringsText Is work journal a.state) (λ s e. ComesLast work journal a.state s e.call) a b) t u
      (λ a b is went. went_more (KeepsText (λ v. ⊥) work journal a.state) (BringsText Is work journal a.state) (λ s e. ComesLast work journal a.state s e.call) (λ s e. ComesLast work journal a.state s e.call) a b (λ s kept. none_brought a.state s kept) (λ s e last. last) went)

  -- and then something
  brought_then : (s0 s1 s : State) → KeepsText (λ v. ⊥) work journal s0 s1 → BringsText Is work journal s1 s → BringsText Is work journal s0 s
  brought_then s0 s1 s first later = record {
    tables = λ t among. elim (later.tables t among) [
      | inl earlier ↦ before t earlier.0 earlier.2 (first.tables earlier.0 earlier.1)
      | inr other ↦ elim other [ inl new ↦ inr (inl (newer (journal_text journal) t new)) | inr done ↦ inr (inr (newer (journal_text (done_of journal)) t done.0, done.1)) ]
    ];
    nodes = λ n old. later.nodes n (let grown : s0.made ≤ s1.made = first.made in omega (arith, old, grown)) ∙ first.nodes n old;
    made = (let one : s0.made ≤ s1.made = first.made in let two : s1.made ≤ s.made = later.made in omega (arith, one, two));
  }
    where
      newer : (text : List ℕ) (t : Table) → IsNewFile text s1 s (t (journal_path work)) → IsNewFile text s0 s (t (journal_path work))
      newer text t new = record { number = new.number; is = new.is; new = (let one : s0.made ≤ s1.made = first.made in let two : s1.made ≤ new.number = new.new in omega (arith, one, two)); holds = new.holds }

      before : (t u : Table) → t (journal_path work) ≡ u (journal_path work)
          → ((x : Table) × IsTableOf s0 x × (u (journal_path work) ≡ x (journal_path work))) ⊎ ((journal.phase ≡ Building) × IsNewFile (journal_text (done_of journal)) s0 s1 (u (journal_path work)) × ⊥) → Brought s0 s t
      before t u same (inl there) = inl (there.0, there.1, same ∙ there.2)
      before t u same (inr new) = absurd new.2

  -- of which nothing is there that was made since the first began, but what was made since the later one
  brought_later : (s0 s1 s : State) → IsSound s0 → KeepsText (λ v. ⊥) work journal s0 s1 → BringsText Is work journal s1 s → IsNewFile done s0 s (present s at) → IsNewFile done s1 s (present s at)
  brought_later s0 s1 s sound first later new = elim (later.tables (present s) (present_is_table s)) [
    | inl there ↦ absurd (before there.0 (sym there.2 ∙ new.is) (first.tables there.0 there.1))
    | inr other ↦ elim other [
      | inl begun ↦ record { number = new.number; is = new.is; new = subst (λ n. s1.made ≤ n) (same_node begun.number new.number (sym begun.is ∙ new.is)) begun.new; holds = new.holds }
      | inr said ↦ said.0
    ]
  ]
    where
      before : (u : Table) → u at ≡ FileNode new.number → ((x : Table) × IsTableOf s0 x × (u at ≡ x at)) ⊎ ((journal.phase ≡ Building) × IsNewFile done s0 s1 (u at) × ⊥) → ⊥
      before u is (inl there) = made_then s0 there.0 at new.number sound there.1 (sym there.2 ∙ is) new.new
      before u is (inr none) = none.2

  pub brings_then : (t u w : Option Told) → AreSound t → KeepsTexts (λ v. ⊥) work journal t u → BringsTexts Is work journal u w → BringsTexts Is work journal t w
  brings_then None None None sound first later = tt
  brings_then (Some a) (Some b) (Some c) sound first later =
      let before = went_to (KeepsText (λ v. ⊥) work journal a.state) (λ s e. ComesLast work journal a.state s e.call) a b first in
      went_on (BringsText Is work journal a.state) (λ s e. ComesLast work journal a.state s e.call) a b c
      (went_more (KeepsText (λ v. ⊥) work journal a.state) (BringsText Is work journal a.state) (λ s e. ComesLast work journal a.state s e.call) (λ s e. ComesLast work journal a.state s e.call) a b (λ s kept. none_brought a.state s kept) (λ s e last. last) first)
      (went_known (BringsText Is work journal b.state) (BringsText Is work journal a.state) (λ s e. ComesLast work journal b.state s e.call) (λ s e. ComesLast work journal a.state s e.call) b c
      (λ s brought. brought_then a.state b.state s before brought) (λ s e brought last new. last (brought_later a.state b.state s (sound a refl) before brought new)) later)
  brings_then None (Some b) w sound first later = absurd first
  brings_then (Some a) None w sound first later = absurd first
  brings_then None None (Some c) sound first later = absurd later
  brings_then (Some a) (Some b) None sound first later = absurd later

  -- the journal of a migration that begins
  written_brings : (s0 s : State) → IsWriting work (journal_text journal) s0 s → BringsText Is work journal s0 s
  written_brings s0 s writing = record {
    tables = λ t among. let old = writing.journal.tables t among in elim old.3 [ inl same ↦ inl (old.0, old.1, same) | inr new ↦ inr (inl new) ];
    nodes = writing.journal.nodes;
    made = writing.journal.made;
  }

  pub brings_written : (t u : Option Told) → WritesOnce work journal t u → BringsTexts Is work journal t u
  brings_written t u =
      from_to_more (λ a b. Went (IsWriting work (journal_text journal) a.state) (λ s e. PutsOnce work a.state s e.call) a b) (λ a b. Went (BringsText Is work journal a.state) (λ s e. ComesLast work journal a.state s e.call) a b) t u
      (λ a b is went. went_more (IsWriting work (journal_text journal) a.state) (BringsText Is work journal a.state) (λ s e. PutsOnce work a.state s e.call) (λ s e. ComesLast work journal a.state s e.call) a b
      (λ s writing. written_brings a.state s writing) (λ s e once new. once new.number new.is new.new) went)

  -- and that all is done
  done_brings : (s0 s1 s : State) → IsSound s1 → BringsText (λ v. ⊥) work journal s0 s1 → KeepsText Is work journal s1 s → BringsText Is work journal s0 s
  done_brings s0 s1 s sound first later = record {
    tables = λ t among. elim (later.tables t among) [
      | inl earlier ↦ before t earlier.0 earlier.1 earlier.2 (first.tables earlier.0 earlier.1)
      | inr new ↦ inr (inr (record { number = new.1.number; is = new.1.is; new = (let one : s0.made ≤ s1.made = first.made in let two : s1.made ≤ new.1.number = new.1.new in omega (arith, one, two)); holds = new.1.holds }, new.2))
    ];
    nodes = λ n old. later.nodes n (let grown : s0.made ≤ s1.made = first.made in omega (arith, old, grown)) ∙ first.nodes n old;
    made = (let one : s0.made ≤ s1.made = first.made in let two : s1.made ≤ s.made = later.made in omega (arith, one, two));
  }
    where
      before : (t u : Table) → IsTableOf s1 u → t (journal_path work) ≡ u (journal_path work)
          → ((x : Table) × IsTableOf s0 x × (u (journal_path work) ≡ x (journal_path work))) ⊎ (IsNewFile (journal_text journal) s0 s1 (u (journal_path work)) ⊎ (IsNewFile (journal_text (done_of journal)) s0 s1 (u (journal_path work)) × ⊥)) → Brought s0 s t
      before t u among same (inl there) = inl (there.0, there.1, same ∙ there.2)
      before t u among same (inr (inl new)) = inr (inl (record {
        number = new.number;
        is = same ∙ new.is;
        new = new.new;
        holds = later.nodes new.number ((sound.tables u among).is_made (journal_path work) new.number new.is) ∙ new.holds;
      }))
      before t u among same (inr (inr done)) = absurd done.1

  -- of which nothing says so that was made before
  done_later : (s0 s1 s : State) → journal.phase ≡ Building → IsSound s0 → IsSound s1 → BringsText (λ v. ⊥) work journal s0 s1 → KeepsText Is work journal s1 s → IsNewFile done s0 s (present s at) → IsNewFile done s1 s (present s at)
  done_later s0 s1 s building sound sound_later first later new = elim (later.tables (present s) (present_is_table s)) [
    | inl there ↦ absurd (before there.0 there.1 (sym there.2 ∙ new.is) (first.tables there.0 there.1))
    | inr other ↦ other.1
  ]
    where
      before : (u : Table) → IsTableOf s1 u → u at ≡ FileNode new.number
          → ((x : Table) × IsTableOf s0 x × (u at ≡ x at)) ⊎ (IsNewFile (journal_text journal) s0 s1 (u at) ⊎ (IsNewFile done s0 s1 (u at) × ⊥)) → ⊥
      before u among is (inl there) = made_then s0 there.0 at new.number sound there.1 (sym there.2 ∙ is) new.new
      before u among is (inr (inl begun)) =
          let here : new.number < s1.made = (sound_later.tables u among).is_made at new.number is in
          texts_differ journal building
          (ap (λ (node : Node). node.now) (sym begun.holds ∙ ap s1.nodes (same_node begun.number new.number (sym begun.is ∙ is)) ∙ sym (later.nodes new.number here) ∙ new.holds))
      before u among is (inr (inr none)) = none.1

  pub brings_done : (t u w : Option Told) → journal.phase ≡ Building → AreSound t → AreSound u → BringsTexts (λ v. ⊥) work journal t u → KeepsTexts Is work journal u w → BringsTexts Is work journal t w
  brings_done None None None building sound sound_later first later = tt
  brings_done (Some a) (Some b) (Some c) building sound sound_later first later =
      let before = went_to (BringsText (λ v. ⊥) work journal a.state) (λ s e. ComesLast work journal a.state s e.call) a b first in
      went_on (BringsText Is work journal a.state) (λ s e. ComesLast work journal a.state s e.call) a b c
      (went_more (BringsText (λ v. ⊥) work journal a.state) (BringsText Is work journal a.state) (λ s e. ComesLast work journal a.state s e.call) (λ s e. ComesLast work journal a.state s e.call) a b
      (λ s brought. brought_more (λ v. ⊥) Is work journal a.state s (λ none. absurd none) brought) (λ s e last. last) first)
      (went_known (KeepsText Is work journal b.state) (BringsText Is work journal a.state) (λ s e. ComesLast work journal b.state s e.call) (λ s e. ComesLast work journal a.state s e.call) b c
      (λ s kept. done_brings a.state b.state s (sound_later b refl) before kept)
      (λ s e kept last new. last (done_later a.state b.state s building (sound a refl) (sound_later b refl) before kept new)) later)
  brings_done None (Some b) w building sound sound_later first later = absurd first
  brings_done (Some a) None w building sound sound_later first later = absurd first
  brings_done None None (Some c) building sound sound_later first later = absurd later
  brings_done (Some a) (Some b) None building sound sound_later first later = absurd later

-- ---- by roots and passphrases

-- nothing is brought
pub unbrought_between : (names : NameMap) (from to : OpenedVault) (work : Path) (t u : Option Told) → ((j : Journal) → KeepsTexts (λ x. ⊥) work j t u) → BringsBetween names from to work t u
unbrought_between names from to work t u none = ([], brings_nothing (HaveMappedTree names from to) work (new_journal names from.root to.root []) t u (none (new_journal names from.root to.root [])))

pub unbrought : (names : NameMap) (from to work : Path) (pass pass' : List ℕ) (t u : Option Told) (v : View) → ((j : Journal) → KeepsTexts (λ x. ⊥) work j t u) → BringsJournal names from to work pass pass' t u v
unbrought names from to work pass pass' t u v none = record {
  items = [];
  texts = brings_nothing (HaveToldTrees pass pass' v (new_journal names from to [])) work (new_journal names from to []) t u (none (new_journal names from to []));
}

pub brought_since : (names : NameMap) (from to work : Path) (pass pass' : List ℕ) (t u w : Option Told) (v : View) → AreSound t → ((j : Journal) → KeepsTexts (λ x. ⊥) work j t u) → BringsJournal names from to work pass pass' u w v
    → BringsJournal names from to work pass pass' t w v
brought_since names from to work pass pass' t u w v sound none brought =
    let j = new_journal names from to brought.items in
    record { items = brought.items; texts = brings_then (HaveToldTrees pass pass' v j) work j t u w sound (none j) brought.texts }

-- it is between the vaults that are opened there
pub brought_by_pass : (names : NameMap) (from to work : Path) (pass pass' : List ℕ) (rule : NameMap) (source target : OpenedVault) (t u : Option Told) (v : View) → rule ≡ names → source.root ≡ from → target.root ≡ to
    → IsVault (under from v) pass source.vault → IsVault (under to v) pass' target.vault → BringsBetween rule source target work t u → BringsJournal names from to work pass pass' t u v
brought_by_pass names from to work pass pass' rule source target t u v same from_is to_is opens opens_target brought =
    let j = new_journal names from to brought.0 in
    record {
      items = brought.0;
      texts = brings_more (HaveMappedTree rule source target) (HaveToldTrees pass pass' v j) work j t u
          (λ w trees. told_trees pass pass' v w j rule source target same from_is to_is opens opens_target trees)
          (subst (λ n. BringsTexts (HaveMappedTree rule source target) work (new_journal n from to brought.0) t u) same
          (subst (λ p. BringsTexts (HaveMappedTree rule source target) work (new_journal rule p to brought.0) t u) from_is
          (subst (λ q. BringsTexts (HaveMappedTree rule source target) work (new_journal rule source.root q brought.0) t u) to_is brought.1)));
    }
