-- That a migration stays as it is while its work folder is made ready.
use Rattle.std.proofs.Common.{◌≡◌, ◌≢◌, ◌⊎◌, ℕ, Bool, true, false, [], ◌∷◌, ◌++◌, Some, None, refl, sym, ap, ◌∙◌, inl, inr, subst, append_assoc, append-nil, codes, bytes_eq, IsTrue}
use Rattle.folder_spec.proofs.Paths.{below-append, append-cancel, child-apart, child-last}
use Rattle.folder_spec.specs.Path.{Part, Path, below, child}
use Rattle.folder_spec.specs.State.{Node, Table, State, IsTableOf, IsSound, IsSoundTable, IsClean, kind_of, present}
use Rattle.folder_spec.specs.Event.{Event, Told}
use Rattle.folder_spec.specs.Moments.{Went}
use Rattle.folder_spec.specs.View.{Shows, found}
use Rattle.folder_spec.specs.declared.Kind.TheVariants as kind
use Rattle.migration_spec.proofs.Along.{both_along, nothing_each}
use Rattle.migration_spec.proofs.Guards.{RootsAreAlike, ImagesShow, kinds_of}
use Rattle.migration_spec.proofs.Kept.{only_shown, table_work, kept_is, alone_by, none_foreign}
use Rattle.migration_spec.proofs.Sounds.{KeepSound, sound_along}
use Rattle.migration_spec.specs.Alone.{Progress, IsAlone, StaysAlone}
use Rattle.migration_spec.specs.Guard.{Migration, IsSeparate, IsWork, is_kept}
use Rattle.work_folder.specs.Changing.{IsChanged, IsChanging}
use Rattle.work_folder.specs.Entering.{IsStage, IsBelowStage, IsWorkOrStage, IsLeftOver}
use Rattle.work_folder.specs.Entries.{journal_path, is_foreign}

-- ---- what comes and goes is in the work folder, and not the journal

abbrev pub begins_journal : Path → Bool
begins_journal [] = false
begins_journal (a ∷ rest) = bytes_eq a (codes "journal")

pub record IsInside (work q : Path) : Type 0 where
  pub rest : Path
  pub is : q ≡ work ++ rest
  pub other : begins_journal rest ≡ false

comes_inside : (work q : Path) → IsWorkOrStage work q → IsInside work q
comes_inside work q (inl root) = record { rest = []; is = root ∙ sym (append-nil work); other = refl }
comes_inside work q (inr stage) = record { rest = codes "stage" ∷ []; is = stage; other = refl }

goes_inside : (work q : Path) → IsLeftOver work q → IsInside work q
goes_inside work q (inl new) = record { rest = codes "journal.new" ∷ []; is = new; other = refl }
goes_inside work q (inr staged) = record { rest = codes "stage" ∷ staged.rest; is = staged.is ∙ append_assoc work (codes "stage" ∷ []) staged.rest; other = refl }

-- so it isn't kept
not_kept : (g : Migration) (q : Path) → IsSeparate g → IsTrue (is_kept g q) → IsInside g.work q → ⊥
not_kept g q separate kept inside = by_place (kept_is g separate q kept)
  where
    clash : {x : Path} → None ≡ Some x → ⊥
    clash e = cc e

    differ : false ≡ true → ⊥
    differ e = cc e

    by_place : (journal_path g.work ≡ q) ⊎ (below g.work q ≡ None) → ⊥
    by_place (inl journal) = differ (sym inside.other ∙ ap begins_journal (append-cancel g.work inside.rest (codes "journal" ∷ []) (sym inside.is ∙ sym journal)))
    by_place (inr none) = clash (sym none ∙ ap (below g.work) inside.is ∙ below-append g.work inside.rest)

-- ---- tables that are changed so

abbrev pub Changed : Path → Table → Table → Type 0
Changed work = IsChanged (IsWorkOrStage work) (IsLeftOver work)

kept_unchanged : (g : Migration) (t u : Table) → IsSeparate g → Changed g.work t u → (q : Path) → IsTrue (is_kept g q) → t q ≡ u q
kept_unchanged g t u separate changed q kept = elim (changed q) [
  | inl same ↦ same
  | inr rest ↦ absurd (elim rest [
    | inl comes ↦ not_kept g q separate kept (comes_inside g.work q comes.0)
    | inr goes ↦ not_kept g q separate kept (goes_inside g.work q goes.0)
  ])
]

shows_on : (g : Migration) (p : Progress) (s0 s : State) (b : IsAlone g p s0) (t u : Table) → IsTableOf s0 u → Changed g.work t u → s.nodes ≡ s0.nodes → Shows (is_kept g) s t b.view
shows_on g p s0 s b t u is changed nodes =
    let before : Shows (is_kept g) s0 u b.view = only_shown (is_kept g) s0 b.view b.alone u is in
    let same : (q : Path) → IsTrue (is_kept g q) → t q ≡ u q = kept_unchanged g t u b.guarded.separate changed in
    record {
      agrees = λ q kept. ap (found (λ n. (s.nodes n).now)) (same q kept) ∙ ap (λ (nodes : ℕ → Node). found (λ n. (nodes n).now) (u q)) nodes ∙ before.agrees q kept;
      clean = λ q n kept at. subst (λ (nodes : ℕ → Node). IsClean (nodes n)) (sym nodes) (before.clean q n kept (sym (same q kept) ∙ at));
    }

not_other : (work : Path) (t u : Table) → Changed work t u → (q : Path) → kinds_of u q ≢ kind.Other → kinds_of t q ≢ kind.Other
not_other work t u changed q none = elim (changed q) [
  | inl same ↦ λ e. none (sym (ap kind_of same) ∙ e)
  | inr rest ↦ elim rest [
    | inl comes ↦ λ e. directory (sym (ap kind_of comes.1) ∙ e)
    | inr goes ↦ λ e. nothing (sym (ap kind_of goes.1) ∙ e)
  ]
]
  where
    directory : kind.Dir ≢ kind.Other
    directory e = cc e

    nothing : kind.Missing ≢ kind.Other
    nothing e = cc e

work_on : (work : Path) (made : ℕ) (t u : Table) → IsSoundTable made u → Changed work t u → IsWork false (kinds_of u) work → IsWork false (kinds_of t) work
work_on work made t u sound changed is = record {
  folder = elim (changed work) [
    | inl same ↦ elim is.folder [ inl missing ↦ inl (ap kind_of same ∙ missing) | inr there ↦ inr (ap kind_of same ∙ there.0, entries) ]
    | inr rest ↦ elim rest [ inl comes ↦ inr (ap kind_of comes.1, entries) | inr goes ↦ inl (ap kind_of goes.1) ]
  ];
  staged = λ q inside. not_other work t u changed q (is.staged q inside);
  moved = λ q inside. not_other work t u changed q (is.moved q inside);
}
  where
    never : false ≡ true → ⊥
    never e = cc e

    stage_is_none : (name : Part) → name ≡ codes "stage" → is_foreign false name kind.Dir ≡ false
    stage_is_none name is = ap (λ a. is_foreign false a kind.Dir) is

    comes : (name : Part) → IsWorkOrStage work (child work name) → is_foreign false name kind.Dir ≡ false
    comes name (inl root) = absurd (child-apart work name root)
    comes name (inr stage) = stage_is_none name (child-last work name (codes "stage") stage)

    entries : (name : Part) → ¬ IsTrue (is_foreign false name (kinds_of t (child work name)))
    entries name foreign = elim (changed (child work name)) [
      | inl same ↦ none_foreign work made u sound is name (ap (is_foreign false name) (sym (ap kind_of same)) ∙ foreign)
      | inr rest ↦ elim rest [
        | inl came ↦ never (sym (comes name came.0) ∙ ap (is_foreign false name) (sym (ap kind_of came.1)) ∙ foreign)
        | inr gone ↦ never (ap (is_foreign false name) (sym (ap kind_of gone.1)) ∙ foreign)
      ]
    ]

-- ---- at each moment

changing_on : RootsAreAlike → ImagesShow → (g : Migration) (p : Progress) (s0 s : State) → IsAlone g p s0 → IsSound s → IsChanging (IsWorkOrStage g.work) (IsLeftOver g.work) s0 s → IsAlone g p s
changing_on alike shown g p s0 s b sound changing = alone_by alike shown g p s b.view sound b.guarded.separate b.holds (λ t among.
    let before : (u : Table) × IsTableOf s0 u × Changed g.work t u = changing.tables t among in (
      shows_on g p s0 s b t before.0 before.1 before.2 changing.nodes,
      work_on g.work s0.made t before.0 (b.sound.tables before.0 before.1) before.2 (table_work g p s0 b before.0 before.1),
    ))

pub stays_alone : RootsAreAlike → ImagesShow → KeepSound → (g : Migration) (p : Progress) (P : State → Type 0) (Q : State → Event → Type 0) (a b : Told)
    → ((s : State) → P s → IsChanging (IsWorkOrStage g.work) (IsLeftOver g.work) a.state s) → IsAlone g p a.state → Went P Q a b → StaysAlone g p a b
stays_alone alike shown keep g p P Q a b changing at went = record {
  events = went.events;
  log = went.log;
  state = went.state;
  states = both_along P IsSound (IsAlone g p) a.state went.events (λ s moment sound. changing_on alike shown g p a.state s at sound (changing s moment))
      went.states (sound_along keep a.state went.events at.sound went.allowed);
  each = nothing_each a.state went.events;
  allowed = went.allowed;
}

-- the stage alone
abbrev pub StageChanged : Path → Table → Table → Type 0
StageChanged work = IsChanged (IsStage work) (IsBelowStage work)

more_changed : (work : Path) (t u : Table) → StageChanged work t u → Changed work t u
more_changed work t u changed q = elim (changed q) [
  | inl same ↦ inl same
  | inr rest ↦ inr (elim rest [ inl comes ↦ inl (inr comes.0, comes.1, comes.2) | inr goes ↦ inr (inr goes.0, goes.1, goes.2) ])
]

pub more_changing : (work : Path) (s0 s : State) → IsChanging (IsStage work) (IsBelowStage work) s0 s → IsChanging (IsWorkOrStage work) (IsLeftOver work) s0 s
more_changing work s0 s changing = record {
  tables = λ t among.
      let before : (u : Table) × IsTableOf s0 u × StageChanged work t u = changing.tables t among in
      (before.0, before.1, more_changed work t before.0 before.2);
  seen = more_changed work (present s) (present s0) changing.seen;
  nodes = changing.nodes;
  made = changing.made;
}
