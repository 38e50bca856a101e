-- How changes go on, where only this comes and that goes.
use Rattle.std.proofs.Common.{◌≡◌, ◌≢◌, ◌⊎◌, ℕ, Option, Some, None, Result, refl, sym, ap, ◌∙◌, subst, inl, inr, arith, IsTrue}
use Rattle.folder_spec.specs.declared.FolderFault.{FolderFault}
use Rattle.folder_spec.specs.declared.Spot.{Spot}
use Rattle.folder_spec.specs.declared.Spot.TheVariants.{Nothing, Directory, FileNode, Odd}
use Rattle.folder_spec.specs.Path.{Path}
use Rattle.folder_spec.specs.State.{Table, State, present, put, IsTableOf}
use Rattle.folder_spec.specs.Event.{Call, MakeDir, Create, Append, Sync, Settle, Rename, RemoveFile, RemoveDir, Allowed, with_table, changed, fallen, Told, Steps, Changes, FromTo}
use Rattle.folder_spec.specs.Moments.{Went}
use Rattle.folder_spec.specs.Region.{AlikeIn, SparesOld, apart_from}
use Rattle.folder_spec.specs.View.{View, found}
use Rattle.folder_spec.specs.Seen.{seen, IsSeen}
use Rattle.folder_spec.proofs.Paths.{one_or_not}
use Rattle.folder_spec.proofs.Tables.{put-same, put-other, present_is_table, last_of-push, among-push}
use Rattle.folder_spec.proofs.Moments.{went_nowhere, went_on, went_by_call, went_more, went_to}
use Rattle.folder_spec.proofs.Tellings.{from_to_more, from_to_on, from_to_same}
use Rattle.folder_staging.specs.Removal.{Reach, IsWithin, IsThinned, IsRemoving, RemovesWithin}
use Rattle.work_folder.specs.Changing.{IsChanged, IsChanging, IsChangingAt, ChangesOnly, ChangesAt, Alters}

module _ (C G : Path → Type 0) where
  changed_none : (t : Table) → IsChanged C G t t
  changed_none t q = inl refl

  changed_then : ((q : Path) → C q → G q → ⊥) → (t u w : Table) → IsChanged C G t u → IsChanged C G u w → IsChanged C G t w
  changed_then apart t u w second first q = by_second (second q) (first q)
    where
      -- what is at q in the last table, by what came and went
      by_second : ((t q ≡ u q) ⊎ ((C q × (t q ≡ Directory) × (u q ≡ Nothing)) ⊎ (G q × (t q ≡ Nothing) × (u q ≢ Odd))))
          → ((u q ≡ w q) ⊎ ((C q × (u q ≡ Directory) × (w q ≡ Nothing)) ⊎ (G q × (u q ≡ Nothing) × (w q ≢ Odd))))
          → (t q ≡ w q) ⊎ ((C q × (t q ≡ Directory) × (w q ≡ Nothing)) ⊎ (G q × (t q ≡ Nothing) × (w q ≢ Odd)))
      by_second (inl same) (inl before) = inl (same ∙ before)
      by_second (inl same) (inr (inl came)) = inr (inl (came.0, same ∙ came.1, came.2))
      by_second (inl same) (inr (inr gone)) = inr (inr (gone.0, same ∙ gone.1, gone.2))
      by_second (inr (inl came)) (inl before) = inr (inl (came.0, came.1, sym before ∙ came.2))
      by_second (inr (inl came)) (inr (inl earlier)) = inr (inl (came.0, came.1, earlier.2))
      by_second (inr (inl came)) (inr (inr gone)) = absurd (apart q came.0 gone.0)
      by_second (inr (inr gone)) (inl before) = inr (inr (gone.0, gone.1, λ odd. gone.2 (before ∙ odd)))
      by_second (inr (inr gone)) (inr (inl came)) = inl (gone.1 ∙ sym came.2)
      by_second (inr (inr gone)) (inr (inr earlier)) = inr (inr (gone.0, gone.1, earlier.2))

  changing_none : (s : State) → IsChanging C G s s
  changing_none s = record { tables = λ t is_table. (t, is_table, changed_none t); seen = changed_none (present s); nodes = refl; made = refl }

  changing_then : ((q : Path) → C q → G q → ⊥) → (s0 s1 s : State) → IsChanging C G s0 s1 → IsChanging C G s1 s → IsChanging C G s0 s
  changing_then apart s0 s1 s first second = record {
    tables = λ t is_table.
        let mid : (u : Table) × IsTableOf s1 u × IsChanged C G t u = second.tables t is_table in
        let old : (w : Table) × IsTableOf s0 w × IsChanged C G (mid.0) w = first.tables (mid.0) mid.1 in
        (old.0, old.1, changed_then apart t (mid.0) (old.0) mid.2 old.2);
    seen = changed_then apart (present s) (present s1) (present s0) second.seen first.seen;
    nodes = second.nodes ∙ first.nodes;
    made = second.made ∙ first.made;
  }

  -- a table is put after the others
  put_changes : (s : State) (p : Path) (x : Spot) → IsChanged C G (put (present s) p x) (present s) → IsChanging C G s (with_table s (put (present s) p x))
  put_changes s p x changed = record {
    tables = λ t is_table. elim is_table as (λ _. (u : Table) × IsTableOf s u × IsChanged C G t u) [
      | inl kept ↦ (t, inl kept, changed_none t)
      | inr more ↦ elim (among-push t (put (present s) p x) s.later more) as (λ _. (u : Table) × IsTableOf s u × IsChanged C G t u) [
        | inl before ↦ (t, inr before, changed_none t)
        | inr new ↦ (present s, present_is_table s, subst (λ u. IsChanged C G u (present s)) (sym new) changed)
      ]
    ];
    seen = subst (λ u. IsChanged C G u (present s)) (sym (last_of-push s.kept s.later (put (present s) p x))) changed;
    nodes = refl;
    made = refl;
  }

  put_comes : (t : Table) (p : Path) → C p → t p ≡ Nothing → IsChanged C G (put t p Directory) t
  put_comes t p comes free q = elim (one_or_not p q) as (λ _. (put t p Directory q ≡ t q) ⊎ ((C q × (put t p Directory q ≡ Directory) × (t q ≡ Nothing)) ⊎ (G q × (put t p Directory q ≡ Nothing) × (t q ≢ Odd)))) [
    | inl e ↦ inr (inl (subst C e comes, ap (put t p Directory) (sym e) ∙ put-same t p Directory, ap t (sym e) ∙ free))
    | inr k ↦ inl (put-other t p Directory q k.0)
  ]

  put_goes : (t : Table) (p : Path) → G p → t p ≢ Odd → IsChanged C G (put t p Nothing) t
  put_goes t p goes ordinary q = elim (one_or_not p q) as (λ _. (put t p Nothing q ≡ t q) ⊎ ((C q × (put t p Nothing q ≡ Directory) × (t q ≡ Nothing)) ⊎ (G q × (put t p Nothing q ≡ Nothing) × (t q ≢ Odd)))) [
    | inl e ↦ inr (inr (subst G e goes, ap (put t p Nothing) (sym e) ∙ put-same t p Nothing, λ odd. ordinary (ap t e ∙ odd)))
    | inr k ↦ inl (put-other t p Nothing q k.0)
  ]

  changes_on : (s : State) (call : Call) → ChangesOnly C G call → Allowed s call → IsChanging C G s (changed s call)
  changes_on s (MakeDir p) comes free = put_changes s p Directory (put_comes (present s) p comes free.0)
  changes_on s (RemoveFile p) goes file = put_changes s p Nothing (put_goes (present s) p goes (λ odd. let here : present s p ≡ FileNode (file.0) = file.1 in cc))
  changes_on s (RemoveDir p) goes dir = put_changes s p Nothing (put_goes (present s) p goes (λ odd. let here : present s p ≡ Directory = dir.1.0 in cc))
  changes_on s (Create p) no_ allowed = absurd no_
  changes_on s (Append p piece) no_ allowed = absurd no_
  changes_on s (Sync p) no_ allowed = absurd no_
  changes_on s Settle no_ allowed = absurd no_
  changes_on s (Rename old new) no_ allowed = absurd no_

  fallen_changes : (s : State) (call : Call) (added : ℕ) → ChangesOnly C G call → IsChanging C G s (fallen s call added)
  fallen_changes s (MakeDir p) added only = changing_none s
  fallen_changes s (RemoveFile p) added only = changing_none s
  fallen_changes s (RemoveDir p) added only = changing_none s
  fallen_changes s (Create p) added only = absurd only
  fallen_changes s (Append p piece) added only = absurd only
  fallen_changes s (Sync p) added only = absurd only
  fallen_changes s Settle added only = absurd only
  fallen_changes s (Rename old new) added only = absurd only

  abbrev pub Altering : Told → Told → Type 0
  Altering a b = Went (IsChanging C G a.state) (λ s e. ChangesOnly C G e.call) a b

  pub altered : (a b : Told) → Altering a b → IsChanging C G a.state b.state
  altered a b went = went_to (IsChanging C G a.state) (λ s e. ChangesOnly C G e.call) a b went

  alter_none : (a : Told) → Altering a a
  alter_none a = went_nowhere (IsChanging C G a.state) (λ s e. ChangesOnly C G e.call) a (changing_none a.state)

  alter_then : ((q : Path) → C q → G q → ⊥) → (a b c : Told) → Altering a b → Altering b c → Altering a c
  alter_then apart a b c first second =
      went_on (IsChanging C G a.state) (λ s e. ChangesOnly C G e.call) a b c first
      (went_more (IsChanging C G b.state) (IsChanging C G a.state) (λ s e. ChangesOnly C G e.call) (λ s e. ChangesOnly C G e.call) b c
      (λ s h. changing_then apart a.state b.state s (altered a b first) h) (λ s e h. h) second)

  alter_call : (call : Call) (a b : Told) (result : Result (Unit {0}) FolderFault) → ChangesOnly C G call → Steps call a b result → Altering a b
  alter_call call a b result only steps =
      went_by_call (IsChanging C G a.state) (λ s e. ChangesOnly C G e.call) call a b result (changing_none a.state)
      (λ allowed. changes_on a.state call only allowed) (λ added allowed. fallen_changes a.state call added only) (λ outcome. only) steps

  -- The same of a folder that may tell nothing.
  pub alters_none : (t u : Option Told) → u ≡ t → Alters C G t u
  alters_none t u same = from_to_same Altering t u same alter_none

  pub alters_then : ((q : Path) → C q → G q → ⊥) → (t0 t1 t2 : Option Told) → Alters C G t0 t1 → Alters C G t1 t2 → Alters C G t0 t2
  alters_then apart t0 t1 t2 first second = from_to_on Altering Altering Altering t0 t1 t2 (alter_then apart) first second

  pub alters_call : (call : Call) (t u : Option Told) (result : Result (Unit {0}) FolderFault) → ChangesOnly C G call → Changes call t u result → Alters C G t u
  alters_call call t u result only changes = from_to_more (λ a b. Steps call a b result) Altering t u (λ a b is. alter_call call a b result only) changes

  -- what is seen where nothing comes or goes
  pub seen_stays : (t u : Option Told) → Alters C G t u → (q : Path) → (C q → ⊥) → (G q → ⊥) → (v w : View) → IsSeen t v → IsSeen u w → w q ≡ v q
  seen_stays (Some a) (Some b) went q no_come no_go v w is is_now =
      let h : IsChanging C G a.state b.state = altered a b went in
      let same : seen b.state q ≡ seen a.state q = elim (h.seen q) as (λ _. seen b.state q ≡ seen a.state q) [
        | inl same ↦ ap (λ nodes. found (λ n. (nodes n).now) (present b.state q)) h.nodes ∙ ap (found (λ n. (a.state.nodes n).now)) same
        | inr other ↦ elim other [ inl came ↦ absurd (no_come came.0) | inr gone ↦ absurd (no_go gone.0) ]
      ] in
      ap (λ (x : View). x q) is_now ∙ same ∙ ap (λ (x : View). x q) (sym is)
  seen_stays (Some a) None went q no_come no_go v w is is_now = absurd is_now
  seen_stays None u went q no_come no_go v w is is_now = absurd is

-- More may come and go.
module _ (C G C' G' : Path → Type 0) (more_come : (q : Path) → C q → C' q) (more_go : (q : Path) → G q → G' q) where
  changed_more : (t u : Table) → IsChanged C G t u → IsChanged C' G' t u
  changed_more t u h q = elim (h q) as (λ _. (t q ≡ u q) ⊎ ((C' q × (t q ≡ Directory) × (u q ≡ Nothing)) ⊎ (G' q × (t q ≡ Nothing) × (u q ≢ Odd)))) [
    | inl same ↦ inl same
    | inr other ↦ elim other as (λ _. (t q ≡ u q) ⊎ ((C' q × (t q ≡ Directory) × (u q ≡ Nothing)) ⊎ (G' q × (t q ≡ Nothing) × (u q ≢ Odd)))) [
      | inl came ↦ inr (inl (more_come q came.0, came.1, came.2))
      | inr gone ↦ inr (inr (more_go q gone.0, gone.1, gone.2))
    ]
  ]

  changing_more : (s0 s : State) → IsChanging C G s0 s → IsChanging C' G' s0 s
  changing_more s0 s h = record {
    tables = λ t is_table.
        let old : (u : Table) × IsTableOf s0 u × IsChanged C G t u = h.tables t is_table in (old.0, old.1, changed_more t (old.0) old.2);
    seen = changed_more (present s) (present s0) h.seen;
    nodes = h.nodes;
    made = h.made;
  }

  only_more : (call : Call) → ChangesOnly C G call → ChangesOnly C' G' call
  only_more (MakeDir p) h = more_come p h
  only_more (RemoveFile p) h = more_go p h
  only_more (RemoveDir p) h = more_go p h
  only_more (Create p) h = absurd h
  only_more (Append p piece) h = absurd h
  only_more (Sync p) h = absurd h
  only_more Settle h = absurd h
  only_more (Rename old new) h = absurd h

  pub alters_more : (t u : Option Told) → Alters C G t u → Alters C' G' t u
  alters_more t u h =
      from_to_more (Altering C G) (Altering C' G') t u
      (λ a b is went. went_more (IsChanging C G a.state) (IsChanging C' G' a.state) (λ s e. ChangesOnly C G e.call) (λ s e. ChangesOnly C' G' e.call) a b
      (λ s k. changing_more a.state s k) (λ s e k. only_more e.call k) went) h

-- All of it at a root or below it.
module _ (root : Path) (C G : Path → Type 0) (inside_come : (q : Path) → C q → IsTrue (apart_from root q) → ⊥) (inside_go : (q : Path) → G q → IsTrue (apart_from root q) → ⊥) where
  alike : (t u : Table) → IsChanged C G t u → AlikeIn (apart_from root) t u
  alike t u h q apart = elim (h q) [
    | inl same ↦ same
    | inr other ↦ elim other [ inl came ↦ absurd (inside_come q came.0 apart) | inr gone ↦ absurd (inside_go q gone.0 apart) ]
  ]

  changing_at : (s0 s : State) → IsChanging C G s0 s → IsChangingAt root C G s0 s
  changing_at s0 s h = record {
    changing = h;
    others = record {
      tables = λ t is_table. let old : (u : Table) × IsTableOf s0 u × IsChanged C G t u = h.tables t is_table in (old.0, old.1, alike t (old.0) old.2);
      seen = alike (present s) (present s0) h.seen;
      nodes = λ n less. ap (λ nodes. nodes n) h.nodes;
      made = omega (arith, h.made);
    };
  }

  spares : (s0 s : State) (call : Call) → ChangesOnly C G call → SparesOld (apart_from root) s0 s call
  spares s0 s (MakeDir p) only = (λ q apart e. inside_come q (subst C e only) apart, tt)
  spares s0 s (RemoveFile p) only = (λ q apart e. inside_go q (subst G e only) apart, tt)
  spares s0 s (RemoveDir p) only = (λ q apart e. inside_go q (subst G e only) apart, tt)
  spares s0 s (Create p) only = absurd only
  spares s0 s (Append p piece) only = absurd only
  spares s0 s (Sync p) only = absurd only
  spares s0 s Settle only = absurd only
  spares s0 s (Rename old new) only = absurd only

  pub changes_at : (t u : Option Told) → Alters C G t u → ChangesAt root C G t u
  changes_at t u h =
      from_to_more (Altering C G) (λ a b. Went (IsChangingAt root C G a.state) (λ s e. ChangesOnly C G e.call × SparesOld (apart_from root) a.state s e.call) a b) t u
      (λ a b is went. went_more (IsChanging C G a.state) (IsChangingAt root C G a.state) (λ s e. ChangesOnly C G e.call)
      (λ s e. ChangesOnly C G e.call × SparesOld (apart_from root) a.state s e.call) a b
      (λ s k. changing_at a.state s k) (λ s e k. (k, spares a.state s e.call k)) went) h

-- and back
pub at_alters : (root : Path) (C G : Path → Type 0) (t u : Option Told) → ChangesAt root C G t u → Alters C G t u
at_alters root C G t u h =
    from_to_more (λ a b. Went (IsChangingAt root C G a.state) (λ s e. ChangesOnly C G e.call × SparesOld (apart_from root) a.state s e.call) a b) (Altering C G) t u
    (λ a b is went. went_more (IsChangingAt root C G a.state) (IsChanging C G a.state)
    (λ s e. ChangesOnly C G e.call × SparesOld (apart_from root) a.state s e.call) (λ s e. ChangesOnly C G e.call) a b
    (λ s k. k.changing) (λ s e k. k.0) went) h

-- A removal lets go what is within its reach.
module _ (r : Reach) (C : Path → Type 0) where
  thinned : (t u : Table) → IsThinned r t u → IsChanged C (IsWithin r) t u
  thinned t u h q = elim (h q) as (λ _. (t q ≡ u q) ⊎ ((C q × (t q ≡ Directory) × (u q ≡ Nothing)) ⊎ (IsWithin r q × (t q ≡ Nothing) × (u q ≢ Odd)))) [
    | inl same ↦ inl same
    | inr gone ↦ inr (inr gone)
  ]

  removing : (s0 s : State) → IsRemoving r s0 s → IsChanging C (IsWithin r) s0 s
  removing s0 s h = record {
    tables = λ t is_table. let old : (u : Table) × IsTableOf s0 u × IsThinned r t u = h.tables t is_table in (old.0, old.1, thinned t (old.0) old.2);
    seen = thinned (present s) (present s0) h.seen;
    nodes = h.nodes;
    made = h.made;
  }

  removes_only : (call : Call) → RemovesWithin r call → ChangesOnly C (IsWithin r) call
  removes_only (RemoveFile p) h = h
  removes_only (RemoveDir p) h = h
  removes_only (MakeDir p) h = absurd h
  removes_only (Create p) h = absurd h
  removes_only (Append p piece) h = absurd h
  removes_only (Sync p) h = absurd h
  removes_only Settle h = absurd h
  removes_only (Rename old new) h = absurd h

  pub removal_alters : (t u : Option Told) → FromTo (λ a b. Went (IsRemoving r a.state) (λ s e. RemovesWithin r e.call) a b) t u → Alters C (IsWithin r) t u
  removal_alters t u h =
      from_to_more (λ a b. Went (IsRemoving r a.state) (λ s e. RemovesWithin r e.call) a b) (Altering C (IsWithin r)) t u
      (λ a b is went. went_more (IsRemoving r a.state) (IsChanging C (IsWithin r) a.state) (λ s e. RemovesWithin r e.call) (λ s e. ChangesOnly C (IsWithin r) e.call) a b
      (λ s k. removing a.state s k) (λ s e k. removes_only e.call k) went) h
