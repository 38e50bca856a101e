-- What the files that have been made since a state hold, call by call.
use Rattle.std.proofs.Common.{◌≡◌, ℕ, suc, ◌<◌, true, false, List, ◌++◌, refl, sym, ap, ◌∙◌, subst, arith, take, drop, nat_eq, nat_lt, cond, append_assoc, eqb-true, ltb-true, ltb-false, take-append-drop}
use Rattle.std.specs.Prelude.{Contains}
use Rattle.std.proofs.lemmas.List.Elements.{Contains-append_left, Contains-append_right}
use Rattle.folder_spec.specs.State.{Spot, Nothing, Directory, FileNode, Odd, Node, State, present}
use Rattle.folder_spec.specs.Event.{Call, MakeDir, Create, Append, Sync, Settle, Rename, RemoveFile, RemoveDir, with_file, grown, synced, empty_node, changed, fallen}
use Rattle.folder_spec.specs.Written.{IsFrontOfOne, HoldFronts, WritesFronts}

-- a front part of a front part
pub shorter_front : (files : List (List ℕ)) (bytes more : List ℕ) → IsFrontOfOne files (bytes ++ more) → IsFrontOfOne files bytes
shorter_front files bytes more h =
    record { file = h.file; among = h.among; front = (more ++ h.front.0, h.front.1 ∙ append_assoc bytes more h.front.0) }

-- of more files
pub front_of_more : (files more : List (List ℕ)) (bytes : List ℕ) → ((file : List ℕ) → Contains files file → Contains more file) → IsFrontOfOne files bytes → IsFrontOfOne more bytes
front_of_more files more bytes within h = record { file = h.file; among = within h.file h.among; front = h.front }

pub fronts_of_more : (files more : List (List ℕ)) (s0 s : State) → ((file : List ℕ) → Contains files file → Contains more file) → HoldFronts files s0 s → HoldFronts more s0 s
fronts_of_more files more s0 s within h n new made = front_of_more files more (s.nodes n).now within (h n new made)

-- no file has been made since the state itself
pub fronts_of_none : (files : List (List ℕ)) (s : State) → HoldFronts files s s
fronts_of_none files s n new made = absurd (omega arith)

appended_fronts : (files : List (List ℕ)) (s0 s : State) (x : Spot) (piece : List ℕ)
    → ((n : ℕ) → x ≡ FileNode n → IsFrontOfOne files ((s.nodes n).now ++ piece)) → HoldFronts files s0 s → HoldFronts files s0 (with_file s x (grown piece))
appended_fronts files s0 s Nothing piece within h = h
appended_fronts files s0 s Directory piece within h = h
appended_fronts files s0 s Odd piece within h = h
appended_fronts files s0 s (FileNode k) piece within h = λ n new made.
    elim (nat_eq k n) as (λ b. nat_eq k n ≡ b → IsFrontOfOne files (cond b (grown piece (s.nodes k)) (s.nodes n)).now) [
      | true ↦ λ e. within k refl
      | false ↦ λ e. h n new made
    ] refl

synced_fronts : (files : List (List ℕ)) (s0 s : State) (x : Spot) → HoldFronts files s0 s → HoldFronts files s0 (with_file s x synced)
synced_fronts files s0 s Nothing h = h
synced_fronts files s0 s Directory h = h
synced_fronts files s0 s Odd h = h
synced_fronts files s0 s (FileNode k) h = λ n new made.
    elim (nat_eq k n) as (λ b. nat_eq k n ≡ b → IsFrontOfOne files (cond b (synced (s.nodes k)) (s.nodes n)).now) [
      | true ↦ λ e. let one : k ≡ n = eqb-true k n e in subst (λ m. IsFrontOfOne files (s.nodes m).now) (sym one) (h n new made)
      | false ↦ λ e. h n new made
    ] refl

-- a call that makes such front parts alone
pub fronts_on : (files : List (List ℕ)) (s0 s : State) (call : Call) → WritesFronts files s call → HoldFronts files s0 s → HoldFronts files s0 (changed s call)
fronts_on files s0 s (MakeDir p) within h = h
fronts_on files s0 s (Create p) within h = λ n new made.
    elim (nat_eq s.made n) as (λ b. nat_eq s.made n ≡ b → IsFrontOfOne files (cond b empty_node (s.nodes n)).now) [
      | true ↦ λ e. within
      | false ↦ λ e. h n new (below_made s.made n e made)
    ] refl
  where
    below_made : (made n : ℕ) → nat_eq made n ≡ false → n < suc made → n < made
    below_made made n e le = grind arith
fronts_on files s0 s (Append p piece) within h = appended_fronts files s0 s (present s p) piece within h
fronts_on files s0 s (Sync p) within h = synced_fronts files s0 s (present s p) h
fronts_on files s0 s Settle within h = h
fronts_on files s0 s (Rename old new) within h = h
fronts_on files s0 s (RemoveFile p) within h = h
fronts_on files s0 s (RemoveDir p) within h = h

-- a first part of a piece makes a shorter front part
pub shorter_piece : (files : List (List ℕ)) (now piece : List ℕ) (added : ℕ) → IsFrontOfOne files (now ++ piece) → IsFrontOfOne files (now ++ take added piece)
shorter_piece files now piece added front =
    let whole : now ++ piece ≡ (now ++ take added piece) ++ drop added piece =
    ap (λ rest. now ++ rest) (sym (take-append-drop added piece)) ∙ sym (append_assoc now (take added piece) (drop added piece)) in
    shorter_front files (now ++ take added piece) (drop added piece) (subst (IsFrontOfOne files) whole front)

-- and one that failed
pub fronts_on_failure : (files : List (List ℕ)) (s0 s : State) (call : Call) (added : ℕ) → WritesFronts files s call → HoldFronts files s0 s
    → HoldFronts files s0 (fallen s call added)
fronts_on_failure files s0 s (Append p piece) added within h =
    fronts_on files s0 s (Append p (take added piece)) (λ n is. shorter_piece files (s.nodes n).now piece added (within n is)) h
fronts_on_failure files s0 s (MakeDir p) added within h = h
fronts_on_failure files s0 s (Create p) added within h = h
fronts_on_failure files s0 s (Sync p) added within h = h
fronts_on_failure files s0 s Settle added within h = h
fronts_on_failure files s0 s (Rename old new) added within h = h
fronts_on_failure files s0 s (RemoveFile p) added within h = h
fronts_on_failure files s0 s (RemoveDir p) added within h = h

-- one stretch of calls after another, of the same files
pub fronts_then : (files : List (List ℕ)) (s0 s1 s : State) → HoldFronts files s0 s1 → HoldFronts files s1 s → ((n : ℕ) → n < s1.made → s.nodes n ≡ s1.nodes n) → HoldFronts files s0 s
fronts_then files s0 s1 s first second stay n new made = elim (nat_lt n s1.made) as (λ b. nat_lt n s1.made ≡ b → IsFrontOfOne files (s.nodes n).now) [
  | true ↦ λ e.
      let old : n < s1.made = ltb-true n s1.made e in
      subst (λ (node : Node). IsFrontOfOne files node.now) (sym (stay n old)) (first n new old)
  | false ↦ λ e. second n (ltb-false n s1.made e) made
] refl

-- and of others
pub fronts_compose : (files more : List (List ℕ)) (s0 s1 s : State) → HoldFronts files s0 s1 → HoldFronts more s1 s → ((n : ℕ) → n < s1.made → s.nodes n ≡ s1.nodes n)
    → HoldFronts (files ++ more) s0 s
fronts_compose files more s0 s1 s first then_ stay n new made =
    elim (nat_lt n s1.made) as (λ b. nat_lt n s1.made ≡ b → IsFrontOfOne (files ++ more) (s.nodes n).now) [
      | true ↦ λ e.
          let old : n < s1.made = ltb-true n s1.made e in
          subst (λ (node : Node). IsFrontOfOne (files ++ more) node.now) (sym (stay n old))
          (front_of_more files (files ++ more) (s1.nodes n).now (λ file. Contains-append_left files more file) (first n new old))
      | false ↦ λ e.
          front_of_more more (files ++ more) (s.nodes n).now (λ file. Contains-append_right files more file) (then_ n (ltb-false n s1.made e) made)
    ] refl
