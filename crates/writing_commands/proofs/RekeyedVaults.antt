-- A vault's passphrase is changed after the work folder was made ready.
use Rattle.std.proofs.Common.{◌≡◌, ◌⊎◌, ℕ, true, false, not, List, [], ◌∷◌, ◌++◌, append_assoc, codes, Option, Some, None, Result, Ok, Err, OnOk, inl, inr, refl, sym, ap, ◌∙◌, subst, arith, IsTrue}
use Rattle.std.specs.Prelude.{is_some}
use Rattle.std.specs.Cmp.{first_so, second_so}
use Rattle.std.specs.Io.KnownBytes.{Keeps}
use Rattle.std.proofs.KnownBytes.{Keeps-refl}
use Rattle.folder_spec.specs.Apart.{AreApart}
use Rattle.folder_spec.specs.Path.{Path, below}
use Rattle.folder_spec.specs.State.{State, Table, IsTableOf, IsClean, IsSound, HasNothingPendingIn, present}
use Rattle.folder_spec.specs.Edit.{IsPartOf}
use Rattle.folder_spec.specs.Event.{Event, Told, FromTo}
use Rattle.folder_spec.specs.Moments.{Went, Moments}
use Rattle.folder_spec.specs.Region.{IsAsBefore, AlikeIn, Spares, WritesOnlyNew, apart_from, apart_from_both}
use Rattle.folder_spec.specs.Seen.{IfSeen, IsSeen, ShowsFilePlace, seen, under}
use Rattle.folder_spec.specs.View.{View, AgreeIn, found}
use Rattle.folder_spec.proofs.Moments.{went_on, went_more, went_to}
use Rattle.folder_spec.proofs.Paths.{begins_or_not, below-append, parent-child}
use Rattle.folder_spec.proofs.Replaces.{apart-below}
use Rattle.folder_spec.proofs.Tellings.{from_to_more}
use Rattle.folder_staging.specs.Places.{ArePlacesApart}
use Rattle.item_making.specs.Making.{is_apart, is_inside, is_unstaged}
use Rattle.port_model.specs.Draws.{ByteStream}
use Rattle.vault_read.specs.declared.vault.VaultKind.{VaultKind}
use Rattle.vault_spec.specs.Vault.{Vault, IsVault, Loads}
use Rattle.work_folder.specs.Entering.{EntersAs, IsReady}
use Rattle.work_folder.specs.Entries.{stage_path}
use Rattle.work_folder.specs.Setting.{staged_file}
use Rattle.passwd_core.specs.declared.fault.PassFault.{PassFault}
use Rattle.passwd_core.specs.declared.fault.PassFault.TheVariants as fault
use Rattle.passwd_core.specs.Drawing.{Fresh, Drew}
use Rattle.passwd_core.specs.KeyFiles.{HoldsKeys, key_name, key_path}
use Rattle.passwd_core.specs.Rekeying.{Answers, ChangesPass, HasRekeyed, IsRekeyed, IsRekeying, SparesOthers}
use Rattle.passwd_core.proofs.Rekeyed.{ViewsShown, below_longer, kept}
use Rattle.open_for_changing.proofs.Beginnings.{Begins, apart_of_both, as_before_in, as_before_then, begun_then, seen_after, went_alone}
use Rattle.open_for_changing.proofs.Endings.{ended_before, ends_before, made_beside}
use Rattle.open_for_changing.proofs.Leavings.{leaves_all, leaves_then, stays_in_part, unused_apart}
use Rattle.open_for_changing.proofs.Sites.{begins_nowhere, work_then}
use Rattle.open_for_changing.specs.Beginning.{ChangesOnlyWork, ChangesWork, IsBeginning, MakesApart, OfWork}
use Rattle.open_for_changing.specs.Refusing.{RefusesWork}
use Rattle.open_for_changing.specs.Staying.{Leaves, StaysIn, is_unused}
use Rattle.open_for_reading.specs.Faults.{of_load}
use Rattle.open_for_reading.proofs.Overlaps.{apart_by, none_drawn}
use Rattle.open_for_reading.proofs.Refusals.{loading_refused, pass_gives, pass_then, unless_then, vault_by}
use Rattle.open_for_reading.specs.Opening.{IsPhrase, OfPassFile, OfVault}
use Rattle.open_for_reading.specs.Places.{overlap}
use Rattle.open_for_reading.specs.Refusing.{RefusesPass, Unless}
use Rattle.open_for_reading.specs.Shown.{refused}
use Rattle.open_for_reading.specs.Tests.{is_of_readying}
use Rattle.open_for_reading.specs.World.{World}
use Rattle.command_answers.specs.declared.answer.Answer.{Answer}
use Rattle.command_answers.specs.declared.answer.Answer.TheVariants.{Done, OutOfMemory, Overlap}
use Rattle.command_words.specs.declared.commands.NewPass.{NewPass}
use Rattle.writing_commands.specs.Passwd.{ChangesPassphrase, IsOfRekeying, OfNewPass, RekeysVault, answer_to_change}

-- ---- at each moment

module _ (work root : Path) (pass new_pass : List ℕ) (apart : ArePlacesApart work root) (law : ViewsShown) (s0 s1 : State) (begun : IsBeginning work s0 s1) where
  -- what was not pending isn't
  none_then : HasNothingPendingIn (apart_from work) s0 → HasNothingPendingIn (apart_from work) s1
  none_then none = record {
    agree = λ t p is_table inside.
        let old : (u : Table) × IsTableOf s0 u × AlikeIn (apart_from work) t u = begun.others.tables t is_table in
        old.2 p inside ∙ none.agree old.0 p old.1 inside ∙ sym (begun.others.seen p inside);
    clean = λ p n inside here. subst (λ nodes. IsClean (nodes n)) (sym begun.nodes) (none.clean p n inside (sym (begun.others.seen p inside) ∙ here));
  }

  same_seen : AgreeIn (apart_from work) (seen s1) (seen s0)
  same_seen q inside = ap (λ nodes. found (λ n. (nodes n).now) (present s1 q)) begun.nodes ∙ ap (found (λ n. (s0.nodes n).now)) (begun.others.seen q inside)

  same_vault : under root (seen s1) ≡ under root (seen s0)
  same_vault = law.alike root (seen s1) (seen s0) (λ p here. same_seen p (law.outside work root apart.apart apart.beside p here))

  is_then : (vault : Vault) → IsVault (under root (seen s0)) pass vault → IsVault (under root (seen s1)) pass vault
  is_then vault is = subst (λ v. IsVault v pass vault) (sym same_vault) is

  rekeying_before : IsRekeying work work root pass new_pass s0 s1
  rekeying_before = record {
    others = as_before_in (apart_from_both work root) (apart_from work) s0 s1 (apart_of_both work root) begun.others;
    images = λ vault is none. kept work root pass new_pass apart law s0 s1 (none_then none) same_seen vault is;
  }

  unstaged_part : IsPartOf (apart_from_both work root) (apart_from_both (staged_file work) root)
  unstaged_part q both = rw (
    below_longer (work ++ codes "stage" ∷ []) (codes "f" ∷ []) q (below_longer work (codes "stage" ∷ []) q (apart-below work q (first_so (apart_from work q) (apart_from root q) both))),
    apart-below root q (second_so (apart_from work q) (apart_from root q) both),
  ) refl

  rekeying_then : (s : State) → IsRekeying work (staged_file work) root pass new_pass s1 s → IsRekeying work work root pass new_pass s0 s
  rekeying_then s h = record {
    others = as_before_then (apart_from_both work root) s0 s1 s (as_before_in (apart_from_both work root) (apart_from work) s0 s1 (apart_of_both work root) begun.others)
        (as_before_in (apart_from_both work root) (apart_from_both (staged_file work) root) s1 s unstaged_part h.others);
    images = λ vault is none image is_image.
        let there : IsRekeyed work root vault pass new_pass s1 image = h.images vault (is_then vault is) (none_then none) image is_image in
        record { opens = there.opens; others = λ p inside other. there.others p inside other ∙ same_seen p inside };
  }

  spares_then : (s : State) (e : Event) → SparesOthers work root pass s1 s e → SparesOthers work root pass s0 s e
  spares_then s e h vault is = let there = h vault (is_then vault is) in (there.0, subst (λ made. WritesOnlyNew made s e.call) begun.made there.1)

  rekeyed_then : (fresh : Fresh) (s : State) → HasRekeyed work root pass new_pass fresh s1 s → HasRekeyed work root pass new_pass fresh s0 s
  rekeyed_then fresh s h = record {
    kind = h.kind;
    file = h.file;
    held = subst (λ there. HoldsKeys h.kind there h.file) (same_seen (key_path root h.kind) (inside h.kind)) h.held;
    text = h.text;
    written = h.written;
    shown = h.shown;
    settled = h.settled;
    nothing_pending = λ none. h.nothing_pending (none_then none);
    opens = λ vault is none. h.opens vault (is_then vault is) (none_then none);
  }
    where
      inside : (kind : VaultKind) → IsTrue (apart_from work (key_path root kind))
      inside kind = law.outside work root apart.apart apart.beside (key_path root kind) (ap is_some (below-append root (key_name kind ∷ [])))

-- ---- the places

pub apart_places : (new : NewPass) → overlap new.vault new.work ≡ false → ArePlacesApart new.work new.vault
apart_places new apart = let none : AreApart new.vault new.work = apart_by new.vault new.work apart in record { apart = none.other; beside = none.one }

-- where the work folder is ready a file may be staged
pub stage_place : (work : Path) (v : View) → IsReady v work → ShowsFilePlace v (staged_file work)
stage_place work v ready = inl (ready.bare (codes "f" ∷ []) (omega arith), ap v (parent-child (stage_path work) (codes "f")) ∙ ready.stage)

-- ---- the whole call

module _ (new : NewPass) (phrase new_phrase : List ℕ) (apart : overlap new.vault new.work ≡ false) (t u w : Option Told) (law : ViewsShown) (sound : (a : Told) → t ≡ Some a → IsSound a.state) (begins : ChangesWork new.work t u) where
  places : ArePlacesApart new.work new.vault
  places = apart_places new apart

  abbrev Steps : State → State → Event → Type 0
  Steps s0 s e = Spares (apart_from new.work) e.call ⊎ SparesOthers new.work new.vault phrase s0 s e

  went_rekeying : (a b c : Told) → IsSound a.state → Begins new.work a b
      → Went (IsRekeying new.work (staged_file new.work) new.vault phrase new_phrase b.state) (SparesOthers new.work new.vault phrase b.state) b c
      → Went (IsRekeying new.work new.work new.vault phrase new_phrase a.state) (Steps a.state) a c
  went_rekeying a b c sound_at first second =
      let begun : IsBeginning new.work a.state b.state = went_to (IsBeginning new.work a.state) (λ s e. Spares (apart_from new.work) e.call) a b first in
      went_on (IsRekeying new.work new.work new.vault phrase new_phrase a.state) (Steps a.state) a b c
      (went_more (IsBeginning new.work a.state) (IsRekeying new.work new.work new.vault phrase new_phrase a.state) (λ s e. Spares (apart_from new.work) e.call) (Steps a.state) a b
      (rekeying_before new.work new.vault phrase new_phrase places law a.state) (λ s e spares. inl spares) first)
      (went_more (IsRekeying new.work (staged_file new.work) new.vault phrase new_phrase b.state) (IsRekeying new.work new.work new.vault phrase new_phrase a.state)
      (SparesOthers new.work new.vault phrase b.state) (Steps a.state) b c
      (rekeying_then new.work new.vault phrase new_phrase places law a.state b.state begun)
      (λ s e h. inr (spares_then new.work new.vault phrase new_phrase places law a.state b.state begun s e h)) second)

  moments_of : Moments (IsRekeying new.work (staged_file new.work) new.vault phrase new_phrase) (SparesOthers new.work new.vault phrase) u w
      → Moments (IsRekeying new.work new.work new.vault phrase new_phrase) Steps t w
  moments_of rekeys =
      begun_then new.work (λ b c. Went (IsRekeying new.work (staged_file new.work) new.vault phrase new_phrase b.state) (SparesOthers new.work new.vault phrase b.state) b c)
      (λ a c. Went (IsRekeying new.work new.work new.vault phrase new_phrase a.state) (Steps a.state) a c) t u w sound went_rekeying begins rekeys

  rekeyed_of : (fresh : Fresh) (result : Result (Unit {0}) PassFault) → OnOk result (FromTo (λ a b. HasRekeyed new.work new.vault phrase new_phrase fresh a.state b.state) u w)
      → OnOk result (FromTo (λ a b. HasRekeyed new.work new.vault phrase new_phrase fresh a.state b.state) t w)
  rekeyed_of fresh (Err why) h = tt
  rekeyed_of fresh (Ok done) h =
      begun_then new.work (λ b c. HasRekeyed new.work new.vault phrase new_phrase fresh b.state c.state) (λ a c. HasRekeyed new.work new.vault phrase new_phrase fresh a.state c.state) t u w sound
      (λ a b c sound_at first second. rekeyed_then new.work new.vault phrase new_phrase places law a.state b.state
      (went_to (IsBeginning new.work a.state) (λ s e. Spares (apart_from new.work) e.call) a b first) fresh c.state second) begins h

  -- what is seen at the vault
  same_view : (v : View) → IsSeen t v → (x : View) × IsSeen u x × (under new.vault x ≡ under new.vault v)
  same_view v is =
      let later : (x : View) × IsSeen u x × AgreeIn (apart_from new.work) x v = seen_after new.work t u begins v is in
      (later.0, later.1, law.alike new.vault later.0 v (λ p here. later.2 p (law.outside new.work new.vault places.apart places.beside p here)))

  untold : u ≡ None → t ≡ None
  untold none = by t u begins none
    where
      by : (t u : Option Told) → ChangesWork new.work t u → u ≡ None → t ≡ None
      by None u changes none = refl
      by (Some a) None changes none = absurd changes
      by (Some a) (Some b) changes none = cc none

  drew_of : (fresh : Fresh) (drawn : List ℕ) (result : Result (Unit {0}) PassFault) → Drew u fresh drawn result → Drew t fresh drawn result
  drew_of fresh drawn (Ok done) h = h
  drew_of fresh drawn (Err (fault.Load why)) (inl none) = inl none
  drew_of fresh drawn (Err (fault.Load why)) (inr all) = inr (untold all.0, all.1)
  drew_of fresh drawn (Err fault.ZeroRandom) h = h
  drew_of fresh drawn (Err fault.Random) h = h
  drew_of fresh drawn (Err fault.Failed) h = h
  drew_of fresh drawn (Err fault.NoMemory) h = h

  module _ (answer : Answer) (stream stream' : Option ByteStream) (reads : IfSeen t (λ v. IsPhrase (v new.pass) phrase)) (reads_new : IfSeen t (λ v. IsPhrase (v new.new_pass) new_phrase))
      (result : Result (Unit {0}) PassFault) (is : (answer ≡ OutOfMemory) ⊎ (answer ≡ answer_to_change new.vault result)) (c : ChangesPass new.work new.vault phrase new_phrase stream stream' u w result) where
    rekeys_vault : (answer ≡ Done → result ≡ Ok tt) → RekeysVault new answer t w stream stream'
    rekeys_vault done = record {
      phrase = phrase;
      reads = reads;
      new_phrase = new_phrase;
      reads_new = reads_new;
      result = result;
      is = is;
      done = done;
      fresh = c.fresh;
      drawn = c.drawn;
      sizes = c.sizes;
      were_drawn = c.were_drawn;
      drew = drew_of c.fresh c.drawn result c.drew;
      suits = elim c.suits [
        | inl none ↦ inl none
        | inr told ↦ inr (λ v seen vault opens.
            let later = same_view v seen in
            told later.0 later.1 vault (subst (λ x. IsVault x phrase vault) (sym later.2) opens))
      ];
      early = λ is_early. subst (ChangesOnlyWork new.work t) (sym (c.early is_early)) (went_alone new.work t u begins);
      moments = moments_of c.moments;
      rekeyed = rekeyed_of c.fresh result c.done;
    }

    -- what isn't used of the work folder stays
    unused_stays : StaysIn (is_unused new.work) u w
    unused_stays =
        stays_in_part (is_unused new.work) (apart_from_both (staged_file new.work) new.vault) u w
        (λ q unused. staged_apart q (unused_apart new.work new.vault apart q unused))
        (from_to_more _ _ u w (λ a b is went. went_more _ (IsAsBefore (apart_from_both (staged_file new.work) new.vault) a.state) _ (λ s e. Unit {0}) a b (λ s h. h.others) (λ s e h. tt) went) c.moments)
      where
        staged_apart : IsPartOf (is_apart new.work new.vault) (apart_from_both (staged_file new.work) new.vault)
        staged_apart q both = rw (
          unstaged_below q (first_so (is_unstaged new.work q) (apart_from new.vault q) both),
          apart-below new.vault q (second_so (is_unstaged new.work q) (apart_from new.vault q) both),
        ) refl
          where
            unstaged_below : (q : Path) → IsTrue (is_unstaged new.work q) → below (staged_file new.work) q ≡ None
            unstaged_below q out = elim (begins_or_not (staged_file new.work) q) as (λ _. below (staged_file new.work) q ≡ None) [
              | inr none ↦ none
              | inl k ↦ absurd (
                  let within : below (stage_path new.work) q ≡ Some (codes "f" ∷ k.0) = ap (below (stage_path new.work)) (k.1 ∙ append_assoc (stage_path new.work) (codes "f" ∷ []) k.0) ∙ below-append (stage_path new.work) (codes "f" ∷ k.0) in
                  let clash : IsTrue false = subst (λ o. IsTrue (not (is_inside o))) within out in cc)
            ]

-- ---- why

abbrev Tests : NewPass → Answer → View → Type 0
Tests new answer v = OfNewPass new v answer

vault_caused : (new : NewPass) (x : View) (phrase : List ℕ) (answer : Answer) (result : Result (Unit {0}) PassFault) → (answer ≡ OutOfMemory) ⊎ (answer ≡ answer_to_change new.vault result) → Answers new.vault (under new.vault x) phrase result
    → Unless answer (OfVault x new.vault phrase (refused answer) (λ vault. IsOfRekeying answer))
vault_caused new x phrase answer result (inl memory) told = inr (inl memory)
vault_caused new x phrase answer result (inr is) told = subst (λ a. Unless a (OfVault x new.vault phrase (refused a) (λ vault. IsOfRekeying a))) (sym is) (by result told)
  where
    by : (r : Result (Unit {0}) PassFault) → Answers new.vault (under new.vault x) phrase r
        → Unless (answer_to_change new.vault r) (OfVault x new.vault phrase (refused (answer_to_change new.vault r)) (λ vault. IsOfRekeying (answer_to_change new.vault r)))
    by (Ok done) opens = inr (inr (Ok opens.0, opens.1, inl refl))
    by (Err (fault.Load why)) refuses = unless_then (OfVault x new.vault phrase (refused (of_load new.vault why)) (λ vault. ⊥)) (OfVault x new.vault phrase (refused (of_load new.vault why)) (λ vault. IsOfRekeying (of_load new.vault why))) (of_load new.vault why)
        (λ of. (of.0, of.1, vault_by new.vault (refused (of_load new.vault why)) (λ vault. ⊥) (λ vault. IsOfRekeying (of_load new.vault why)) of.0 (λ vault none. absurd none) of.2))
        (loading_refused new.vault x phrase why refuses)
    by (Err fault.ZeroRandom) opens = inr (inr (Ok opens.0, opens.1, inr (inr refl)))
    by (Err fault.Random) opens = inr (inr (Ok opens.0, opens.1, inr (inl refl)))
    by (Err fault.Failed) told = inl refl
    by (Err fault.NoMemory) told = inr (inl refl)

module _ (new : NewPass) (v : View) (answer : Answer) where
  -- the files of both passphrases are read
  both_read : (phrase new_phrase : List ℕ) (P : Type 0) → IsPhrase (v new.pass) phrase → IsPhrase (v new.new_pass) new_phrase
      → (P → OfWork v new.work answer (OfVault v new.vault phrase (refused answer) (λ vault. IsOfRekeying answer))) → Unless answer P → Unless answer (OfNewPass new v answer)
  both_read phrase new_phrase P is is_new follows caused =
      unless_then P (OfNewPass new v answer) answer
      (λ p. pass_gives new.pass (v new.pass) (refused answer) _ phrase is (pass_gives new.new_pass (v new.new_pass) (refused answer) _ new_phrase is_new (follows p))) caused

  rekey_caused : (x : View) (phrase new_phrase : List ℕ) → under new.vault x ≡ under new.vault v → IsPhrase (v new.pass) phrase → IsPhrase (v new.new_pass) new_phrase → EntersAs v new.work (Ok tt)
      → Unless answer (OfVault x new.vault phrase (refused answer) (λ vault. IsOfRekeying answer)) → Unless answer (OfNewPass new v answer)
  rekey_caused x phrase new_phrase same is is_new entered =
      both_read phrase new_phrase (OfVault x new.vault phrase (refused answer) (λ vault. IsOfRekeying answer)) is is_new
      (λ of. (Ok tt, entered, (of.0, subst (λ shown. Loads shown phrase of.0) same of.1, of.2)))

  work_caused : (phrase new_phrase : List ℕ) → IsPhrase (v new.pass) phrase → IsPhrase (v new.new_pass) new_phrase → RefusesWork v new.work answer → Unless answer (OfNewPass new v answer)
  work_caused phrase new_phrase is is_new =
      both_read phrase new_phrase (OfWork v new.work answer ⊥) is is_new (work_then v new.work answer ⊥ _ (λ none. absurd none))

  -- one of them isn't: the old one, or the new one behind it
  pub first_unread : RefusesPass new.pass (v new.pass) answer → Unless answer (OfPassFile new.pass (v new.pass) (refused answer) (λ phrase. OfPassFile new.new_pass (v new.new_pass) (refused answer) (λ new_phrase. ⊥)))
  first_unread = unless_then _ _ answer (pass_then new.pass (v new.pass) (refused answer) _ _ (λ phrase none. absurd none))

  pub second_unread : (phrase : List ℕ) → IsPhrase (v new.pass) phrase → RefusesPass new.new_pass (v new.new_pass) answer
      → Unless answer (OfPassFile new.pass (v new.pass) (refused answer) (λ phrase. OfPassFile new.new_pass (v new.new_pass) (refused answer) (λ new_phrase. ⊥)))
  second_unread phrase is = unless_then _ _ answer (λ of. pass_gives new.pass (v new.pass) (refused answer) _ phrase is of)

  pass_caused : Unless answer (OfPassFile new.pass (v new.pass) (refused answer) (λ phrase. OfPassFile new.new_pass (v new.new_pass) (refused answer) (λ new_phrase. ⊥))) → Unless answer (OfNewPass new v answer)
  pass_caused =
      unless_then _ (OfNewPass new v answer) answer
      (pass_then new.pass (v new.pass) (refused answer) _ _ (λ phrase. pass_then new.new_pass (v new.new_pass) (refused answer) _ _ (λ new_phrase none. absurd none)))

-- ---- the whole call

module _ (new : NewPass) where
  abbrev Rekeys : Answer → World → World → Type 0
  Rekeys answer before after = RekeysVault new answer before.told after.told before.random after.random

  abbrev pub Apart : Answer → World → World → Type 0
  Apart answer before after = MakesApart is_of_readying new.work (Tests new answer) (Rekeys answer before after) answer before after

  pub rekeyed_apart : (phrase new_phrase : List ℕ) (answer : Answer) (u : Option Told) (before after : World) (law : ViewsShown) → ((a : Told) → before.told ≡ Some a → IsSound a.state) → overlap new.vault new.work ≡ false
      → ChangesWork new.work before.told u → Leaves new.work before.told u → IfSeen before.told (λ v. IsPhrase (v new.pass) phrase) → IfSeen before.told (λ v. IsPhrase (v new.new_pass) new_phrase)
      → IfSeen before.told (λ v. EntersAs v new.work (Ok tt)) → (result : Result (Unit {0}) PassFault) → (answer ≡ OutOfMemory) ⊎ (answer ≡ answer_to_change new.vault result) → (answer ≡ Done → result ≡ Ok tt)
      → ChangesPass new.work new.vault phrase new_phrase before.random after.random u after.told result → Apart answer before after
  rekeyed_apart phrase new_phrase answer u before after law sound apart begins leaves reads reads_new entered result is done c = record {
    cause = λ v seen.
        let later = same_view new phrase new_phrase apart before.told u after.told law sound begins v seen in
        rekey_caused new v answer later.0 phrase new_phrase later.2 (reads v seen) (reads_new v seen) (entered v seen) (vault_caused new later.0 phrase answer result is (c.answer later.0 later.1));
    leaves = leaves_then new.work before.told u after.told leaves entered (unused_stays new phrase new_phrase apart before.told u after.told law sound begins answer before.random after.random reads reads_new result is c);
    comes = inr (rekeys_vault new phrase new_phrase apart before.told u after.told law sound begins answer before.random after.random reads reads_new result is c done);
  }

  pub not_entered : (phrase new_phrase : List ℕ) (answer : Answer) (w : World) (told : Option Told) → IsTrue (is_of_readying answer) → ChangesWork new.work w.told told → Leaves new.work w.told told
      → IfSeen w.told (λ v. IsPhrase (v new.pass) phrase) → IfSeen w.told (λ v. IsPhrase (v new.new_pass) new_phrase) → IfSeen w.told (λ v. RefusesWork v new.work answer) → Apart answer w (record w { told = told })
  not_entered phrase new_phrase answer w told own begins leaves reads reads_new refuses = record {
    cause = λ v seen. work_caused new v answer phrase new_phrase (reads v seen) (reads_new v seen) (refuses v seen);
    leaves = leaves;
    comes = inl (ends_before is_of_readying new.work answer w (record w { told = told }) own begins (none_drawn w.random) (Keeps-refl w.left));
  }

  pub rekeyed_beside : (answer : Answer) (before after : World) → overlap new.vault new.work ≡ false → Keeps before.left after.left → Keeps before.taken after.taken → Apart answer before after → ChangesPassphrase new answer before after
  rekeyed_beside answer before after apart untouched unwritten made =
      record { changes = made_beside is_of_readying new.vault new.work (Tests new answer) (Rekeys answer before after) answer before after apart unwritten made; untouched = untouched }

  pub not_read : (answer : Answer) (w : World) (told : Option Told) → told ≡ w.told → (overlap new.vault new.work ≡ true → (answer ≡ Overlap new.vault new.work) ⊎ (answer ≡ OutOfMemory))
      → (overlap new.vault new.work ≡ false → IfSeen w.told (λ v. Unless answer (OfPassFile new.pass (v new.pass) (refused answer) (λ phrase. OfPassFile new.new_pass (v new.new_pass) (refused answer) (λ new_phrase. ⊥)))))
      → (overlap new.vault new.work ≡ false → IsTrue (is_of_readying answer)) → ChangesPassphrase new answer w (record w { told = told })
  not_read answer w told same overlapping refuses own = record {
    changes = ended_before is_of_readying new.vault new.work (Tests new answer) (Rekeys answer w (record w { told = told })) answer w told (λ is. (overlapping is, same))
        (λ apart v seen. pass_caused new v answer (refuses apart v seen)) own (begins_nowhere new.work w.told told same) (leaves_all new.work w.told told same);
    untouched = Keeps-refl w.left;
  }
