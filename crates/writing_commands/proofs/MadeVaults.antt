-- A new vault is made after the work folder was made ready.
use Rattle.std.proofs.Common.{◌≡◌, ◌⊎◌, ℕ, true, false, List, [], ◌∷◌, Option, Some, Result, Ok, Err, OnOk, inl, inr, refl, sym, ap, subst, arith, IsTrue}
use Rattle.std.specs.Prelude.{is_none}
use Rattle.item_making.specs.declared.fault.PutFault.{PutFault}
use Rattle.item_making.specs.declared.fault.PutFault.TheVariants as puts
use Rattle.std.specs.Io.KnownBytes.{Keeps}
use Rattle.std.proofs.KnownBytes.{Keeps-refl}
use Rattle.cryptomator_conf.specs.declared.conf.Combo.{Combo}
use Rattle.cryptomator_conf.specs.declared.conf.Combo.TheVariants.{SivGcm, SivCtrMac}
use Rattle.folder_spec.specs.Apart.{AreApart}
use Rattle.folder_spec.specs.Path.{Part, Path, parent}
use Rattle.folder_spec.specs.State.{State, IsSound}
use Rattle.folder_spec.specs.Edit.{Edit, HasPublishedIn, HasSettledIn}
use Rattle.folder_spec.specs.Event.{Event, Told, FromTo}
use Rattle.folder_spec.specs.Moments.{Went, Moments}
use Rattle.folder_spec.specs.Region.{IsAsBefore, Spares, apart_from, apart_from_both}
use Rattle.folder_spec.specs.View.{View, AgreeIn}
use Rattle.folder_spec.specs.Seen.{IfSeen, IsSeen}
use Rattle.folder_spec.proofs.Edits.{publishes_nothing, publishes_joined, published_joined, publishes_in_part, published_in_part, unchanged_present}
use Rattle.folder_spec.proofs.Moments.{went_on, went_more, went_to}
use Rattle.folder_spec.proofs.Paths.{below-parent}
use Rattle.folder_spec.proofs.Tellings.{from_to_more}
use Rattle.port_model.specs.Draws.{ByteStream}
use Rattle.command_words.specs.declared.values.Format.{Format}
use Rattle.command_words.specs.declared.values.Format.TheVariants.{Gocryptfs, Cryptomator, CryptomatorCtrMac}
use Rattle.vault_spec.specs.NewVault.{go_files, cm_files, new_go_vault, new_cm_vault}
use Rattle.vault_spec.specs.Vault.{Vault}
use Rattle.vault_write.specs.Founding.{Founds, FoundsCm, MakesDrawn, IsFounding, IsNewVault, founding, new_go, new_cm, texts, vault_edit}
use Rattle.item_making.specs.Making.{StagesOrPlaces, is_apart, is_unstaged}
use Rattle.work_folder.specs.Entering.{EntersAs, IsFresh, IsReady}
use Rattle.open_for_changing.proofs.Beginnings.{Begins, apart_of_both, apart_of_unstaged, as_before_in, as_before_then, begun_then, seen_after, unstaged}
use Rattle.open_for_changing.proofs.Endings.{ended_before, ends_before, made_beside}
use Rattle.open_for_changing.proofs.Leavings.{fresh_then, leaves_all, leaves_then, stays_in_part, stays_nowhere, unused_apart}
use Rattle.open_for_reading.proofs.Overlaps.{apart_by, none_drawn}
use Rattle.open_for_reading.proofs.Refusals.{pass_gives, pass_then}
use Rattle.open_for_changing.proofs.Sites.{begins_nowhere, work_then}
use Rattle.open_for_changing.specs.Beginning.{IsBeginning, ChangesWork, MakesApart}
use Rattle.open_for_changing.specs.Staying.{Leaves, StaysIn, is_unused}
use Rattle.open_for_reading.specs.Tests.{is_of_readying}
use Rattle.open_for_reading.specs.Places.{OfDirectory, OfMissing, overlap}
use Rattle.writing_commands.specs.Faults.{answer_to_making}
use Rattle.writing_commands.specs.Init.{FoundsAs, FoundsNew, FoundsVault, IsMakingVault, IsOfFounding, MakesVault, DrawsCryptomator, DrawsVault, OfNewPlace, OfPlace, RefusesPlace, cm_cost, cost_of}
use Rattle.open_for_reading.specs.Opening.{IsPhrase}
use Rattle.open_for_reading.specs.Refusing.{RefusesPass, Unless}
use Rattle.open_for_changing.specs.Refusing.{RefusesWork}
use Rattle.open_for_reading.specs.Shown.{refused}
use Rattle.command_answers.specs.declared.answer.Answer.{Answer}
use Rattle.open_for_reading.specs.World.{World}
use Rattle.command_answers.specs.declared.answer.Answer.TheVariants.{OutOfMemory, Overlap}
use Rattle.command_words.specs.declared.commands.NewVault.{NewVault}

-- ---- at each moment

module _ (work : Path) (vault : Edit) (files : List (List ℕ)) (s0 : State) (sound : IsSound s0) where
  making_before : (s : State) → IsBeginning work s0 s → IsMakingVault work vault files s0 s
  making_before s begun = record {
    publishes = publishes_nothing (apart_from work) (vault ∷ []) s0 s sound begun.others;
    others = as_before_in (apart_from_both work vault.at) (apart_from work) s0 s (apart_of_both work vault.at) begun.others;
    fronts = λ n new made. absurd (let same : s.made ≡ s0.made = begun.made in omega (arith, new, made, same));
  }

  module _ (s1 : State) (begun : IsBeginning work s0 s1) where
    shows_first : HasPublishedIn (apart_from work) [] s0 s1
    shows_first = record {
      publishes = publishes_nothing (apart_from work) [] s0 s1 sound begun.others;
      shows = λ region v within now. unchanged_present (apart_from work) region s0 s1 v sound within begun.others now;
    }

    making_then : (s : State) → IsFounding work vault files s1 s → IsMakingVault work vault files s0 s
    making_then s founds = record {
      publishes = publishes_joined (apart_from work) [] (vault ∷ []) s0 s1 s shows_first (publishes_in_part (is_unstaged work) (apart_from work) (vault ∷ []) s1 s (unstaged work) founds.publishes);
      others = as_before_then (apart_from_both work vault.at) s0 s1 s
          (as_before_in (apart_from_both work vault.at) (apart_from work) s0 s1 (apart_of_both work vault.at) begun.others)
          (as_before_in (apart_from_both work vault.at) (is_apart work vault.at) s1 s (apart_of_unstaged work vault.at) founds.others);
      fronts = λ n new made. founds.fronts n (let same : s1.made ≡ s0.made = begun.made in omega (arith, new, same)) made;
    }

    settled_then : (s : State) → HasSettledIn (is_unstaged work) (vault ∷ []) s1 s → HasSettledIn (apart_from work) (vault ∷ []) s0 s
    settled_then s settled = record {
      published = published_joined (apart_from work) [] (vault ∷ []) s0 s1 s shows_first (published_in_part (is_unstaged work) (apart_from work) (vault ∷ []) s1 s (unstaged work) settled.published);
      settled = settled.settled;
    }

-- ---- the whole call

module _ (work at : Path) (made : View) (files : List (Part × List ℕ)) where
  abbrev Steps : State → Event → Type 0
  Steps s e = Spares (apart_from work) e.call ⊎ StagesOrPlaces work (founding at made files) s e.call

  abbrev Making : Told → Told → Type 0
  Making a b = Went (IsMakingVault work (vault_edit at made) (texts files) a.state) Steps a b

  went_making : (a b c : Told) → IsSound a.state → Begins work a b → Went (IsFounding work (vault_edit at made) (texts files) b.state) (λ s e. StagesOrPlaces work (founding at made files) s e.call) b c → Making a c
  went_making a b c sound begins founds =
      let begun : IsBeginning work a.state b.state = went_to (IsBeginning work a.state) (λ s e. Spares (apart_from work) e.call) a b begins in
      went_on (IsMakingVault work (vault_edit at made) (texts files) a.state) Steps a b c
      (went_more (IsBeginning work a.state) (IsMakingVault work (vault_edit at made) (texts files) a.state) (λ s e. Spares (apart_from work) e.call) Steps a b
      (making_before work (vault_edit at made) (texts files) a.state sound) (λ s e spares. inl spares) begins)
      (went_more (IsFounding work (vault_edit at made) (texts files) b.state) (IsMakingVault work (vault_edit at made) (texts files) a.state) (λ s e. StagesOrPlaces work (founding at made files) s e.call) Steps b c
      (making_then work (vault_edit at made) (texts files) a.state sound b.state begun) (λ s e places. inr places) founds)

  module _ (t u w : Option Told) (sound : (a : Told) → t ≡ Some a → IsSound a.state) (begins : ChangesWork work t u) where
    moments_of : Moments (IsFounding work (vault_edit at made) (texts files)) (λ s0 s e. StagesOrPlaces work (founding at made files) s e.call) u w
        → Moments (IsMakingVault work (vault_edit at made) (texts files)) (λ s0 s e. Steps s e) t w
    moments_of founds =
        begun_then work (λ b c. Went (IsFounding work (vault_edit at made) (texts files) b.state) (λ s e. StagesOrPlaces work (founding at made files) s e.call) b c) Making t u w sound went_making begins founds

    settled_of : {E : Type 0} (result : Result (Unit {0}) E) → OnOk result (FromTo (λ a b. HasSettledIn (is_unstaged work) (vault_edit at made ∷ []) a.state b.state) u w)
        → OnOk result (FromTo (λ a b. HasSettledIn (apart_from work) (vault_edit at made ∷ []) a.state b.state) t w)
    settled_of (Err fault) settled = tt
    settled_of (Ok done) settled =
        begun_then work (λ b c. HasSettledIn (is_unstaged work) (vault_edit at made ∷ []) b.state c.state) (λ a c. HasSettledIn (apart_from work) (vault_edit at made ∷ []) a.state c.state) t u w sound
        (λ a b c sound_at first second. settled_then work (vault_edit at made) (texts files) a.state sound_at b.state
        (went_to (IsBeginning work a.state) (λ s e. Spares (apart_from work) e.call) a b first) c.state second) begins settled

-- all but the stage and the vault stays
founding_stays : {E : Type 0} (work at : Path) (made : View) (files : List (Part × List ℕ)) (u w : Option Told) (result : Result (Unit {0}) E) → Founds work at made files u w result → StaysIn (is_apart work at) u w
founding_stays work at made files u w result founds =
    from_to_more _ _ u w (λ a b is went. went_more _ (IsAsBefore (is_apart work at) a.state) _ (λ s e. Unit {0}) a b (λ s h. h.others) (λ s e h. tt) went) founds.moments

-- and after Ok nothing but an empty stage is left in the work folder
founding_fresh : {E : Type 0} (work at : Path) (made : View) (files : List (Part × List ℕ)) (u w : Option Told) (result : Result (Unit {0}) E) → overlap at work ≡ false → ((a : Told) → u ≡ Some a → IsSound a.state)
    → IfSeen u (λ v. IsFresh v work) → Founds work at made files u w result → OnOk result (IfSeen w (λ v. IsFresh v work))
founding_fresh work at made files u w (Err fault) apart sound fresh founds = tt
founding_fresh work at made files u w (Ok done) apart sound fresh founds = fresh_then work at apart u w sound (founding_stays work at made files u w (Ok done) founds) fresh founds.ready

some_vault : {E : Type 0} (result : Result (Unit {0}) E) (made : View) (phrase : List ℕ) (vault : Vault) → OnOk result (IsNewVault made phrase vault) → OnOk result ((v : Vault) × IsNewVault made phrase v)
some_vault (Ok done) made phrase vault is = (vault, is)
some_vault (Err fault) made phrase vault is = tt

-- where nothing was founded there is what was before it
only_begun : (work : Path) (t u w : Option Told) → ChangesWork work t u → (result : Result (Unit {0}) PutFault) → MakesDrawn (w ≡ u) result → MakesDrawn (ChangesWork work t w) result
only_begun work t u w begins (Err puts.Random) same = subst (ChangesWork work t) (sym same) begins
only_begun work t u w begins (Err puts.ZeroRandom) same = subst (ChangesWork work t) (sym same) begins
only_begun work t u w begins (Ok done) same = tt
only_begun work t u w begins (Err fault) same = tt

module _ (new : NewVault) (phrase : List ℕ) (answer : Answer) (t u w : Option Told) (stream stream' : Option ByteStream) (sound : (a : Told) → t ≡ Some a → IsSound a.state)
    (begins : ChangesWork new.work t u) (reads : IfSeen t (λ v. IsPhrase (v new.pass) phrase)) (apart : overlap new.vault new.work ≡ false) (sound_then : (a : Told) → u ≡ Some a → IsSound a.state)
    (fresh : IfSeen u (λ v. IsFresh v new.work)) where
  from_parts : (made : View) (files : List (Part × List ℕ)) (result : Result (Unit {0}) PutFault) → answer ≡ answer_to_making result → DrawsVault new.format phrase made files stream stream' result → MakesDrawn (w ≡ u) result
      → Founds new.work new.vault made files u w result → OnOk result ((vault : Vault) × IsNewVault made phrase vault) → FoundsVault new answer t w stream stream'
  from_parts made files result answers drew drawn_first founds opens = record {
    phrase = phrase;
    reads = reads;
    result = result;
    is = answers;
    made = made;
    files = files;
    draws = drew;
    made_drawn = only_begun new.work t u w begins result drawn_first;
    moments = moments_of new.work new.vault made files t u w sound begins founds.moments;
    settled = settled_of new.work new.vault made files t u w sound begins result founds.done;
    vault = opens;
    fresh = founding_fresh new.work new.vault made files u w result apart sound_then fresh founds;
  }

  of_cryptomator : (combo : Combo) (kind : Format) → new.format ≡ kind
      → ((made : View) (files : List (Part × List ℕ)) (result : Result (Unit {0}) PutFault) → DrawsCryptomator combo phrase made files stream stream' result → DrawsVault kind phrase made files stream stream' result)
      → (result : Result (Unit {0}) PutFault) → answer ≡ answer_to_making result
      → FoundsCm new.work new.vault phrase cm_cost combo stream stream' u w result → FoundsVault new answer t w stream stream'
  of_cryptomator combo kind is draws result answers founds =
      let made : View = new_cm_vault phrase cm_cost combo founds.draw in
      let files : List (Part × List ℕ) = cm_files phrase cm_cost combo founds.draw in
      from_parts made files result answers
      (subst (λ (k : Format). DrawsVault k phrase made files stream stream' result) (sym is)
      (draws made files result (founds.draw, founds.drawn, founds.sizes, founds.were_drawn, founds.drew, refl, refl)))
      founds.made_drawn founds.founds (some_vault result made phrase (new_cm combo founds.draw) founds.vault)

  of_kind : (kind : Format) → new.format ≡ kind → (result : Result (Unit {0}) PutFault) → answer ≡ answer_to_making result
      → FoundsNew kind new.work new.vault phrase stream stream' u w result → FoundsVault new answer t w stream stream'
  of_kind Gocryptfs is result answers founds =
      let made : View = new_go_vault phrase (cost_of Gocryptfs) founds.draw founds.key in
      let files : List (Part × List ℕ) = go_files phrase (cost_of Gocryptfs) founds.draw founds.key in
      from_parts made files result answers
      (subst (λ (k : Format). DrawsVault k phrase made files stream stream' result) (sym is) (founds.draw, founds.key, founds.drawn, founds.sizes, founds.were_drawn, founds.drew, refl, refl))
      founds.made_drawn founds.founds (some_vault result made phrase (new_go founds.draw) founds.vault)
  of_kind Cryptomator is result answers founds = of_cryptomator SivGcm Cryptomator is (λ made files drew draws. draws) result answers founds
  of_kind CryptomatorCtrMac is result answers founds = of_cryptomator SivCtrMac CryptomatorCtrMac is (λ made files drew draws. draws) result answers founds

  pub vault_made : FoundsAs new phrase answer u w stream stream' → FoundsVault new answer t w stream stream'
  vault_made founds = of_kind new.format refl founds.result founds.is founds.founds

-- what isn't used of the work folder stays
kind_stays : (kind : Format) (work at : Path) (phrase : List ℕ) (u w : Option Told) (stream stream' : Option ByteStream) (result : Result (Unit {0}) PutFault) → FoundsNew kind work at phrase stream stream' u w result
    → StaysIn (is_apart work at) u w
kind_stays Gocryptfs work at phrase u w stream stream' result founds = founding_stays work at _ _ u w result founds.founds
kind_stays Cryptomator work at phrase u w stream stream' result founds = founding_stays work at _ _ u w result founds.founds
kind_stays CryptomatorCtrMac work at phrase u w stream stream' result founds = founding_stays work at _ _ u w result founds.founds

place_stays : (new : NewVault) (phrase : List ℕ) (answer : Answer) (u w : Option Told) (stream stream' : Option ByteStream) → overlap new.vault new.work ≡ false
    → RefusesPlace answer u w stream stream' ⊎ FoundsAs new phrase answer u w stream stream' → StaysIn (is_unused new.work) u w
place_stays new phrase answer u w stream stream' apart (inl refuses) = stays_nowhere (is_unused new.work) u w refuses.unchanged
place_stays new phrase answer u w stream stream' apart (inr founds) =
    stays_in_part (is_unused new.work) (is_apart new.work new.vault) u w (unused_apart new.work new.vault apart)
    (kind_stays new.format new.work new.vault phrase u w stream stream' founds.result founds.founds)

-- ---- why

-- what is seen at the place, and above it, is what was seen there at first
apart_parent : (work at : Path) → overlap at work ≡ false → IsTrue (apart_from work at) × IsTrue (apart_from work (parent at))
apart_parent work at apart =
    let none : AreApart at work = apart_by at work apart in
    (ap is_none none.other, ap is_none (below-parent work at none.other))

pub place_caused : (new : NewVault) (v w : View) (answer : Answer) (phrase : List ℕ) → overlap new.vault new.work ≡ false → AgreeIn (apart_from new.work) w v → IsPhrase (v new.pass) phrase → EntersAs v new.work (Ok tt)
    → Unless answer (OfPlace new w answer) → Unless answer (OfNewPlace new v answer (IsOfFounding answer))
place_caused new v w answer phrase apart agree is entered (inl failed) = inl failed
place_caused new v w answer phrase apart agree is entered (inr (inl memory)) = inr (inl memory)
place_caused new v w answer phrase apart agree is entered (inr (inr place)) =
    let regions : IsTrue (apart_from new.work new.vault) × IsTrue (apart_from new.work (parent new.vault)) = apart_parent new.work new.vault apart in
    inr (inr (pass_gives new.pass (v new.pass) (refused answer) _ phrase is (
      Ok tt,
      entered,
      subst (λ x. OfDirectory (parent new.vault) x answer (OfMissing new.vault (v new.vault) answer (IsOfFounding answer))) (agree (parent new.vault) regions.1)
          (subst (λ x. OfDirectory (parent new.vault) (w (parent new.vault)) answer (OfMissing new.vault x answer (IsOfFounding answer))) (agree new.vault regions.0) place),
    )))

-- what is refused before the work folder is ready
pub work_caused : (new : NewVault) (v : View) (answer : Answer) (phrase : List ℕ) → IsPhrase (v new.pass) phrase → RefusesWork v new.work answer → Unless answer (OfNewPlace new v answer (IsOfFounding answer))
work_caused new v answer phrase is (inl failed) = inl failed
work_caused new v answer phrase is (inr (inl memory)) = inr (inl memory)
work_caused new v answer phrase is (inr (inr refuses)) =
    inr (inr (pass_gives new.pass (v new.pass) (refused answer) _ phrase is (work_then v new.work answer ⊥ _ (λ none. absurd none) refuses)))

-- what is refused before the passphrase is read
pass_caused : (new : NewVault) (v : View) (answer : Answer) → RefusesPass new.pass (v new.pass) answer → Unless answer (OfNewPlace new v answer (IsOfFounding answer))
pass_caused new v answer (inl failed) = inl failed
pass_caused new v answer (inr (inl memory)) = inr (inl memory)
pass_caused new v answer (inr (inr refuses)) = inr (inr (pass_then new.pass (v new.pass) (refused answer) (λ phrase. ⊥) _ (λ phrase none. absurd none) refuses))

-- ---- the whole call

module _ (new : NewVault) where
  abbrev pub Tests : Answer → View → Type 0
  Tests answer v = OfNewPlace new v answer (IsOfFounding answer)

  abbrev pub IsFounded : Answer → World → World → Type 0
  IsFounded answer before after = FoundsVault new answer before.told after.told before.random after.random

  abbrev pub Apart : Answer → World → World → Type 0
  Apart answer before after = MakesApart is_of_readying new.work (Tests answer) (IsFounded answer before after) answer before after

  pub made_apart : (phrase : List ℕ) (answer : Answer) (u : Option Told) (before after : World) → ((a : Told) → before.told ≡ Some a → IsSound a.state) → overlap new.vault new.work ≡ false
      → ChangesWork new.work before.told u → ((a : Told) → u ≡ Some a → IsSound a.state) → Leaves new.work before.told u → IfSeen u (λ v. IsFresh v new.work)
      → IfSeen before.told (λ v. IsPhrase (v new.pass) phrase) → IfSeen before.told (λ v. EntersAs v new.work (Ok tt))
      → IfSeen u (λ v. Unless answer (OfPlace new v answer)) → RefusesPlace answer u after.told before.random after.random ⊎ FoundsAs new phrase answer u after.told before.random after.random
      → Keeps before.left after.left → Apart answer before after
  made_apart phrase answer u before after sound apart begins sound_then leaves fresh reads entered cause made untouched = record {
    cause = λ v is.
        let later : (x : View) × IsSeen u x × AgreeIn (apart_from new.work) x v = seen_after new.work before.told u begins v is in
        place_caused new v later.0 answer phrase apart later.2 (reads v is) (entered v is) (cause later.0 later.1);
    leaves = leaves_then new.work before.told u after.told leaves entered (place_stays new phrase answer u after.told before.random after.random apart made);
    comes = elim made [
      | inl refuses ↦ inl (ends_before is_of_readying new.work answer before after refuses.own (subst (ChangesWork new.work before.told) (sym refuses.unchanged) begins) refuses.undrawn untouched)
      | inr founds ↦ inr (vault_made new phrase answer before.told u after.told before.random after.random sound begins reads apart sound_then fresh founds)
    ];
  }

  pub not_entered : (phrase : List ℕ) (answer : Answer) (w : World) (told : Option Told) → IsTrue (is_of_readying answer) → ChangesWork new.work w.told told → Leaves new.work w.told told → IfSeen w.told (λ v. IsPhrase (v new.pass) phrase)
      → IfSeen w.told (λ v. RefusesWork v new.work answer) → Apart answer w (record w { told = told })
  not_entered phrase answer w told own begins leaves reads refuses = record {
    cause = λ v is. work_caused new v answer phrase (reads v is) (refuses v is);
    leaves = leaves;
    comes = inl (ends_before is_of_readying new.work answer w (record w { told = told }) own begins (none_drawn w.random) (Keeps-refl w.left));
  }

  pub vault_made_beside : (answer : Answer) (before after : World) → overlap new.vault new.work ≡ false → Keeps before.left after.left → Keeps before.taken after.taken → Apart answer before after → MakesVault new answer before after
  vault_made_beside answer before after apart untouched unwritten made =
      record { makes = made_beside is_of_readying new.vault new.work (Tests answer) (IsFounded answer before after) answer before after apart unwritten made; untouched = untouched }

  pub not_read : (answer : Answer) (w : World) (told : Option Told) → told ≡ w.told → (overlap new.vault new.work ≡ true → (answer ≡ Overlap new.vault new.work) ⊎ (answer ≡ OutOfMemory))
      → (overlap new.vault new.work ≡ false → IfSeen w.told (λ v. RefusesPass new.pass (v new.pass) answer)) → (overlap new.vault new.work ≡ false → IsTrue (is_of_readying answer))
      → MakesVault new answer w (record w { told = told })
  not_read answer w told same overlapping refuses own = record {
    makes = ended_before is_of_readying new.vault new.work (Tests answer) (IsFounded answer w (record w { told = told })) answer w told (λ is. (overlapping is, same))
        (λ apart v seen. pass_caused new v answer (refuses apart v seen)) own (begins_nowhere new.work w.told told same) (leaves_all new.work w.told told same);
    untouched = Keeps-refl w.left;
  }
