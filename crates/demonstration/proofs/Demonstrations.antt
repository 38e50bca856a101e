-- What the demonstration prints, part by part; and what it did where it wasn't begun, or where its message found no memory.
use Rattle.std.proofs.Common.{◌≡◌, ◌∙◌, ◌+◌, ◌≤◌, ◌++◌, ◌∷◌, ◌⊎◌, ◌≢◌, ◌||◌, [], ℕ, zero, suc, Bool, true, false, List, length, take, Option, Some, None, Result, Ok, Err, refl, sym, ap, subst, arith, append-nil, append_assoc, inl, inr, IsTrue}
use Rattle.std.specs.Io.KnownBytes.{Appends}
use Rattle.std.proofs.KnownBytes.{Keeps-refl}
use Rattle.std.proofs.Math.Seq.{take-append-add}
use Rattle.std.proofs.lemmas.List.{take_all}
use Rattle.demo_core.specs.Drawing.{Drew, seed_stream}
use Rattle.demo_core.specs.Sharing.{GoesOn}
use Rattle.demo_core.proofs.Drawn.{Compose}
use Rattle.demo_core.proofs.Shared.{shares_since}
use Rattle.folder_spec.specs.Path.{Path}
use Rattle.folder_model.specs.Memory.{new_told}
use Rattle.folder_spec.specs.Event.{Told}
use Rattle.folder_spec.specs.Seen.{seen}
use Rattle.port_model.specs.Counts.{CountRose}
use Rattle.port_model.specs.Draws.{ByteStream}
use Rattle.port_model.specs.Told.{AppendsPrefix}
use Rattle.command_answers.specs.Messages.{is_plain}
use Rattle.demonstration.specs.Demo.{Chances, Demonstrates, EndsSo, EndsWork, IsBare, IsLed, IsStatus, IsWay, IsWayBack, OnArrival, OnEnd, PrintsAll, PrintsBack, PrintsBy, PrintsDemonstration, PrintsLed, PrintsWay, TakesBy, Way, StoppedThere, StoppedBack, Arrived, SharesOne, back_text, chances, chances_of, is_of_chance, is_of_demonstration, is_of_fault, is_of_folder, is_of_telling, led_text, made_text, moved_text, retired_text, way_of, way_text}
use Rattle.open_for_reading.specs.World.{World}
use Rattle.command_answers.specs.declared.answer.Answer.{Answer}
use Rattle.command_answers.specs.declared.answer.Answer.TheVariants.{Done, OutOfMemory, ZeroRandom, Taken}
use Rattle.demonstration.specs.declared.demonstrating.Way.{Way as Ended}
use Rattle.demonstration.specs.declared.demonstrating.Way.TheVariants as ways
use Rattle.demonstration.specs.declared.leading.Led.{Led}
use Rattle.demonstration.specs.declared.leading.Led.TheVariants as leds
use Rattle.demonstration.specs.declared.leading.Led.TheVariants.{Stopped}
use Rattle.demonstration.specs.declared.leading.Leg.{Leg}
use Rattle.demonstration.specs.declared.leading.Leg.TheVariants.{There, Back}
use Rattle.command_words.specs.declared.commands.Demonstration.{Demonstration}
use Rattle.open_for_reading.proofs.Counts.{rose_after}
use Rattle.demonstration.proofs.DemoDraws.{drew_after}

-- nothing is a front part of any text
pub nothing_yet : (taken : Option (List ℕ)) (text : List ℕ) → AppendsPrefix taken taken text
nothing_yet None text = (0, tt)
nothing_yet (Some bytes) text = (0, sym (append-nil bytes))

pub all_then : (taken mid last : Option (List ℕ)) (text more : List ℕ) → Appends taken mid text → Appends mid last more → Appends taken last (text ++ more)
all_then None mid last text more first next = tt
all_then (Some bytes) None last text more first next = absurd first
all_then (Some bytes) (Some other) None text more first next = absurd next
all_then (Some bytes) (Some other) (Some third) text more first next = next ∙ ap (λ front. front ++ more) first ∙ append_assoc bytes text more

-- a front part of a text is one of a longer text
take_front : (n : ℕ) (text more : List ℕ) → (m : ℕ) × (take m (text ++ more) ≡ take n text)
take_front zero text more = (0, refl)
take_front (suc n) [] more = (0, refl)
take_front (suc n) (byte ∷ text) more = let shorter = take_front n text more in (suc shorter.0, ap (λ rest. byte ∷ rest) shorter.1)

pub front_of_more : (taken last : Option (List ℕ)) (text more : List ℕ) → AppendsPrefix taken last text → AppendsPrefix taken last (text ++ more)
front_of_more taken last text more front =
    let longer = take_front front.0 text more in
    (longer.0, subst (λ piece. Appends taken last piece) (sym longer.1) front.1)

pub front_then : (taken mid last : Option (List ℕ)) (text more : List ℕ) → Appends taken mid text → AppendsPrefix mid last more → AppendsPrefix taken last (text ++ more)
front_then taken mid last text more first next =
    (length text + next.0, subst (λ piece. Appends taken last piece) (sym (take-append-add text more next.0)) (all_then taken mid last text (take next.0 more) first next.1))

-- all of a text is one
pub whole_front : (taken last : Option (List ℕ)) (text : List ℕ) → Appends taken last text → AppendsPrefix taken last text
whole_front taken last text all = (length text, subst (λ piece. Appends taken last piece) (sym (take_all (length text) text (omega arith))) all)

-- ---- the failures of which is told

-- a count that rose has risen later
pub rose_before : (a b c : ℕ) → b ≤ c → CountRose a b → CountRose a c
rose_before a b c grows (inl more) = inl (omega (arith, grows, more))
rose_before a b c grows (inr top) = inr (omega (arith, grows, top))

-- one that stays at 0 didn't rise
pub none_rose : CountRose 0 0 → ⊥
none_rose (inl more) = omega (arith, more)
none_rose (inr top) = omega (arith, top)

-- what befalls a part befalls the whole, where as much is known of the part
pub record IsPart (c c' : Chances) : Type 0 where
  pub folder : c.folder → c'.folder
  pub random : c.random → c'.random
  pub zeros : c'.known → c.zeros → c'.zeros
  pub shared : c'.known → c.shared → c'.shared
  pub known : c'.known → c.known

module _ (c c' : Chances) (part : IsPart c c') where
  pub ends_more : (status : ℕ) → EndsWork c status → EndsWork c' status
  ends_more status is = record {
    stops = is.stops;
    memory = is.memory;
    folder = λ same. part.folder (is.folder same);
    random = λ same. part.random (is.random same);
    zeros = λ known same. part.zeros known (is.zeros (part.known known) same);
    shared = λ known same. part.shared known (is.shared (part.known known) same);
    others = λ known. is.others (part.known known);
  }

  pub way_more : (count : ℕ) (way : Way) → IsWay c count way → IsWay c' count way
  way_more count (StoppedThere status) is = ends_more status is
  way_more count (StoppedBack status) is = ends_more status is
  way_more count (Arrived first second) is = λ known. is (part.known known)

  pub so_more : (answer : Answer) → EndsSo c answer → EndsSo c' answer
  so_more answer so = record {
    zeros = λ known same. part.zeros known (so.zeros (part.known known) same);
    shared = λ known at same. part.shared known (so.shared (part.known known) at same);
    others = λ known. so.others (part.known known);
  }

  -- the way back follows the line of a first migration that is done
  pub back_then : (count retired : ℕ) (result : Result Ended Answer) (taken mid last : Option (List ℕ)) → (c'.known → retired ≡ count) → Appends taken mid (moved_text There 0) → PrintsBack c count retired result mid last
      → PrintsWay c' count result taken last
  back_then count retired (Ok (ways.StoppedThere status)) taken mid last all first next = absurd next.0
  back_then count retired (Ok (ways.StoppedBack status)) taken mid last all first next = (ends_more status next.0, all_then taken mid last (moved_text There 0) (moved_text Back status) first next.1)
  back_then count retired (Ok (ways.Arrived one two)) taken mid last all first next =
      (λ known. (next.0.0 ∙ all known, next.0.1 (part.known known)), all_then taken mid last (moved_text There 0) (moved_text Back 0 ++ retired_text one two) first next.1)
  back_then count retired (Err answer) taken mid last all first next = by_way next.0 next.1 next.2
    where
      by_way : (way : Way) → IsWayBack c count retired way → AppendsPrefix mid last (back_text way) → (way : Way) × IsWay c' count way × AppendsPrefix taken last (way_text way)
      by_way (StoppedThere status) is front = absurd is
      by_way (StoppedBack status) is front = (StoppedBack status, ends_more status is, front_then taken mid last (moved_text There 0) (moved_text Back status) first front)
      by_way (Arrived one two) is front =
          (Arrived one two, (λ known. (is.0 ∙ all known, is.1 (part.known known))), front_then taken mid last (moved_text There 0) (moved_text Back 0 ++ retired_text one two) first front)

  -- and all of it those of the items
  pub made_then : (seed count : ℕ) (result : Result Ended Answer) (taken mid last : Option (List ℕ)) → Appends taken mid (made_text seed count) → PrintsWay c count result mid last → PrintsAll c' seed count result taken last
  made_then seed count (Ok way) taken mid last first next = (way_more count (way_of way) next.0, all_then taken mid last (made_text seed count) (way_text (way_of way)) first next.1)
  made_then seed count (Err answer) taken mid last first next = (next.0, way_more count next.0 next.1, front_then taken mid last (made_text seed count) (way_text next.0) first next.2)

-- what follows on something of which as much is known, which draws some
pub part_after : Compose → (f0 f1 f2 r0 r1 r2 : ℕ) (s0 s1 s2 : Option ByteStream) (t0 t1 t2 : Option Told) (count : ℕ) (K K' : Type 0) → f0 ≤ f1 → r0 ≤ r1 → (K' → Drew ⊥ s0 s1) → (K' → GoesOn t0 t1) → (K' → K)
    → IsPart (chances f1 f2 r1 r2 s1 s2 t1 t2 count K) (chances f0 f2 r0 r2 s0 s2 t0 t2 count K')
part_after compose f0 f1 f2 r0 r1 r2 s0 s1 s2 t0 t1 t2 count K K' folder random drew goes known = record {
  folder = rose_after f0 f1 f2 folder;
  random = rose_after r0 r1 r2 random;
  zeros = λ k zeros. drew_after compose s0 s1 s2 (drew k) zeros;
  shared = λ k shares. (shares.0, shares_since compose shares.0 t0 t1 t2 s0 s1 s2 count count (drew k).drawn (omega arith) (goes k) (drew k).were_drawn shares.1);
  known = known;
}

-- want of memory is always a chance
pub memory_ends : (c : Chances) → EndsSo c OutOfMemory
memory_ends c = record { zeros = λ known same. cc same; shared = λ known at same. cc same; others = λ known. refl }

-- the output's fault, the folder's and want of memory are of chance
plain_chance : (answer : Answer) → IsTrue (is_of_folder answer || is_of_telling answer) → IsTrue (is_of_chance answer)
plain_chance Done is = refl
plain_chance answer is = cc

no_zeros : (answer : Answer) → IsTrue (is_of_folder answer || is_of_telling answer) → answer ≢ ZeroRandom
no_zeros answer is same = let none : IsTrue (is_of_folder ZeroRandom || is_of_telling ZeroRandom) = subst (λ a. IsTrue (is_of_folder a || is_of_telling a)) same is in cc none

none_taken : (answer : Answer) → IsTrue (is_of_folder answer || is_of_telling answer) → (at : Path) → answer ≢ Taken at
none_taken answer is at same = let none : IsTrue (is_of_folder (Taken at) || is_of_telling (Taken at)) = subst (λ a. IsTrue (is_of_folder a || is_of_telling a)) same is in cc none

pub plain_ends : (c : Chances) (answer : Answer) → (c.known → IsTrue (is_of_folder answer || is_of_telling answer)) → EndsSo c answer
plain_ends c answer is = record {
  zeros = λ known same. absurd (no_zeros answer (is known) same);
  shared = λ known at same. absurd (none_taken answer (is known) at same);
  others = λ known. plain_chance answer (is known);
}

either : (a b : Bool) → IsTrue b → IsTrue (a || b)
either true b is = refl
either false b is = is

or_else : (a b : Bool) → IsTrue a → IsTrue (a || b)
or_else true b is = refl
or_else false b is = cc is

pub telling_ends : (c : Chances) (answer : Answer) → IsTrue (is_of_telling answer) → EndsSo c answer
telling_ends c answer is = plain_ends c answer (λ known. either (is_of_folder answer) (is_of_telling answer) is)

pub folder_ends : (c : Chances) (answer : Answer) → (c.known → IsTrue (is_of_folder answer)) → EndsSo c answer
folder_ends c answer is = plain_ends c answer (λ known. or_else (is_of_folder answer) (is_of_telling answer) (is known))

-- ---- one migration

abbrev pub SomeLed : Chances → ℕ → Leg → Option (List ℕ) → Option (List ℕ) → Type 0
SomeLed c count leg taken last = (led : Led) × IsLed c count led × AppendsPrefix taken last (led_text leg led)

-- the same of an equal one
pub led_as : (c : Chances) (count : ℕ) (leg : Leg) (led led' : Led) (taken last : Option (List ℕ)) → led ≡ led' → PrintsLed c count leg (Ok led) taken last → PrintsLed c count leg (Ok led') taken last
led_as c count leg led led' taken last is = subst (λ l. PrintsLed c count leg (Ok l) taken last) is

-- its line was begun
pub some_led : (c : Chances) (count : ℕ) (leg : Leg) (status : ℕ) (taken last : Option (List ℕ)) → IsStatus c status → AppendsPrefix taken last (moved_text leg status) → SomeLed c count leg taken last
some_led c count leg zero taken last is front = (leds.Retired count, (λ known. refl), front)
some_led c count leg (suc n) taken last is front = (Stopped (suc n), is (λ none. cc), front)

-- it ends the way there, or is followed by more
pub some_way : (c : Chances) (count : ℕ) (taken last : Option (List ℕ)) → SomeLed c count There taken last → (way : Way) × IsWay c count way × AppendsPrefix taken last (way_text way)
some_way c count taken last it = by_led it.0 it.1 it.2
  where
    by_led : (led : Led) → IsLed c count led → AppendsPrefix taken last (led_text There led) → (way : Way) × IsWay c count way × AppendsPrefix taken last (way_text way)
    by_led (Stopped status) is front = (StoppedThere status, is, front)
    by_led (leds.Retired items) is front = (Arrived count count, (λ known. (refl, refl)), front_of_more taken last (moved_text There 0) (moved_text Back 0 ++ retired_text count count) front)

-- or the way back
pub some_back : (c : Chances) (count retired : ℕ) (taken last : Option (List ℕ)) → SomeLed c count Back taken last → (way : Way) × IsWayBack c count retired way × AppendsPrefix taken last (back_text way)
some_back c count retired taken last it = by_led it.0 it.1 it.2
  where
    by_led : (led : Led) → IsLed c count led → AppendsPrefix taken last (led_text Back led) → (way : Way) × IsWayBack c count retired way × AppendsPrefix taken last (back_text way)
    by_led (Stopped status) is front = (StoppedBack status, is, front)
    by_led (leds.Retired items) is front = (Arrived retired count, (refl, λ known. refl), front_of_more taken last (moved_text Back 0) (retired_text retired count) front)

-- ---- what stops with an answer

pub led_stopped : (c : Chances) (count : ℕ) (leg : Leg) (result : Result Led Answer) (answer : Answer) (taken last : Option (List ℕ)) → result ≡ Err answer → SomeLed c count leg taken last → PrintsLed c count leg result taken last
led_stopped c count leg result answer taken last is some = subst (λ r. PrintsLed c count leg r taken last) (sym is) some

pub way_stopped : (Is : Way → Type 0) (text : Way → List ℕ) (result : Result Ended Answer) (answer : Answer) (taken last : Option (List ℕ)) → result ≡ Err answer
    → (way : Way) × Is way × AppendsPrefix taken last (text way) → PrintsBy Is text result taken last
way_stopped Is text result answer taken last is some = subst (λ r. PrintsBy Is text r taken last) (sym is) some

-- ---- its own random source

pub of_seed : (f f' seed count : ℕ) (s s' : Option ByteStream) (t t' : Option Told) (known : Type 0) → s ≡ Some (seed_stream seed)
    → IsPart (chances f f' 0 0 s s' t t' count known) (chances_of (CountRose f f') known seed count t t')
of_seed f f' seed count s s' t t' known is = record {
  folder = λ failed. failed;
  random = none_rose;
  zeros = λ k zeros. (s', subst (λ o. Drew (Unit {0}) o s') is zeros);
  shared = λ k shares. (s', subst (λ o. SharesOne t t' o s' count) is shares);
  known = λ k. k;
}

-- ---- the answer

-- a fault leaves a front part
pub takes_front : (answer : Answer) (taken taken' : Option (List ℕ)) (text : List ℕ) → IsTrue (is_of_fault answer) → AppendsPrefix taken taken' text → TakesBy answer taken taken' text
takes_front Done taken taken' text own front = cc
takes_front answer taken taken' text own front = front

-- all is done, or it stops
module _ (c c' : Chances) (part : IsPart c c') (B : Type 0) (seed count : ℕ) where
  pub demonstrated : (ended : Ended) (taken taken' : Option (List ℕ)) → PrintsAll c seed count (Ok ended) taken taken' → OnEnd B ended → PrintsDemonstration c' B seed count Done taken taken'
  demonstrated ended taken taken' prints brought = (way_of ended, way_more c c' part count (way_of ended) prints.0, prints.1, λ same. brought)

  pub stopped : (answer : Answer) (taken taken' : Option (List ℕ)) → IsTrue (is_of_fault answer) → PrintsAll c seed count (Err answer) taken taken' → PrintsDemonstration c' B seed count answer taken taken'
  stopped answer taken taken' own prints =
      (prints.0, way_more c c' part count prints.0 prints.1, takes_front answer taken taken' (made_text seed count ++ way_text prints.0) own prints.2, λ same. absurd (not_done same))
    where
      not_done : answer ≢ Done
      not_done same = let none : IsTrue (is_of_fault Done) = subst (λ a. IsTrue (is_of_fault a)) same own in cc

-- in a folder in which no call fails, and of which all is known
bare_new : IsBare (Some new_told)
bare_new = record { view = seen new_told.state; seen = refl; base = refl; entries = λ name. refl }

pub steady_part : (told told' : Option Told) (seed count : ℕ) → told ≡ Some new_told → IsPart (chances_of (CountRose 0 0) (IsBare told) seed count told told') (chances_of ⊥ (Unit {0}) seed count (Some new_told) told')
steady_part told told' seed count is = record {
  folder = none_rose;
  random = λ failed. failed;
  zeros = λ known zeros. zeros;
  shared = λ known shares. subst (λ t. (rest : Option ByteStream) × SharesOne t told' (Some (seed_stream seed)) rest count) is shares;
  known = λ known. subst IsBare (sym is) bare_new;
}

pub steadily : (c c' : Chances) → IsPart c c' → (B : Type 0) (seed count : ℕ) (answer : Answer) (taken taken' : Option (List ℕ)) → PrintsDemonstration c B seed count answer taken taken' → PrintsDemonstration c' (Unit {0}) seed count answer taken taken'
steadily c c' part B seed count answer taken taken' prints = (prints.0, way_more c c' part count prints.0 prints.1, prints.2, λ same. arrived prints.0)
  where
    arrived : (way : Way) → OnArrival (Unit {0}) way
    arrived (StoppedThere status) = tt
    arrived (StoppedBack status) = tt
    arrived (Arrived first second) = tt

-- ---- the command

-- it isn't begun, for want of memory
pub demonstrates_nothing : (demonstration : Demonstration) (w : World) → Demonstrates demonstration OutOfMemory w w
demonstrates_nothing demonstration w = record {
  own = refl;
  steady = λ same. cc;
  told = None;
  ends = memory_ends (chances_of ⊥ (Unit {0}) demonstration.seed demonstration.count (Some new_told) None);
  prints = (Arrived demonstration.count demonstration.count, (λ known. (refl, refl)), nothing_yet w.taken (made_text demonstration.seed demonstration.count ++ way_text (Arrived demonstration.count demonstration.count)), λ same. cc);
  unchanged = refl;
  untouched = Keeps-refl w.left;
  undrawn = refl;
}

-- whatever the answer, a front part of the lines was taken
front_taken : (answer : Answer) (taken taken' : Option (List ℕ)) (text : List ℕ) → TakesBy answer taken taken' text → AppendsPrefix taken taken' text
front_taken Done taken taken' text takes = whole_front taken taken' text takes
front_taken answer taken taken' text takes = takes

-- so is what was printed, and how it may be answered, told of the answer that a report gives back
pub demonstration_told : (c : Chances) (B : Type 0) (seed count : ℕ) (answer result : Answer) (taken taken' : Option (List ℕ)) → (result ≡ answer) ⊎ ((result ≡ OutOfMemory) × (is_plain answer ≡ false))
    → IsTrue (is_of_demonstration answer) → EndsSo c answer → PrintsDemonstration c B seed count answer taken taken' → IsTrue (is_of_demonstration result) × EndsSo c result × PrintsDemonstration c B seed count result taken taken'
demonstration_told c B seed count answer result taken taken' (inl same) own ends prints =
    subst (λ a. IsTrue (is_of_demonstration a) × EndsSo c a × PrintsDemonstration c B seed count a taken taken') (sym same) (own, ends, prints)
demonstration_told c B seed count answer result taken taken' (inr memory) own ends prints =
    subst (λ a. IsTrue (is_of_demonstration a) × EndsSo c a × PrintsDemonstration c B seed count a taken taken') (sym memory.0)
    (refl, memory_ends c, (prints.0, prints.1, front_taken answer taken taken' (made_text seed count ++ way_text prints.0) prints.2, λ same. cc))
