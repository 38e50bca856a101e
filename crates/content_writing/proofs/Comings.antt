-- What is given of a content, piece by piece, and what is left of it.
use Rattle.std.proofs.Common.{◌≡◌, ℕ, zero, suc, ◌≤◌, List, [], ◌++◌, length, take, Option, Some, None, Result, Ok, Err, refl, sym, ap, ◌∙◌, subst, append_assoc, arith}
use Rattle.std.proofs.lemmas.List.{append-nil}
use Rattle.folder_spec.specs.Path.{Path}
use Rattle.folder_spec.specs.Event.{Told}
use Rattle.folder_spec.specs.View.{Found, NoEntry, View}
use Rattle.folder_spec.specs.Seen.{seen}
use Rattle.item_making.specs.Ending.{Ending, Whole, Damaged, TooLong}
use Rattle.content_writing.specs.Content.{Coming, ends, bytes_before, Stands, still_coming, Gives, Gave, HasEnded, IsContentFault}
use Rattle.content_writing.specs.Streaming.{EndsGathering, Gathers}
use Rattle.item_making.specs.declared.fault.PutFault.{PutFault}
use Rattle.item_making.specs.declared.fault.PutFault.TheVariants as puts

-- what holds at what stands, holds of what is still to come
pub still_by : (reads : Option Path) (told : Option Told) (f g : Found → Option Coming) (R : Option Coming → Option Coming → Type 0) → R None None
    → ((found : Found) → Stands reads told found → R (f found) (g found)) → R (still_coming reads told f) (still_coming reads told g)
still_by None told f g R none each = each NoEntry refl
still_by (Some at) None f g R none each = none
still_by (Some at) (Some a) f g R none each = each (seen a.state at) (seen a.state, refl, refl)

pub still_stands : (reads : Option Path) (told : Option Told) (found : Found) (f : Found → Option Coming) → Stands reads told found → still_coming reads told f ≡ f found
still_stands None told found f is = ap f (sym is)
still_stands (Some at) (Some a) found f (v, seen, is) = ap f (sym (is ∙ ap (λ (w : View). w at) seen))
still_stands (Some at) None found f (v, seen, is) = absurd seen

pub gave_none : (a : Option Coming) → Gave [] a a
gave_none None = tt
gave_none (Some c) = refl

pub gave_more : (xs ys : List ℕ) (a b c : Option Coming) → Gave xs a b → Gave ys b c → Gave (xs ++ ys) a c
gave_more xs ys None b c h k = tt
gave_more xs ys (Some a) None c h k = absurd h
gave_more xs ys (Some a) (Some b) None h k = absurd k
gave_more xs ys (Some a) (Some b) (Some c) h k =
    h ∙ ap (bytes_before xs) k ∙ ap (λ (zs : List ℕ). record { bytes = zs; ending = c.ending }) (sym (append_assoc xs ys c.bytes))

-- ---- what a piece gives

pub piece_gave : (n : ℕ) (out : List ℕ) (a b : Option Coming) → Gives (Ok n) out a b → Gave (take n out) a b
piece_gave n out None b h = tt
piece_gave n out (Some a) None h = absurd h
piece_gave zero out (Some a) (Some b) h = sym h.1
piece_gave (suc n) out (Some a) (Some b) h = h

pub piece_ended : (n : ℕ) (out : List ℕ) (a b : Option Coming) → n ≡ 0 → Gives (Ok n) out a b → HasEnded Whole a b
piece_ended n out None b none h = tt
piece_ended n out (Some a) None none h = absurd h
piece_ended zero out (Some a) (Some b) none h = ap Some (h.1 ∙ h.0)
piece_ended (suc n) out (Some a) (Some b) none h = absurd (omega (arith, none))

pub fault_gave : (fault : PutFault) (out : List ℕ) (a b : Option Coming) → Gives (Err fault) out a b → Gave [] a b
fault_gave fault out None b h = tt
fault_gave fault out (Some a) None h = absurd h
fault_gave (puts.Damaged at f) out (Some a) (Some b) h = sym h.1
fault_gave (puts.Limit l) out (Some a) (Some b) h = sym h.1
fault_gave puts.Source out (Some a) (Some b) h = sym h
fault_gave puts.Failed out (Some a) (Some b) h = sym h
fault_gave puts.NoMemory out (Some a) (Some b) h = sym h
fault_gave (puts.Find f) out (Some a) (Some b) h = absurd h
fault_gave (puts.NotAllowed p) out (Some a) (Some b) h = absurd h
fault_gave (puts.Taken p) out (Some a) (Some b) h = absurd h
fault_gave puts.ZeroRandom out (Some a) (Some b) h = absurd h
fault_gave puts.Random out (Some a) (Some b) h = absurd h

-- ---- what ends

-- an end behind some bytes is the end of all
pub ended_on : (ending : Ending) (xs : List ℕ) (a b c : Option Coming) → Gave xs a b → HasEnded ending b c → HasEnded ending a c
ended_on ending xs None b c h k = tt
ended_on ending xs (Some a) None c h k = absurd h
ended_on ending xs (Some a) (Some b) c h k = k

-- the content: what it tells, or what was given of it
pub all_of : List ℕ → Ending → Option Coming → Coming
all_of given ending None = record { bytes = given; ending = ending }
all_of given ending (Some c) = c

-- what it tells behind what was given
pub rest_of : Option Coming → Option Coming → List ℕ
rest_of None left = []
rest_of (Some c) None = []
rest_of (Some c) (Some d) = d.bytes

pub all_is : (given : List ℕ) (ending : Ending) (a b : Option Coming) → Gave given a b → given ++ rest_of a b ≡ (all_of given ending a).bytes
unfolding all_of rest_of
all_is given ending None b h = append-nil given
all_is given ending (Some a) None h = absurd h
all_is given ending (Some a) (Some b) h = sym (ap (λ (c : Coming). c.bytes) h)

pub rest_none : (ending : Ending) (a b : Option Coming) → HasEnded ending a b → rest_of a b ≡ []
unfolding rest_of
rest_none ending None b h = refl
rest_none ending (Some a) None h = refl
rest_none ending (Some a) (Some b) h = let same : b ≡ ends ending = cc in ap (λ (c : Coming). c.bytes) same

pub ending_is : (given : List ℕ) (ending : Ending) (a b : Option Coming) → Gave given a b → HasEnded ending a b → (all_of given ending a).ending ≡ ending
unfolding all_of
ending_is given ending None b h k = refl
ending_is given ending (Some a) None h k = absurd h
ending_is given ending (Some a) (Some b) h k = let same : b ≡ ends ending = cc in ap (λ (c : Coming). c.ending) h ∙ ap (λ (c : Coming). c.ending) same

pub all_told : (given : List ℕ) (ending : Ending) (a : Option Coming) (c : Coming) → a ≡ Some c
    → c ≡ record { bytes = (all_of given ending a).bytes; ending = (all_of given ending a).ending }
unfolding all_of
all_told given ending None c is = cc is
all_told given ending (Some a) c is = let same : a ≡ c = cc in sym same

-- ---- gathering

pub gives_still : (reads reads0 : Option Path) (told told0 : Option Told) (result : Result ℕ PutFault) (out : List ℕ) (f g : Found → Option Coming) → reads ≡ reads0 → told ≡ told0
    → ((found : Found) → Stands reads told found → Gives result out (f found) (g found)) → Gives result out (still_coming reads0 told0 f) (still_coming reads0 told0 g)
gives_still reads reads0 told told0 result out f g same there each =
    subst (λ (t : Option Told). Gives result out (still_coming reads0 t f) (still_coming reads0 t g)) there
    (subst (λ (r : Option Path). Gives result out (still_coming r told f) (still_coming r told g)) same (still_by reads told f g (Gives result out) tt each))

fault_ends : (reads : Option Path) (full : ℕ) (xs gathered out : List ℕ) (a b c : Option Coming) (fault : PutFault) → IsContentFault reads fault → Gave xs a b → Gives (Err fault) out b c
    → EndsGathering full gathered a c (Err fault)
fault_ends reads full xs gathered out a b c (puts.Damaged at f) is h k = ended_on (Damaged at f) xs a b c h (damaged b c k)
  where
    damaged : (b c : Option Coming) → Gives (Err (puts.Damaged at f)) out b c → HasEnded (Damaged at f) b c
    damaged None c k = tt
    damaged (Some b) None k = absurd k
    damaged (Some b) (Some c) k = ap Some (k.1 ∙ k.0)
fault_ends reads full xs gathered out a b c (puts.Limit l) is h k = ended_on (TooLong l) xs a b c h (passed b c k)
  where
    passed : (b c : Option Coming) → Gives (Err (puts.Limit l)) out b c → HasEnded (TooLong l) b c
    passed None c k = tt
    passed (Some b) None k = absurd k
    passed (Some b) (Some c) k = ap Some (k.1 ∙ k.0)
fault_ends reads full xs gathered out a b c puts.Source is h k = tt
fault_ends reads full xs gathered out a b c puts.Failed is h k = tt
fault_ends reads full xs gathered out a b c puts.NoMemory is h k = tt
fault_ends reads full xs gathered out a b c puts.ZeroRandom is h k = absurd is
fault_ends reads full xs gathered out a b c puts.Random is h k = absurd is
fault_ends reads full xs gathered out a b c (puts.Find f) is h k = absurd is
fault_ends reads full xs gathered out a b c (puts.NotAllowed p) is h k = absurd is
fault_ends reads full xs gathered out a b c (puts.Taken p) is h k = absurd is

module _ (full : ℕ) (xs out : List ℕ) (a b c : Option Coming) (h : Gave xs a b) where
  pub piece_fails : (reads : Option Path) (fault : PutFault) → IsContentFault reads fault → Gives (Err fault) out b c → Gathers full xs a c (Err fault)
  piece_fails reads fault is k = record {
    gave = subst (λ (ys : List ℕ). Gave ys a c) (append-nil xs) (gave_more xs [] a b c h (fault_gave fault out b c k));
    ends = fault_ends reads full xs xs out a b c fault is h k;
  }

  pub piece_more : (n : ℕ) → Gives (Ok n) out b c → Gave (xs ++ take n out) a c
  piece_more n k = gave_more xs (take n out) a b c h (piece_gave n out b c k)

  -- nothing was given
  pub piece_last : (n : ℕ) → n ≡ 0 → Gives (Ok n) out b c → Gathers full xs a c (Ok tt)
  piece_last n none k = record {
    gave = subst (λ (ys : List ℕ). Gave ys a c) (ap (λ (m : ℕ). xs ++ take m out) none ∙ append-nil xs) (piece_more n k);
    ends = λ short. ended_on Whole xs a b c h (piece_ended n out b c none k);
  }

pub gathered_full : (full : ℕ) (xs : List ℕ) (a b : Option Coming) → Gave xs a b → full ≤ length xs → Gathers full xs a b (Ok tt)
gathered_full full xs a b h long = record { gave = h; ends = λ short. absurd (omega (arith, short, long)) }
