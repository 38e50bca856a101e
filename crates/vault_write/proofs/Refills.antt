-- What a file of a vault gives as a content: a chunk is read, and its bytes are given piece by piece.
use Rattle.std.proofs.Common.{◌≡◌, ℕ, zero, suc, ◌+◌, ◌<◌, ◌≤◌, ◌&&◌, ◌||◌, not, nat_le, Bool, true, false, List, [], ◌++◌, length, take, drop, min, replicate, Option, Some, None, Result, Ok, Err, refl, sym, ap, ap₂, ◌∙◌, subst, append_assoc, length-append, arith, if◌then◌else◌}
use Rattle.std.proofs.Math.Nat.{min-le_right}
use Rattle.std.proofs.lemmas.Bool.{leb-true, le-leb}
use Rattle.std.proofs.lemmas.List.{nil_from_length, take-append-drop, length-take-le}
use Rattle.std.specs.Cmp.{first_so, second_so}
use Rattle.std.specs.List.{concat}
use Rattle.chunk_files.specs.Decoding.{Decoding}
use Rattle.chunk_files.specs.Reading.{Reading}
use Rattle.chunk_files.specs.Reading as reading
use Rattle.folder_spec.specs.Path.{Path}
use Rattle.folder_spec.specs.View.{Found, NoEntry, Folder, FileOf, Special, View}
use Rattle.vault_faults.specs.declared.fault.CatFault.{CatFault}
use Rattle.vault_faults.specs.declared.fault.CatFault.TheVariants as cats
use Rattle.vault_faults.specs.declared.fault.Limit.TheVariants.{Depth, Items, Input, Length}
use Rattle.vault_read.specs.Contents.{Reader, Suits, Passes, Stops, IsBeingRead, still}
use Rattle.vault_read.specs.Contents as read
use Rattle.item_making.specs.Ending.{Whole, Damaged, TooLong}
use Rattle.content_writing.specs.Content.{Coming, ends, bytes_before, IsContentFault, IsTold, Steps, Gives}
use Rattle.vault_write.specs.ContentsComing.{ending_of, held_before, suits, fitting, coming_read}
use Rattle.item_making.specs.Faults.{of_cat}
use Rattle.vault_write.specs.HeldChunks.{Refills}
use Rattle.item_making.specs.declared.fault.PutFault.{PutFault}
use Rattle.item_making.specs.declared.fault.PutFault.TheVariants as puts

-- ---- a chunk is read

concat_nones : (k : ℕ) (xs : List (List ℕ)) → concat (replicate k [] ++ xs) ≡ concat xs
concat_nones zero xs = refl
concat_nones (suc k) xs = concat_nones k xs

-- chunks without bytes are nothing to come
passes_same : (at : Path) (held : List ℕ) (before after : Reading) → Passes before after → held_before at held before ≡ held_before at held after
passes_same at held before after (k, is) =
    ap (held_before at held) is
    ∙ ap (λ (xs : List ℕ). record { bytes = held ++ xs; ending = ending_of at after.ending }) (concat_nones k after.chunks)

stops_before : (at : Path) (ending : reading.Ending) (before after : Reading) → Stops ending before after → held_before at [] before ≡ ends (ending_of at ending)
stops_before at ending before after h = passes_same at [] before (reading.ends ending) h.0

stops_after : (at : Path) (ending : reading.Ending) (before after : Reading) → Stops ending before after → held_before at [] after ≡ ends (ending_of at ending)
stops_after at ending before after h = ap (held_before at []) h.1

pub refilled : (at : Path) (n : ℕ) (out : List ℕ) (before after : Reading) → n ≤ length out → read.Gives at (Ok n) out before after
    → Refills (take n out) (held_before at [] before) (held_before at (take n out) after) (Ok tt)
refilled at zero out before after within h =
    let was : held_before at [] before ≡ ends Whole = stops_before at reading.Whole before after h in
    (stops_after at reading.Whole before after h ∙ sym was, λ none. was)
refilled at (suc n) out before after within h = (
  sym (passes_same at [] before (reading.chunk_before (take (suc n) out) after) h),
  λ none. absurd (omega (arith, ap length none, length-take-le (suc n) out within)),
)

pub unfilled : (at : Path) (fault : CatFault) (out : List ℕ) (before after : Reading) → read.Gives at (Err fault) out before after
    → Refills [] (held_before at [] before) (held_before at [] after) (Err (of_cat fault))
unfilled at (cats.Damaged path fault) out before after h =
    let was : held_before at [] before ≡ ends (Damaged at fault) = stops_before at (reading.Faulty fault) before after h.1 in
    (stops_after at (reading.Faulty fault) before after h.1 ∙ sym was, was ∙ ap (λ (p : Path). ends (Damaged p fault)) (sym h.0))
unfilled at (cats.Limit (Length path)) out before after h =
    let was : held_before at [] before ≡ ends (TooLong (Length at)) = stops_before at reading.Wanting before after h.1 in
    (stops_after at reading.Wanting before after h.1 ∙ sym was, was ∙ ap (λ (p : Path). ends (TooLong (Length p))) (sym h.0))
unfilled at (cats.Limit Depth) out before after h = absurd h
unfilled at (cats.Limit Items) out before after h = absurd h
unfilled at (cats.Limit Input) out before after h = absurd h
unfilled at cats.Failed out before after h = sym (passes_same at [] before after h)
unfilled at cats.NoMemory out before after h = sym (passes_same at [] before after h)
unfilled at (cats.Find fault) out before after h = absurd h
unfilled at cats.Sink out before after h = absurd h

-- ---- whether a file suits

test_or : (ended : Bool) (b : Bool) → (not ended || b) ≡ true → ended ≡ true → b ≡ true
test_or true true h is = refl
test_or true false h is = cc
test_or false b h is = cc

or_test : (ended : Bool) (b : Bool) → (ended ≡ true → b ≡ true) → (not ended || b) ≡ true
or_test true true h = refl
or_test true false h = h refl
or_test false b h = refl

pub suits_so : (d : Decoding) (bytes : List ℕ) → suits d bytes ≡ true → Suits d bytes
suits_so d bytes h =
    let reaches : Bool = nat_le d.taken (length bytes) in
    let stops : Bool = not d.ended || nat_le (length bytes) d.taken in
    record {
      front = leb-true d.taken (length bytes) (first_so reaches stops h);
      whole = λ ended. leb-true (length bytes) d.taken (test_or d.ended (nat_le (length bytes) d.taken) (second_so reaches stops h) ended);
    }

suits_test : (d : Decoding) (bytes : List ℕ) → Suits d bytes → suits d bytes ≡ true
suits_test d bytes s =
    ap₂ (λ (a b : Bool). a && b) (le-leb d.taken (length bytes) s.front)
    (or_test d.ended (nat_le (length bytes) d.taken) (λ ended. le-leb (length bytes) d.taken (s.whole ended)))

-- what is told is of a file that suits
pub told_suits : (reader : Reader) (room : ℕ) (held : List ℕ) (found : Found) → IsTold (coming_read reader room held found) → (bytes : List ℕ) × (found ≡ FileOf bytes) × Suits reader.decoding bytes
told_suits reader room held (FileOf bytes) h = (bytes, refl, suits_so reader.decoding bytes (tested (suits reader.decoding bytes) h))
  where
    tested : (b : Bool) → IsTold (if b then fitting room (held_before reader.at held (still reader.decoding bytes)) else None) → b ≡ true
    tested true h = refl
    tested false h = absurd h
told_suits reader room held NoEntry h = absurd h
told_suits reader room held Folder h = absurd h
told_suits reader room held Special h = absurd h

-- what is read of a file suits it, also where the path is named otherwise
pub read_suits : (v : View) (at at' : Path) (d : Decoding) (bytes : List ℕ) → at' ≡ at → v at ≡ FileOf bytes → IsBeingRead v at' d → Suits d bytes
read_suits v at at' d bytes same file (other, there, suit) =
    let one : FileOf other ≡ FileOf bytes = sym there ∙ ap v same ∙ file in
    let is : other ≡ bytes = cc one in
    subst (Suits d) is suit

-- what was told stays told
pub gives_told : (result : Result ℕ PutFault) (out : List ℕ) (a b : Option Coming) → Gives result out a b → IsTold a → IsTold b
gives_told result out None b h told = absurd told
gives_told result out (Some a) None h told = absurd h
gives_told result out (Some a) (Some b) h told = tt

-- ---- a piece is given

none_given : (count most room size : ℕ) → count ≡ min (min most room) size → zero ≡ count → 0 < most → size ≤ room → size ≡ 0
none_given count most room size is none some within = omega (arith, is, none, some, within)

-- from the reader and the bytes held before a piece to those after it, where so many bytes of the chunk are given
pub record GivesPiece (reader reader' : Reader) (room room' most count : ℕ) (held held1 held2 out : List ℕ) : Type 0 where
  pub at : reader'.at ≡ reader.at
  pub some : 0 < most
  pub count_is : count ≡ min (min most room) (length held1)
  pub given : take count out ≡ take count held1
  pub left : held2 ≡ drop count held1
  pub room_is : room' + count ≡ room

module _ (reader reader' : Reader) (room room' most count : ℕ) (held held1 held2 out : List ℕ) (p : GivesPiece reader reader' room room' most count held held1 held2 out) (bytes : List ℕ)
    (suit : Suits reader'.decoding bytes) where
  abbrev before : Coming
  before = held_before reader.at held (still reader.decoding bytes)

  abbrev middle : Coming
  middle = held_before reader.at held1 (still reader'.decoding bytes)

  abbrev after : Coming
  after = held_before reader'.at held2 (still reader'.decoding bytes)

  few : count ≤ length held1
  few = omega (arith, p.count_is, min-le_right (min most room) (length held1))

  middle_is : middle ≡ bytes_before (take count out) after
  middle_is =
      let rest : List ℕ = concat (still reader'.decoding bytes).chunks in
      let parts : held1 ≡ take count out ++ held2 = sym (take-append-drop count held1) ∙ ap₂ (λ (a b : List ℕ). a ++ b) (sym p.given) (sym p.left) in
      let joined : held1 ++ rest ≡ take count out ++ (held2 ++ rest) = ap (λ (a : List ℕ). a ++ rest) parts ∙ append_assoc (take count out) held2 rest in
      ap₂ (λ (b : List ℕ) (q : Path). record { bytes = b; ending = ending_of q (still reader'.decoding bytes).ending }) joined (sym p.at)

  taken : middle ≡ before → length before.bytes ≡ count + length after.bytes
  taken same =
      let size : length (take count out) ≡ count = ap length p.given ∙ length-take-le count held1 few in
      ap (λ (c : Coming). length c.bytes) (sym same ∙ middle_is) ∙ length-append (take count out) after.bytes ∙ ap (λ (n : ℕ). n + length after.bytes) size

  after_told : middle ≡ before → length before.bytes ≤ room → coming_read reader' room' held2 (FileOf bytes) ≡ Some after
  after_told same fits =
      let size = taken same in
      rw (suits_test reader'.decoding bytes suit, le-leb (length after.bytes) room' (omega (arith, size, fits, p.room_is))) refl

  steps : middle ≡ before → (held1 ≡ [] → before ≡ ends Whole) → length before.bytes ≤ room → Steps (Ok count) out before after
  steps same none fits = by_count count refl
    where
      is : before ≡ bytes_before (take count out) after
      is = sym same ∙ middle_is

      by_count : (n : ℕ) → n ≡ count → Steps (Ok n) out before after
      by_count (suc n) e = is ∙ ap (λ (k : ℕ). bytes_before (take k out) after) (sym e)
      by_count zero e =
          let kept : before ≡ after = is ∙ ap (λ (k : ℕ). bytes_before (take k out) after) (sym e) in
          let size : length held1 ≤ length before.bytes = omega (arith, ap (λ (c : Coming). length c.bytes) (sym same), length-append held1 (concat (still reader'.decoding bytes).chunks)) in
          let empty : held1 ≡ [] = nil_from_length held1 (none_given count most room (length held1) p.count_is e p.some (omega (arith, size, fits))) in
          (none empty, sym kept)

  -- of a chunk that was read
  pub piece_given : Refills held1 before middle (Ok tt) → Gives (Ok count) out (coming_read reader room held (FileOf bytes)) (coming_read reader' room' held2 (FileOf bytes))
  piece_given h = by_tests (suits reader.decoding bytes) (nat_le (length before.bytes) room) refl refl
    where
      by_tests : (a b : Bool) → suits reader.decoding bytes ≡ a → nat_le (length before.bytes) room ≡ b
          → Gives (Ok count) out (coming_read reader room held (FileOf bytes)) (coming_read reader' room' held2 (FileOf bytes))
      by_tests false b first second = rw first tt
      by_tests true false first second = rw (first, second) tt
      by_tests true true first second =
          let fits : length before.bytes ≤ room = leb-true (length before.bytes) room second in
          rw (first, second, after_told h.0 fits) (steps h.0 h.1 fits)

  -- none, since none was read
  none_steps : (fault : PutFault) → held1 ≡ [] → Refills held1 before middle (Err fault) → middle ≡ before → Steps (Err fault) out before after
  none_steps fault none h same = by_fault fault h
    where
      nothing : count ≡ 0
      nothing = omega (arith, few, ap length none)

      kept : after ≡ before
      kept = sym (sym same ∙ middle_is ∙ ap (λ (k : ℕ). bytes_before (take k out) after) nothing)

      by_fault : (fault : PutFault) → Refills held1 before middle (Err fault) → Steps (Err fault) out before after
      by_fault (puts.Damaged at f) h = (h.1, kept)
      by_fault (puts.Limit l) h = (h.1, kept)
      by_fault puts.Failed h = kept
      by_fault puts.NoMemory h = kept
      by_fault puts.Source h = absurd h
      by_fault (puts.Find f) h = absurd h
      by_fault (puts.NotAllowed q) h = absurd h
      by_fault (puts.Taken q) h = absurd h
      by_fault puts.ZeroRandom h = absurd h
      by_fault puts.Random h = absurd h

  same_of : (fault : PutFault) → Refills held1 before middle (Err fault) → middle ≡ before
  same_of (puts.Damaged at f) h = h.0
  same_of (puts.Limit l) h = h.0
  same_of puts.Failed h = h
  same_of puts.NoMemory h = h
  same_of puts.Source h = absurd h
  same_of (puts.Find f) h = absurd h
  same_of (puts.NotAllowed q) h = absurd h
  same_of (puts.Taken q) h = absurd h
  same_of puts.ZeroRandom h = absurd h
  same_of puts.Random h = absurd h

  pub piece_failed : (fault : PutFault) → held1 ≡ [] → Refills held1 before middle (Err fault)
      → Gives (Err fault) out (coming_read reader room held (FileOf bytes)) (coming_read reader' room' held2 (FileOf bytes))
  piece_failed fault none h = by_tests (suits reader.decoding bytes) (nat_le (length before.bytes) room) refl refl
    where
      by_tests : (a b : Bool) → suits reader.decoding bytes ≡ a → nat_le (length before.bytes) room ≡ b
          → Gives (Err fault) out (coming_read reader room held (FileOf bytes)) (coming_read reader' room' held2 (FileOf bytes))
      by_tests false b first second = rw first tt
      by_tests true false first second = rw (first, second) tt
      by_tests true true first second =
          let fits : length before.bytes ≤ room = leb-true (length before.bytes) room second in
          rw (first, second, after_told (same_of fault h) fits) (none_steps fault none h (same_of fault h))

-- what reading the file at a path may answer, its content may
pub reader_fault : (at : Path) (fault : CatFault) → read.IsReaderFault at fault → IsContentFault (Some at) (of_cat fault)
reader_fault at (cats.Damaged path fault) is = ap Some (sym is)
reader_fault at (cats.Limit (Length path)) is = ap Some (sym is)
reader_fault at (cats.Limit Depth) is = absurd is
reader_fault at (cats.Limit Items) is = absurd is
reader_fault at (cats.Limit Input) is = absurd is
reader_fault at cats.Failed is = λ none. cc none
reader_fault at cats.NoMemory is = λ none. cc none
reader_fault at (cats.Find fault) is = absurd is
reader_fault at cats.Sink is = absurd is
