-- What is said where writing a content ends early.
use Rattle.std.proofs.Common.{◌≡◌, ◌≢◌, ℕ, List, [], ◌∷◌, ◌++◌, Option, Result, Err, refl, sym, subst, arith}
use Rattle.port_model.specs.Draws.{ByteStream, Draws}
use Rattle.chunk_files.specs.Encoding.{IsFrontOf}
use Rattle.chunk_files.specs.Encrypt.{encrypt}
use Rattle.chunk_files.specs.Keys.{Keys}
use Rattle.folder_spec.specs.declared.FolderFault.{FolderFault}
use Rattle.folder_spec.specs.declared.FolderFault.TheVariants as folder
use Rattle.folder_spec.specs.Path.{Path}
use Rattle.folder_spec.specs.Event.{Told}
use Rattle.folder_spec.specs.Written.{IsFrontOfOne}
use Rattle.item_making.specs.Ending.{Ending, Whole, Damaged, TooLong}
use Rattle.content_writing.specs.Content.{Coming, Gave, HasEnded}
use Rattle.item_making.specs.Faults.{of_folder}
use Rattle.content_writing.specs.Streaming.{EndsGathering, FailsToStore, IsMadeFor, Start, StagesFront, WereAccepted}
use Rattle.content_writing.specs.Writing.{EndsBy, WritesContent}
use Rattle.content_writing.proofs.Sixteens.{no_zeros}
use Rattle.item_making.specs.declared.fault.PutFault.{PutFault}
use Rattle.item_making.specs.declared.fault.PutFault.TheVariants as puts
use Rattle.content_writing.proofs.Comings.{all_of, rest_of, all_is, ending_is, all_told, ended_on}

pub front_of_file : (front file : List ℕ) → IsFrontOf front file → IsFrontOfOne (file ∷ []) front
front_of_file front file h = record { file = file; among = (0, omega arith, refl); front = (h.behind, h.is) }

-- the ending that a fault tells
abbrev pub ending_by : PutFault → Ending
ending_by (puts.Damaged at fault) = Damaged at fault
ending_by (puts.Limit limit) = TooLong limit
ending_by fault = Whole

module _ (w : Start) (given : List ℕ) (left : Option Coming) (gave : Gave given w.coming left) (ending : Ending) where
  abbrev whole : Coming
  whole = all_of given ending w.coming

  -- so much of the file was made
  pub ends_as : (drawn made : List ℕ) (stream : Option ByteStream) (told : Option Told) (result : Result (Unit {0}) PutFault)
      → Draws w.stream stream drawn → IsMadeFor w.keys drawn (given ++ rest_of w.coming left) made → StagesFront w.at made w.told told
      → (result ≢ Err puts.ZeroRandom → WereAccepted w.keys drawn) → EndsBy w.keys w.at drawn whole.bytes whole.ending w.coming left w.told told result
      → WritesContent w.keys w.at w.coming left w.stream stream w.told told result
  ends_as drawn made stream told result drew made_for stages accepted ends =
      let fits : IsMadeFor w.keys drawn whole.bytes made = subst (λ (c : List ℕ). IsMadeFor w.keys drawn c made) (all_is given ending w.coming left gave) made_for in
      record {
        drawn = drawn;
        content = whole.bytes;
        ending = whole.ending;
        were_drawn = drew;
        enough = fits.enough;
        accepted = λ not. no_zeros w.keys drawn (accepted not);
        told = λ c is. all_told given ending w.coming c is;
        given = given;
        gave = gave;
        stages = stages (encrypt w.keys drawn whole.bytes ∷ []) (front_of_file made (encrypt w.keys drawn whole.bytes) fits.front);
        ends = ends;
      }

-- ---- how each fault ends it

module _ (keys : Keys) (at : Path) (drawn content : List ℕ) (ending : Ending) (coming left : Option Coming) (before after : Option Told) where
  pub ends_storing : (fault : PutFault) → FailsToStore keys drawn fault → EndsBy keys at drawn content ending coming left before after (Err fault)
  ends_storing puts.ZeroRandom h = h
  ends_storing puts.Random h = tt
  ends_storing puts.Failed h = tt
  ends_storing puts.NoMemory h = tt
  ends_storing puts.Source h = absurd h
  ends_storing (puts.Damaged p f) h = absurd h
  ends_storing (puts.Limit l) h = absurd h
  ends_storing (puts.Find f) h = absurd h
  ends_storing (puts.NotAllowed p) h = absurd h
  ends_storing (puts.Taken p) h = absurd h

  pub ends_folder : (fault : FolderFault) → EndsBy keys at drawn content ending coming left before after (Err (of_folder fault))
  ends_folder folder.Failed = tt
  ends_folder folder.Refused = tt
  ends_folder folder.NoMemory = tt

module _ (keys : Keys) (at : Path) (drawn : List ℕ) (coming left : Option Coming) (before after : Option Told) where
  -- behind some bytes that were given before, and all that were given
  pub ends_gathering : (full : ℕ) (xs gathered given : List ℕ) (middle : Option Coming) (fault : PutFault) → Gave xs coming middle → Gave given coming left
      → EndsGathering full gathered middle left (Err fault)
      → EndsBy keys at drawn (all_of given (ending_by fault) coming).bytes (all_of given (ending_by fault) coming).ending coming left before after (Err fault)
  ends_gathering full xs gathered given middle (puts.Damaged p f) h all ends =
      let ended : HasEnded (Damaged p f) coming left = ended_on (Damaged p f) xs coming middle left h ends in
      let is : (all_of given (Damaged p f) coming).ending ≡ Damaged p f = ending_is given (Damaged p f) coming left all ended in
      (is, subst (λ (e : Ending). HasEnded e coming left) (sym is) ended)
  ends_gathering full xs gathered given middle (puts.Limit l) h all ends =
      let ended : HasEnded (TooLong l) coming left = ended_on (TooLong l) xs coming middle left h ends in
      let is : (all_of given (TooLong l) coming).ending ≡ TooLong l = ending_is given (TooLong l) coming left all ended in
      (is, subst (λ (e : Ending). HasEnded e coming left) (sym is) ended)
  ends_gathering full xs gathered given middle puts.Source h all ends = tt
  ends_gathering full xs gathered given middle puts.Failed h all ends = tt
  ends_gathering full xs gathered given middle puts.NoMemory h all ends = tt
  ends_gathering full xs gathered given middle puts.ZeroRandom h all ends = absurd ends
  ends_gathering full xs gathered given middle puts.Random h all ends = absurd ends
  ends_gathering full xs gathered given middle (puts.Find f) h all ends = absurd ends
  ends_gathering full xs gathered given middle (puts.NotAllowed q) h all ends = absurd ends
  ends_gathering full xs gathered given middle (puts.Taken q) h all ends = absurd ends
