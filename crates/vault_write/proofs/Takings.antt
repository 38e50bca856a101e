-- How many bytes of a source are taken by the calls that put a content in its place: these have begun, and no test refuses them any more.
use Rattle.std.proofs.Common.{ℕ, List, Option, Result, Ok, Err}
use Rattle.chunk_files.specs.Keys.{Keys}
use Rattle.port_model.specs.Draws.{ByteStream}
use Rattle.folder_spec.specs.Event.{Told}
use Rattle.folder_spec.specs.Path.{Path}
use Rattle.item_making.specs.Making.{Making}
use Rattle.content_writing.specs.Content.{Coming, TakesUpTo}
use Rattle.item_making.specs.declared.fault.PutFault.{PutFault}
use Rattle.item_making.specs.declared.fault.PutFault.TheVariants as puts
use Rattle.vault_write.specs.Calls.{most_by}
use Rattle.vault_write.specs.Filing.{PlacesEntry, ReplacesContent}

pub placed_takes : {keys : Keys} {work root : Path} {inside : Option (List ℕ)} {making : List ℕ → Making} {coming left : Option Coming} {stream stream' : Option ByteStream} {old new : Option Told}
    (result : Result (Unit {0}) PutFault) (most : ℕ) (a b : Option (List ℕ)) → PlacesEntry keys work root inside making coming left stream stream' old new result → TakesUpTo most a b → TakesUpTo (most_by result most) a b
placed_takes (Ok done) most a b placed taken = taken
placed_takes (Err (puts.Find fault)) most a b placed taken = absurd placed.ends.0
placed_takes (Err (puts.NotAllowed path)) most a b placed taken = absurd placed.ends.0
placed_takes (Err (puts.Taken at)) most a b placed taken = absurd placed.ends.0
placed_takes (Err fault) most a b placed taken = taken

pub replaced_takes : {keys : Keys} {work root at : Path} {coming left : Option Coming} {stream stream' : Option ByteStream} {old new : Option Told}
    (result : Result (Unit {0}) PutFault) (most : ℕ) (a b : Option (List ℕ)) → ReplacesContent keys work root at coming left stream stream' old new result → TakesUpTo most a b → TakesUpTo (most_by result most) a b
replaced_takes (Ok done) most a b placed taken = taken
replaced_takes (Err (puts.Find fault)) most a b placed taken = absurd placed.ends.0
replaced_takes (Err (puts.NotAllowed path)) most a b placed taken = absurd placed.ends.0
replaced_takes (Err (puts.Taken at)) most a b placed taken = absurd placed.ends.0
replaced_takes (Err fault) most a b placed taken = taken
