use Rattle.std.proofs.Common.{◌+◌, Err, refl, subst, arith}
use Rattle.content_writing.proofs.Takings.{takes_none}
use Rattle.item_making.specs.declared.fault.PutFault.TheVariants as puts
use Rattle.vault_write.specs.Calls.{New, most_by}
use Rattle.vault_write.proofs.DirectoryPlaced.{last_name, no_names}
use Rattle.vault_write.proofs.FileMade.{named_file, root_file, root_fits}
use Rattle.vault_write.proofs.ItemMade.{IsRootFault, root_blames}
use Rattle.vault_write.proofs.file.place_file_keeping.Goals as goal

pub returns-in-empty : goal.returns-in-empty
returns-in-empty g c =
    let none = no_names c.names.result.now c.args.path.now c.in-empty.len_below c.names.ensures.value in
    let is = subst (λ at. IsRootFault New at c.taken.result) c.root.ensures c.taken.ensures in
    record {
      kept = tt;
      made = root_file New none is;
      fault = root_fits (g.C.Content.reads c.args.content.now) New c.args.vault.now.root c.taken.result is;
      reads = refl;
      room = omega arith;
      taken = takes_none (most_by (Err c.taken.result) (g.C.Content.room c.args.content.now + 1)) (g.C.Content.left c.args.content.now);
      lender = refl;
      failed = root_blames New c.args.vault.now.root c.taken.result puts.Failed tt is;
      source = root_blames New c.args.vault.now.root c.taken.result puts.Source tt is;
      random = root_blames New c.args.vault.now.root c.taken.result puts.Random tt is;
    }

pub place_named-requires-clause-path : goal.place_named-requires-clause-path
place_named-requires-clause-path g c = last_name c.names.result.now c.args.path.now c.name-item.result c.names.ensures.value c.in-len1-up.len_at_least c.name-item.is

pub returns-in-len1-up-clause-made : goal.returns-in-len1-up-clause-made
returns-in-len1-up-clause-made g c =
    named_file (last_name c.names.result.now c.args.path.now c.name-item.result c.names.ensures.value c.in-len1-up.len_at_least c.name-item.is) c.place_named.ensures.made
