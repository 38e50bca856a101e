use Rattle.std.proofs.Common.{◌+◌, Err, ◌≡◌, ◌⊎◌, refl, subst, arith}
use Rattle.content_writing.proofs.Takings.{takes_none}
use Rattle.item_making.specs.declared.fault.PutFault.TheVariants as puts
use Rattle.vault_faults.specs.declared.fault.FindFault.TheVariants as finds
use Rattle.vault_write.specs.Calls.{InPlace, most_by}
use Rattle.vault_write.proofs.DirectoryPlaced.{last_name, no_names}
use Rattle.vault_write.proofs.FileMade.{named_file, root_file, root_fits}
use Rattle.vault_write.proofs.ItemMade.{root_blames}
use Rattle.vault_write.proofs.file.put.Goals as goal

pub returns-in-empty : goal.returns-in-empty
returns-in-empty g c =
    let none = no_names c.names.result.now c.args.path.now c.in-empty.len_below c.names.ensures.value in
    let is = subst (λ path. (c.wrong_kind.result ≡ puts.NoMemory) ⊎ (c.wrong_kind.result ≡ puts.Find (finds.WrongKind path))) none c.wrong_kind.ensures in
    record {
      made = root_file InPlace none is;
      fault = root_fits (g.C.Content.reads c.args.content.now) InPlace c.args.vault.now.root c.wrong_kind.result is;
      reads = refl;
      room = omega arith;
      taken = takes_none (most_by (Err c.wrong_kind.result) (g.C.Content.room c.args.content.now + 1)) (g.C.Content.left c.args.content.now);
      lender = refl;
      failed = root_blames InPlace c.args.vault.now.root c.wrong_kind.result puts.Failed tt is;
      source = root_blames InPlace c.args.vault.now.root c.wrong_kind.result puts.Source tt is;
      random = root_blames InPlace c.args.vault.now.root c.wrong_kind.result puts.Random tt is;
    }

pub put_named-requires-clause-path : goal.put_named-requires-clause-path
put_named-requires-clause-path g c = last_name c.names.result.now c.args.path.now c.name-item.result c.names.ensures.value c.in-len1-up.len_at_least c.name-item.is

pub returns-in-len1-up-clause-made : goal.returns-in-len1-up-clause-made
returns-in-len1-up-clause-made g c =
    named_file (last_name c.names.result.now c.args.path.now c.name-item.result c.names.ensures.value c.in-len1-up.len_at_least c.name-item.is) c.put_named.ensures.made
