use Rattle.std.proofs.Common.{◌-◌, length, take, subst, arith}
use Rattle.item_making.specs.declared.fault.PutFault.TheVariants as puts
use Rattle.vault_write.specs.Calls.{New}
use Rattle.vault_write.specs.Faults.{IsDirectoryFault}
use Rattle.vault_write.proofs.DirectoryPlaced.{last_name, named_made, no_names, root_made}
use Rattle.vault_write.proofs.ItemMade.{IsRootFault, by_root, root_blames}
use Rattle.vault_write.proofs.directory.place_dir_keeping.Goals as goal

pub returns-in-empty : goal.returns-in-empty
returns-in-empty g c =
    let is = subst (λ at. IsRootFault New at c.taken.result) c.root.ensures c.taken.ensures in
    record {
      kept = tt;
      made = root_made c.args.vault.now c.args.work.now c.args.path.now (g.R.Randoms.left c.args.random.now) (g.F.Folder.told c.args.folder.now) c.taken.result (no_names c.names.result.now c.args.path.now c.in-empty.len_below c.names.ensures.value) is;
      fault = by_root New c.args.vault.now.root c.taken.result IsDirectoryFault tt tt is;
      failed = (root_blames New c.args.vault.now.root c.taken.result puts.Failed tt is).1;
      random = (root_blames New c.args.vault.now.root c.taken.result puts.Random tt is).1;
      grows = omega arith;
      counted = omega arith;
    }

pub place_named-requires-clause-path : goal.place_named-requires-clause-path
place_named-requires-clause-path g c = last_name c.names.result.now c.args.path.now c.name-item.result c.names.ensures.value c.in-len1-up.len_at_least c.name-item.is

pub returns-in-len1-up-clause-made : goal.returns-in-len1-up-clause-made
returns-in-len1-up-clause-made g c =
    let names = c.names.result.now in
    named_made c.args.vault.now c.args.work.now c.args.path.now (take (length names - 1) names) c.name-item.result (g.R.Randoms.left c.args.random.now) (g.R.Randoms.left c.place_named.new.random) (g.F.Folder.told c.args.folder.now) (g.F.Folder.told c.place_named.new.folder) c.place_named.result
    (last_name names c.args.path.now c.name-item.result c.names.ensures.value c.in-len1-up.len_at_least c.name-item.is) c.place_named.ensures.made
