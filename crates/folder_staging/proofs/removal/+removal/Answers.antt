use Rattle.std.proofs.Common.{rules, eqb-true, vec_len, ◌≡◌, ◌≢◌, ◌≤◌, Ok, Err, length, refl, sym, ap, ◌∙◌, subst, arith}
use Rattle.std.proofs.lemmas.Bool.{eqb-false}
use Rattle.std.proofs.lemmas.Result.{err_from_is_err_and}
use Rattle.folder_spec.specs.Path.{child}
use Rattle.folder_spec.specs.Listing.{Item}
use Rattle.folder_spec.specs.View.{kind_found}
use Rattle.folder_model.proofs.Counting.{never_falls}
use Rattle.folder_spec.proofs.Paths.{child-not_base}
use Rattle.folder_staging.specs.declared.removal.RemovalFault.TheVariants.{NoMemory}
use Rattle.folder_staging.specs.Removal.{Removes, from, below_only}
use Rattle.folder_staging.proofs.Removals.{none_from, fault_exit, beneath_within, missing_exit, file_exit, dir_exit, no_call_exit}
use Rattle.folder_staging.proofs.Emptying.{entries_done, entry_kind, one_more_from, entry_fault, none_listed, too_deep, listing_exit, is_folder, any_item, no_items}
use Rattle.folder_staging.proofs.removal.+removal.Goals as goal

pub remove_entry-returns-in-Missing : goal.remove_entry-returns-in-Missing
remove_entry-returns-in-Missing g t c =
    missing_exit c.args.at.now c.args.most (g.F.Folder.told c.args.folder.now) (g.F.Folder.faults c.args.folder.now) (g.met.F.Folder.sound c.args.folder.now)
    (λ v is. sym c.in-Missing.is ∙ c.requires.kind v is)

pub remove_entry-returns-in-File : goal.remove_entry-returns-in-File
remove_entry-returns-in-File g t c =
    rw c.ended.ensures
    (file_exit c.args.at.now c.args.most (g.F.Folder.told c.args.folder.now) (g.F.Folder.told c.remove_file.new.self) (g.F.Folder.faults c.args.folder.now)
    (g.F.Folder.faults c.remove_file.new.self) c.remove_file.result (g.met.F.Folder.sound c.args.folder.now) (g.met.F.Folder.sound c.remove_file.new.self)
    (λ v is. sym c.in-File.is ∙ c.requires.kind v is) c.remove_file.ensures.changes c.remove_file.ensures.counts)

pub remove_entry-returns-in_ok-empty_dir-in-Dir : goal.remove_entry-returns-in_ok-empty_dir-in-Dir
remove_entry-returns-in_ok-empty_dir-in-Dir g t c =
    rw c.ended-in-Dir.ensures
    (dir_exit c.args.at.now c.args.most (g.F.Folder.told c.args.folder.now) (g.F.Folder.told c.empty_dir.new.folder) (g.F.Folder.told c.remove_dir.new.self)
    (g.F.Folder.faults c.args.folder.now) (g.F.Folder.faults c.empty_dir.new.folder) (g.F.Folder.faults c.remove_dir.new.self) c.remove_dir.result
    c.requires.below_base (g.met.F.Folder.sound c.empty_dir.new.folder) (g.met.F.Folder.sound c.remove_dir.new.self)
    (λ v is. sym c.in-Dir.is ∙ c.requires.kind v is) c.in_ok-empty_dir-in-Dir.ensures c.remove_dir.ensures.changes c.remove_dir.ensures.counts)

pub remove_entry-returns-in_err-empty_dir-in-Dir : goal.remove_entry-returns-in_err-empty_dir-in-Dir
remove_entry-returns-in_err-empty_dir-in-Dir g t c =
    let p = err_from_is_err_and c.from_residual.result c.from_residual.ensures.1 in
    let t0 = g.F.Folder.told c.args.folder.now in
    let n0 = g.F.Folder.faults c.args.folder.now in
    let at = c.args.at.now in
    let most = c.args.most in
    rw (p.1, p.2)
    (fault_exit (below_only at most) (from at most) (beneath_within at most) (λ rest deep. (rest, deep, refl)) t0 t0 (g.F.Folder.told c.empty_dir.new.folder) n0 n0
    (g.F.Folder.faults c.empty_dir.new.folder) c.in_err-empty_dir-in-Dir.field-0.0 (none_from (from at most) t0 t0 refl) (omega arith) c.in_err-empty_dir-in-Dir.ensures)

pub remove_entry-returns-in_err-copy-in-Other : goal.remove_entry-returns-in_err-copy-in-Other
remove_entry-returns-in_err-copy-in-Other g t c =
    let p = err_from_is_err_and c.from_residual-in_err-copy-in-Other.result c.from_residual-in_err-copy-in-Other.ensures.1 in
    rw (p.1, p.2)
    (no_call_exit (from c.args.at.now c.args.most) (g.F.Folder.told c.args.folder.now) (g.F.Folder.faults c.args.folder.now) NoMemory (λ e. cc e) (λ v is. tt))

pub empty_dir-returns-in_err-entries : goal.empty_dir-returns-in_err-entries
empty_dir-returns-in_err-entries g t c =
    let p = err_from_is_err_and c.from_residual.result c.from_residual.ensures.1 in
    rw (p.1, p.2)
    (listing_exit c.args.at.now c.args.most (g.F.Folder.told c.args.folder.now) (g.F.Folder.told c.list.new.self) (g.F.Folder.faults c.args.folder.now)
    (g.F.Folder.faults c.list.new.self) c.in_err-entries.field-0.0 c.in_err-entries.ensures.told (λ v is. is_folder (v c.args.at.now) (c.requires v is))
    c.in_err-entries.ensures.answer c.in_err-entries.ensures.counts)

pub empty_dir-returns-then-is_empty : goal.empty_dir-returns-then-is_empty
empty_dir-returns-then-is_empty g t c =
    let t0 = g.F.Folder.told c.args.folder.now in
    let n0 = g.F.Folder.faults c.args.folder.now in
    let n1 = g.F.Folder.faults c.list.new.self in
    let entries = c.in_ok-entries.entries in
    let empty : vec_len entries ≡ 0 = eqb-true (vec_len entries) 0 (sym c.if-is_empty.ensures) in
    none_listed c.args.at.now c.args.most entries.items t0 (g.F.Folder.told c.list.new.self) n0 n1 c.in_ok-entries.ensures.told
    (never_falls t0 n0 n1 (Ok entries) c.in_ok-entries.ensures.counts)
    (no_items entries.items (omega (arith, empty, entries.ok.0))) (g.met.F.Folder.sound c.list.new.self) (λ v is. (c.in_ok-entries.ensures.answer v is).1)

pub empty_dir-returns : goal.empty_dir-returns
empty_dir-returns g t c =
    let t0 = g.F.Folder.told c.args.folder.now in
    let n0 = g.F.Folder.faults c.args.folder.now in
    let n1 = g.F.Folder.faults c.list.new.self in
    let entries = c.in_ok-entries.entries in
    let some : vec_len entries ≢ 0 = eqb-false (vec_len entries) 0 (sym c.if-is_empty.ensures) in
    too_deep c.args.at.now c.args.most entries.items t0 (g.F.Folder.told c.list.new.self) n0 n1 c.in_ok-entries.ensures.told
    (never_falls t0 n0 n1 (Ok entries) c.in_ok-entries.ensures.counts)
    (λ none. some (omega (arith, ap length none, entries.ok.0))) (omega (arith, c.if-most-gt0.false)) (λ v is. (c.in_ok-entries.ensures.answer v is).1)

pub remove_entries-remove_entry-requires : goal.remove_entries-remove_entry-requires
remove_entries-remove_entry-requires g t c κs within =
    let item : Item = c.entry-item.result in
    let here : c.in_ok-here.here ≡ child c.args.at.now item.name =
    c.in_ok-here.ensures ∙ ap (child c.args.at.now) (c.as_str.ensures.value ∙ ap (λ (x : Item). x.name) c.entry.view_is) in (
      search rules,
      (
        search rules,
        (
          λ base. child-not_base c.args.at.now item.name (sym here ∙ base),
          λ v is.
              ap (λ (x : Item). x.kind) c.entry.view_is
              ∙ entry_kind c.args.at.now c.args.most c.args.entries.now c.loop-entry.entry-index (g.F.Folder.told c.args.folder.now) (g.F.Folder.told c.loop-entry.folder)
              c.loop-entry.invariant.0 item c.loop-entry-test.true
              (λ d. any_item c.args.entries.now c.loop-entry.entry-index d item c.loop-entry-test.true ∙ sym c.entry-item.is) c.requires v is
              ∙ ap (λ p. kind_found (v p)) (sym here),
        ),
      ),
    )

pub remove_entries-returns-in_err-remove_entry : goal.remove_entries-returns-in_err-remove_entry
remove_entries-returns-in_err-remove_entry g t c =
    let p = err_from_is_err_and c.from_residual-in_err-remove_entry.result c.from_residual-in_err-remove_entry.ensures.1 in
    let item : Item = c.entry-item.result in
    let at = c.args.at.now in
    let t1 = g.F.Folder.told c.loop-entry.folder in
    let t2 = g.F.Folder.told c.remove_entry.new.folder in
    let n1 = g.F.Folder.faults c.loop-entry.folder in
    let n2 = g.F.Folder.faults c.remove_entry.new.folder in
    let here : c.in_ok-here.here ≡ child at item.name =
    c.in_ok-here.ensures ∙ ap (child at) (c.as_str.ensures.value ∙ ap (λ (x : Item). x.name) c.entry.view_is) in
    rw (p.1, p.2)
    (entry_fault at c.args.most c.args.entries.now c.loop-entry.entry-index (g.F.Folder.told c.args.folder.now) t1 c.loop-entry.invariant.0 item c.loop-entry-test.true
    (λ d. any_item c.args.entries.now c.loop-entry.entry-index d item c.loop-entry-test.true ∙ sym c.entry-item.is) c.requires t2
    (g.F.Folder.faults c.args.folder.now) n1 n2 c.in_err-remove_entry.field-0.0 c.loop-entry.invariant.1
    (subst (λ q. Removes (from q c.args.most) t1 t2 n1 n2 (Err c.in_err-remove_entry.field-0.0)) here c.in_err-remove_entry.ensures))

pub remove_entries-loop-entry-preserved : goal.remove_entries-loop-entry-preserved
remove_entries-loop-entry-preserved g t c =
    let item : Item = c.entry-item.result in
    let at = c.args.at.now in
    let t1 = g.F.Folder.told c.loop-entry.folder in
    let t2 = g.F.Folder.told c.remove_entry.new.folder in
    let n0 = g.F.Folder.faults c.args.folder.now in
    let n1 = g.F.Folder.faults c.loop-entry.folder in
    let n2 = g.F.Folder.faults c.remove_entry.new.folder in
    let here : c.in_ok-here.here ≡ child at item.name =
    c.in_ok-here.ensures ∙ ap (child at) (c.as_str.ensures.value ∙ ap (λ (x : Item). x.name) c.entry.view_is) in
    let removed : Removes (from (child at item.name) c.args.most) t1 t2 n1 n2 (Ok tt) =
    subst (λ q. Removes (from q c.args.most) t1 t2 n1 n2 (Ok tt)) here c.in_ok-remove_entry.ensures in
    let before : n0 ≤ n1 = c.loop-entry.invariant.1 in
    let more : n1 ≤ n2 = removed.grows in (
      one_more_from at c.args.most c.args.entries.now c.loop-entry.entry-index (g.F.Folder.told c.args.folder.now) t1 c.loop-entry.invariant.0 item c.loop-entry-test.true
          (λ d. any_item c.args.entries.now c.loop-entry.entry-index d item c.loop-entry-test.true ∙ sym c.entry-item.is) c.requires t2 n1 n2 removed,
      omega (arith, before, more),
    )

pub remove_entries-returns : goal.remove_entries-returns
remove_entries-returns g t c =
    entries_done c.args.at.now c.args.most c.args.entries.now c.loop-entry.entry-index (g.F.Folder.told c.args.folder.now) (g.F.Folder.told c.loop-entry.folder)
    c.loop-entry.invariant.0 (g.F.Folder.faults c.args.folder.now) (g.F.Folder.faults c.loop-entry.folder) c.loop-entry.invariant.1 c.loop-entry-test.false
    (g.met.F.Folder.sound c.loop-entry.folder) c.requires
