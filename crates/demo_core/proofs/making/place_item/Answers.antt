use Rattle.std.proofs.Common.{◌∙◌, Err, inl, inr, refl, sym, ap, arith}
use Rattle.port_model.specs.Counts.{CountRose}
use Rattle.vault_spec.specs.Making.{NewDirectory, NewFile}
use Rattle.demo_core.proofs.Filling.{at_err, directory_opens, directory_own, file_opens, file_own, if_err, item_adds, item_beside, item_chance, item_ready, item_shares, item_zeros}
use Rattle.std.proofs.lemmas.Result.{IfErr-weaker}
use Rattle.demo_core.specs.Contents.{coming_of}
use Rattle.demo_core.proofs.making.place_item.Goals as goal

-- a count of no faults didn't rise
no_rise : ¬ CountRose 0 0
no_rise rose = elim rose [
  | inl less ↦ omega (arith, less)
  | inr full ↦ omega (arith, full)
]

pub returns-then-is_directory-clause-ready : goal.returns-then-is_directory-clause-ready
returns-then-is_directory-clause-ready g c =
    let made = c.place_dir.ensures.made in
    item_ready c.args.vault.now c.args.work.now c.args.seed c.args.number c.in_ok-path.path NewDirectory _ made.drawn _ _ c.place_dir.result c.in_ok-path.ensures made.makes

pub returns-then-is_directory-clause-adds : goal.returns-then-is_directory-clause-adds
returns-then-is_directory-clause-adds g c =
    let made = c.place_dir.ensures.made in
    item_adds c.args.vault.now c.args.work.now c.args.seed c.args.number c.in_ok-path.path NewDirectory _ made.drawn _ _ c.place_dir.result c.in_ok-path.ensures made.makes
    c.requires.number c.requires.may.apart c.requires.may.beside (directory_opens c.args.seed c.args.number (sym c.is_directory.ensures ∙ c.if-is_directory.true))

pub returns-then-is_directory-clause-beside : goal.returns-then-is_directory-clause-beside
returns-then-is_directory-clause-beside g c =
    let made = c.place_dir.ensures.made in
    item_beside c.args.vault.now c.args.work.now c.args.seed c.args.number c.in_ok-path.path NewDirectory _ made.drawn _ _ c.place_dir.result c.in_ok-path.ensures made.makes

pub returns-clause-adds : goal.returns-clause-adds
returns-clause-adds g c =
    let made = c.place_file.ensures.made in
    let it = c.of-content.result in
    item_adds c.args.vault.now c.args.work.now c.args.seed c.args.number c.in_ok-path.path (NewFile made.writing.content) _ made.writing.drawn _ _ c.place_file.result c.in_ok-path.ensures made.makes
    c.requires.number c.requires.may.apart c.requires.may.beside
    (file_opens c.args.seed c.args.number it.seed it.number it.given it.left made.writing.content (sym c.is_directory.ensures ∙ c.if-is_directory.false)
    c.of-content.ensures.seed c.of-content.ensures.number c.of-content.ensures.given c.of-content.ensures.left
    (ap (λ x. x.bytes) (made.takes.told (coming_of it.seed it.number it.given it.left) refl)))

pub returns-clause-beside : goal.returns-clause-beside
returns-clause-beside g c =
    let made = c.place_file.ensures.made in
    item_beside c.args.vault.now c.args.work.now c.args.seed c.args.number c.in_ok-path.path (NewFile made.writing.content) _ made.writing.drawn _ _ c.place_file.result c.in_ok-path.ensures made.makes

pub returns-then-is_directory-clause-own : goal.returns-then-is_directory-clause-own
returns-then-is_directory-clause-own g c = IfErr-weaker c.place_dir.result _ _ directory_own c.place_dir.ensures.fault

pub returns-then-is_directory-clause-drew : goal.returns-then-is_directory-clause-drew
returns-then-is_directory-clause-drew g c =
    let made = c.place_dir.ensures.made in
    record {
      drawn = made.drawn;
      were_drawn = made.were_drawn;
      run = item_zeros c.args.vault.now c.args.work.now c.args.seed c.args.number c.in_ok-path.path NewDirectory _ made.drawn _ _ c.place_dir.result c.in_ok-path.ensures made.makes;
    }

pub returns-clause-drew : goal.returns-clause-drew
returns-clause-drew g c =
    let made = c.place_file.ensures.made in
    record {
      drawn = made.writing.drawn;
      were_drawn = made.takes.were_drawn;
      run = item_zeros c.args.vault.now c.args.work.now c.args.seed c.args.number c.in_ok-path.path (NewFile made.writing.content) _ made.writing.drawn _ _ c.place_file.result c.in_ok-path.ensures made.makes;
    }

pub returns-then-is_directory-clause-chance : goal.returns-then-is_directory-clause-chance
returns-then-is_directory-clause-chance g c =
    let made = c.place_dir.ensures.made in
    item_chance c.args.vault.now c.args.work.now c.args.seed c.args.number c.in_ok-path.path NewDirectory _ made.drawn _ _ c.place_dir.result c.in_ok-path.ensures made.makes
    c.what_stands_is_found_step_by_step.ensures.below c.what_is_found_stands.ensures.enters refl
    (IfErr-weaker c.place_dir.result _ _ directory_own c.place_dir.ensures.fault)

pub returns-clause-chance : goal.returns-clause-chance
returns-clause-chance g c =
    let made = c.place_file.ensures.made in
    let it = c.of-content.result in
    item_chance c.args.vault.now c.args.work.now c.args.seed c.args.number c.in_ok-path.path (NewFile made.writing.content) _ made.writing.drawn _ _ c.place_file.result c.in_ok-path.ensures made.makes
    c.what_stands_is_found_step_by_step.ensures.below c.what_is_found_stands.ensures.enters
    (sym (ap (λ x. x.ending) (made.takes.told (coming_of it.seed it.number it.given it.left) refl)))
    (if_err c.place_file.result _ (λ fault err. file_own _ fault (at_err c.place_file.result _ fault err c.place_file.ensures.fault) (λ same. no_rise (c.place_file.ensures.source.1 (err ∙ ap Err same)))))

pub returns-then-is_directory-clause-shared : goal.returns-then-is_directory-clause-shared
returns-then-is_directory-clause-shared g c =
    let made = c.place_dir.ensures.made in
    item_shares c.args.vault.now c.args.work.now c.args.seed c.args.number c.in_ok-path.path NewDirectory _ made.drawn _ _ c.place_dir.result c.in_ok-path.ensures made.makes
    c.what_stands_is_found_step_by_step.ensures.behind c.what_is_found_stands.ensures.enters c.files_have_their_contents.ensures (c.items_keep_vaults.ensures c.args.vault.now.vault).free c.requires.number
    (λ is. sym c.is_directory.ensures ∙ c.if-is_directory.true) _ _ made.were_drawn

pub returns-clause-shared : goal.returns-clause-shared
returns-clause-shared g c =
    let made = c.place_file.ensures.made in
    item_shares c.args.vault.now c.args.work.now c.args.seed c.args.number c.in_ok-path.path (NewFile made.writing.content) _ made.writing.drawn _ _ c.place_file.result c.in_ok-path.ensures made.makes
    c.what_stands_is_found_step_by_step.ensures.behind c.what_is_found_stands.ensures.enters c.files_have_their_contents.ensures (c.items_keep_vaults.ensures c.args.vault.now.vault).free c.requires.number
    (λ is. cc is) _ _ made.takes.were_drawn
