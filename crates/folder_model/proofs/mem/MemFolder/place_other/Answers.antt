use Rattle.std.proofs.Common.{sym, subst}
use Rattle.folder_spec.specs.declared.Spot.TheVariants.{Odd}
use Rattle.folder_spec.specs.State.{present, put, IsSound}
use Rattle.folder_spec.specs.Event.{with_table}
use Rattle.folder_model.specs.Memory.{state_of}
use Rattle.folder_model.specs.Sound.{state_sound}
use Rattle.folder_model.specs.Tables.{names_of}
use Rattle.folder_model.proofs.Others.{other_sound}
use Rattle.folder_model.proofs.mem.MemFolder.place_other.Goals as goal

pub push_step-requires : goal.push_step-requires
push_step-requires c =
    let self = c.args.self.now in
    subst (λ p. IsSound (with_table (state_of self) (put (present (state_of self)) p Odd))) (sym c.in_ok-copy.ensures)
    (other_sound (state_of self) c.args.at.now (state_sound self.nodes.items (names_of self.base) self.steps.items self.kept self.fronts self.sound) c.requires.1)
