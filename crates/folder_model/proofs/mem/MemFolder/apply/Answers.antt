-- A call that is allowed keeps the state sound.
use Rattle.std.proofs.Common.{subst}
use Rattle.folder_spec.specs.Event.{Allowed, MakeDir, Rename, RemoveFile, RemoveDir}
use Rattle.folder_spec.proofs.Sound.{changed_sound}
use Rattle.folder_model.specs.Calls.{call_of}
use Rattle.folder_model.specs.Memory.{state_of}
use Rattle.folder_model.specs.Sound.{state_sound}
use Rattle.folder_model.specs.Tables.{names_of}
use Rattle.folder_model.proofs.mem.MemFolder.apply.Goals as goal

pub push_step-requires : goal.push_step-requires
push_step-requires c =
    let self = c.args.self.now in
    rw c.in_ok-copy-in-MakeDir.ensures
    (changed_sound (state_of self) (MakeDir _) (state_sound self.nodes.items (names_of self.base) self.steps.items self.kept self.fronts self.sound)
    (subst (λ call. Allowed (state_of self) (call_of call)) c.in-MakeDir.is c.requires))

pub push_step-requires-in-Rename : goal.push_step-requires-in-Rename
push_step-requires-in-Rename c =
    let self = c.args.self.now in
    rw (c.in_ok-copy-in-Rename.ensures, c.in_ok-copy-in-Rename-2.ensures)
    (changed_sound (state_of self) (Rename _ _) (state_sound self.nodes.items (names_of self.base) self.steps.items self.kept self.fronts self.sound)
    (subst (λ call. Allowed (state_of self) (call_of call)) c.in-Rename.is c.requires))

pub push_step-requires-in-RemoveFile : goal.push_step-requires-in-RemoveFile
push_step-requires-in-RemoveFile c =
    let self = c.args.self.now in
    rw c.in_ok-copy-in-RemoveFile.ensures
    (changed_sound (state_of self) (RemoveFile _) (state_sound self.nodes.items (names_of self.base) self.steps.items self.kept self.fronts self.sound)
    (subst (λ call. Allowed (state_of self) (call_of call)) c.in-RemoveFile.is c.requires))

pub push_step-requires-in-RemoveDir : goal.push_step-requires-in-RemoveDir
push_step-requires-in-RemoveDir c =
    let self = c.args.self.now in
    rw c.in_ok-copy-in-RemoveDir.ensures
    (changed_sound (state_of self) (RemoveDir _) (state_sound self.nodes.items (names_of self.base) self.steps.items self.kept self.fronts self.sound)
    (subst (λ call. Allowed (state_of self) (call_of call)) c.in-RemoveDir.is c.requires))
