-- The calls of a folder in memory, as the definitions have them.
use Rattle.folder_spec.specs.Event as spec
use Rattle.folder_model.specs.declared.mem.call.Call.{Call}
use Rattle.folder_model.specs.declared.mem.call.Call.TheVariants.{MakeDir, Create, Append, Sync, Settle, Rename, RemoveFile, RemoveDir}
use Rattle.folder_model.specs.declared.mem.call.Outcome.{Outcome}
use Rattle.folder_model.specs.declared.mem.call.Outcome.TheVariants.{Done, Failed, Refused}
use Rattle.folder_model.specs.declared.mem.call.Logged.{Logged}

abbrev pub call_of : Call → spec.Call
call_of (MakeDir at) = spec.MakeDir at
call_of (Create at) = spec.Create at
call_of (Append at piece) = spec.Append at piece.items
call_of (Sync at) = spec.Sync at
call_of Settle = spec.Settle
call_of (Rename old new) = spec.Rename old new
call_of (RemoveFile at) = spec.RemoveFile at
call_of (RemoveDir at) = spec.RemoveDir at

abbrev pub outcome_of : Outcome → spec.Outcome
outcome_of Done = spec.Done
outcome_of (Failed added) = spec.Fell added
outcome_of Refused = spec.Denied

abbrev pub event_of : Logged → spec.Event
event_of logged = record { call = call_of logged.call; outcome = outcome_of logged.outcome }
