use Rattle.chunk_files.proofs.KeptBehind.{left-alone}
use Rattle.chunk_files.proofs.decoder.Decoder.next.Goals as goal

pub returns-in-Some-clause-buffer : goal.returns-in-Some-clause-buffer
returns-in-Some-clause-buffer c = left-alone c.step_header.new.self c.in-Some.step c.args.out.now
