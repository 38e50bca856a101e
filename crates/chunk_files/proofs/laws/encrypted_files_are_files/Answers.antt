use Rattle.chunk_files.proofs.Encrypting.{encrypted_files_are_files}
use Rattle.chunk_files.proofs.laws.encrypted_files_are_files.Goals as goal

pub returns : goal.returns
returns c = encrypted_files_are_files
