use Rattle.sha2.proofs.Facts256.{length-sha256}
use Rattle.kdf_suite.proofs.Digests.{bytes-sha256, bytes-hmac_sha256, length-hmac_sha256}
use Rattle.kdf_suite.proofs.laws.digests_are_bytes.Goals as goal

pub returns : goal.returns
returns c = record { size = length-sha256; bytes = bytes-sha256; tag_size = length-hmac_sha256; tag_bytes = bytes-hmac_sha256 }
