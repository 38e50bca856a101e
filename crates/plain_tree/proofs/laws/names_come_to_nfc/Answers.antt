use Rattle.plain_tree.proofs.Mapping.{nfc_from_text, text_from_nfc, nfc_stays, nfc_of_bytes}
use Rattle.plain_tree.proofs.laws.names_come_to_nfc.Goals as goal

pub returns : goal.returns
returns c = record { comes = λ name. (text_from_nfc name, nfc_from_text name); nfc = nfc_stays; other = nfc_of_bytes }
