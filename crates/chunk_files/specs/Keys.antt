-- The keys of a vault's contents, and the layout of its content files.
use Rattle.std.specs.Prelude.{ℕ, List, []}
use Rattle.chunk_files.specs.declared.keys.Layout.{Layout}
use Rattle.chunk_files.specs.declared.keys.Layout.TheVariants.{Go, CmGcm, CmCtr}
use Rattle.chunk_files.specs.Format.{Format, Header}
use Rattle.chunk_files.specs.Gocryptfs.{go_format, IsGoHeader}
use Rattle.chunk_files.specs.CryptomatorGcm.{cm_gcm_format, IsCmHeader}
use Rattle.chunk_files.specs.CryptomatorCtr.{cm_ctr_format, IsCtrHeader}

pub record Keys : Type 0 where
  pub layout : Layout
  pub key : List ℕ
  -- the key of tags, where the layout has one
  pub mac : List ℕ

-- the keys of a gocryptfs vault, whose content key has 32 bytes
abbrev pub go_keys : List ℕ → Keys
go_keys content = record { layout = Go; key = content; mac = [] }

-- the keys of a Cryptomator vault with SIV_GCM, whose encryption key has 32 bytes
abbrev pub cm_gcm_keys : List ℕ → Keys
cm_gcm_keys encryption = record { layout = CmGcm; key = encryption; mac = [] }

-- the keys of a Cryptomator vault with SIV_CTRMAC, whose encryption key and MAC key have 32 bytes each
abbrev pub cm_ctr_keys : List ℕ → List ℕ → Keys
cm_ctr_keys encryption mac = record { layout = CmCtr; key = encryption; mac = mac }

-- the key of tags that a layout has
abbrev pub mac_by : Layout → List ℕ → List ℕ
mac_by Go mac = []
mac_by CmGcm mac = []
mac_by CmCtr mac = mac

-- the layout under a key and a key of tags
abbrev pub format_by : Layout → List ℕ → List ℕ → Format
format_by Go key mac = go_format key
format_by CmGcm key mac = cm_gcm_format key
format_by CmCtr key mac = cm_ctr_format key mac

abbrev pub format_of : Keys → Format
format_of keys = format_by keys.layout keys.key keys.mac

-- these bytes are a header, and tell this
abbrev pub IsHeaderBy : Layout → List ℕ → List ℕ → Header → List ℕ → Type 0
IsHeaderBy Go key mac header bytes = IsGoHeader key header bytes
IsHeaderBy CmGcm key mac header bytes = IsCmHeader key header bytes
IsHeaderBy CmCtr key mac header bytes = IsCtrHeader key mac header bytes

abbrev pub IsHeaderOf : Keys → Header → List ℕ → Type 0
IsHeaderOf keys header bytes = IsHeaderBy keys.layout keys.key keys.mac header bytes

-- the plain bytes of a full chunk
abbrev pub full_size : Layout → ℕ
full_size Go = 4096
full_size CmGcm = 32768
full_size CmCtr = 32768
