use Rattle.std.specs.Prelude.{ℕ, ◌-◌, true, false, List, [], ◌∷◌, ◌++◌, length, replicate, Some}
use Rattle.std.specs.Prelude.{None}
use Rattle.file_rows.specs.Path.{master}
use Rattle.file_rows.specs.declared.content.Content.{Content}
use Rattle.file_rows.specs.declared.head.FileHead.{FileHead}
use Rattle.file_rows.specs.declared.head.Kind.{Kind}
use Rattle.file_rows.specs.declared.head.Kind.TheVariants.{Master, Linear, Transparent}
use Rattle.file_rows.specs.declared.head.Life.TheVariants.{Active}
use Rattle.file_rows.specs.declared.pin.PinRow.{PinRow}
use Rattle.file_rows.specs.declared.row.FileRow.{FileRow}
use Rattle.port_table.specs.declared.port_mode.PortMode.TheVariants.{A1}
use Rattle.uicc_channels.specs.Session.{fresh_session}
use Rattle.profile_card.specs.Card.{Card}

-- an active file with a rule of the EF ARR 2F06
abbrev pub sample_head : List ℕ → Kind → ℕ → ℕ → ℕ → ℕ → FileHead
sample_head path kind sfi rule record_len size =
    record {
      path = path;
      kind = kind;
      life = Active;
      sfi = sfi;
      name = [];
      rule = Some (record { file = 0x2F06; row = rule });
      record_len = record_len;
      size = size;
    }

-- a file whose body begins so and goes on with FF
unfoldable pub sample_file : FileHead → List ℕ → FileRow
sample_file head prefix =
    record { head = head; body = prefix ++ replicate (head.size - length prefix) 0xFF }

-- the ICCID
abbrev pub iccid : List ℕ
iccid = 0x98 ∷ 0x94 ∷ 0 ∷ 0 ∷ 0 ∷ 0 ∷ 0 ∷ 0 ∷ 0 ∷ 0xF1 ∷ []

-- the access rules' records: read always, and update with key 0A; read and update always; read and
-- update with key 01
abbrev pub read_always : List ℕ
read_always =
    0x80 ∷ 1 ∷ 1 ∷ 0x90 ∷ 0 ∷ 0x80 ∷ 1 ∷ 2 ∷ 0xA4 ∷ 6 ∷ 0x83 ∷ 1 ∷ 0x0A ∷ 0x95 ∷ 1 ∷ 8 ∷ []

abbrev pub use_always : List ℕ
use_always = 0x80 ∷ 1 ∷ 3 ∷ 0x90 ∷ 0 ∷ []

abbrev pub use_with_pin : List ℕ
use_with_pin = 0x80 ∷ 1 ∷ 3 ∷ 0xA4 ∷ 6 ∷ 0x83 ∷ 1 ∷ 1 ∷ 0x95 ∷ 1 ∷ 8 ∷ []

abbrev pub rules : List ℕ
rules = read_always ++ replicate 26 0xFF ++ use_always ++ replicate 37 0xFF ++ use_with_pin

-- an enabled PIN at home in the MF, with three tries of three and no PUK
abbrev pub sample_pin : ℕ → ℕ → List ℕ → PinRow
sample_pin number key value =
    record {
      number = number;
      home = master;
      key = key;
      value = value;
      max = 3;
      left = 3;
      enabled = true;
      puk = None;
    }

-- the content of the sample card
abbrev pub sample : Content
sample =
    record {
      rows =
          sample_file (sample_head master Master 0 1 0 0) []
          ∷ sample_file (sample_head (0x2F05 ∷ []) Transparent 0x05 2 0 2) []
          ∷ sample_file (sample_head (0x2FE2 ∷ []) Transparent 0x02 1 0 10) iccid
          ∷ sample_file (sample_head (0x2F00 ∷ []) Linear 0x1E 1 38 152) []
          ∷ sample_file (sample_head (0x2F06 ∷ []) Linear 0x06 1 42 420) rules
          ∷ sample_file (sample_head (0x2F08 ∷ []) Transparent 0x08 3 0 5) []
          ∷ [];
      pins =
          sample_pin 1 0x01 (0x31 ∷ 0x32 ∷ 0x33 ∷ 0x34 ∷ 0xFF ∷ 0xFF ∷ 0xFF ∷ 0xFF ∷ [])
          ∷ sample_pin 2 0x0A (0x38 ∷ 0x38 ∷ 0x38 ∷ 0x38 ∷ 0x38 ∷ 0x38 ∷ 0x38 ∷ 0x38 ∷ [])
          ∷ [];
    }

-- the sample card as it starts: on port 1 of a card in MEP-A1, with a fresh session
abbrev pub sample_card : Card
sample_card =
    record { content = sample; session = fresh_session false None; mode = A1; port = Some 1 }
