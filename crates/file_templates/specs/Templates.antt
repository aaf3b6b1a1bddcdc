-- The file templates of a profile package: 1 is the MF, 3 telecom, 4 the USIM, 5 the USIM's
-- optional files, 8 the ISIM.
use Rattle.std.specs.Prelude.{ℕ, Bool, ◌==◌, ◌&&◌, ◌*◌, List, [], ◌∷◌, Option, find, count_by}
use Rattle.std.specs.Option.{option_map}
use Rattle.file_rows.specs.declared.head.Kind.{Kind}
use Rattle.file_rows.specs.declared.head.Kind.TheVariants.{Master, Directory, Application}
use Rattle.file_rows.specs.declared.head.Kind.TheVariants.{Transparent, Linear, Cyclic}
use Rattle.file_templates.specs.declared.template_row.Row.{Row}

-- a row, and the template that it belongs to
pub record TemplateRow : Type 0 where
  pub template : ℕ
  pub row : Row

-- the MF, a directory or an application: template, position, identifier, kind and rule
abbrev pub directory_row : ℕ → ℕ → ℕ → Kind → ℕ → TemplateRow
directory_row template position id kind rule = record {
  template = template;
  row = record {
    position = position;
    id = id;
    kind = kind;
    record_len = 0;
    size = 0;
    sfi = 0;
    rule = rule;
  };
}

-- a transparent file: template, position, identifier, size, SFI (0 is none) and rule
abbrev pub bytes_row : ℕ → ℕ → ℕ → ℕ → ℕ → ℕ → TemplateRow
bytes_row template position id size sfi rule = record {
  template = template;
  row = record {
    position = position;
    id = id;
    kind = Transparent;
    record_len = 0;
    size = size;
    sfi = sfi;
    rule = rule;
  };
}

-- a file of records: template, position, identifier, kind, record length, records, SFI and rule
abbrev pub records_row : ℕ → ℕ → ℕ → Kind → ℕ → ℕ → ℕ → ℕ → TemplateRow
records_row template position id kind record_len count sfi rule = record {
  template = template;
  row = record {
    position = position;
    id = id;
    kind = kind;
    record_len = record_len;
    size = record_len * count;
    sfi = sfi;
    rule = rule;
  };
}

-- the files of all templates
unfoldable pub template_rows : List TemplateRow
template_rows =
    directory_row 1 2 0x3F00 Master 1
    ∷ bytes_row 1 3 0x2F05 2 0x05 2
    ∷ bytes_row 1 4 0x2FE2 10 0x02 1
    ∷ records_row 1 5 0x2F00 Linear 38 4 0x1E 1
    ∷ records_row 1 6 0x2F06 Linear 42 10 0x06 1
    ∷ bytes_row 1 7 0x2F08 5 0x08 3
    ∷ directory_row 3 2 0x7F10 Directory 1
    ∷ records_row 3 3 0x6F06 Linear 42 10 0 1
    ∷ records_row 3 4 0x6F3A Linear 28 50 0 3
    ∷ records_row 3 5 0x6F3B Linear 28 10 0 3
    ∷ records_row 3 6 0x6F3C Linear 176 20 0 3
    ∷ records_row 3 7 0x6F40 Linear 28 2 0 3
    ∷ records_row 3 8 0x6F42 Linear 40 2 0 3
    ∷ bytes_row 3 9 0x6F43 2 0 3
    ∷ records_row 3 10 0x6F44 Cyclic 28 10 0 3
    ∷ records_row 3 11 0x6F49 Linear 28 10 0 3
    ∷ records_row 3 12 0x6F4A Linear 13 5 0 3
    ∷ records_row 3 13 0x6F4B Linear 13 5 0 3
    ∷ records_row 3 14 0x6F4C Linear 13 5 0 3
    ∷ directory_row 4 2 0x7FD0 Application 1
    ∷ bytes_row 4 3 0x6F07 9 0x07 3
    ∷ records_row 4 4 0x6F06 Linear 42 10 0x17 1
    ∷ bytes_row 4 5 0x6F08 33 0x08 3
    ∷ bytes_row 4 6 0x6F09 33 0x09 3
    ∷ bytes_row 4 7 0x6F31 1 0x12 3
    ∷ bytes_row 4 8 0x6F38 17 0x04 3
    ∷ bytes_row 4 9 0x6F7B 12 0x0D 3
    ∷ bytes_row 4 10 0x6F7E 11 0x0B 3
    ∷ bytes_row 4 11 0x6F73 14 0x0C 3
    ∷ bytes_row 4 12 0x6FAD 4 0x03 1
    ∷ bytes_row 4 13 0x6F78 2 0x06 3
    ∷ records_row 4 14 0x6FB7 Linear 20 5 0x01 1
    ∷ bytes_row 4 15 0x6F5B 6 0x0F 3
    ∷ bytes_row 4 16 0x6F5C 3 0x10 3
    ∷ bytes_row 4 17 0x6FC4 46 0 3
    ∷ records_row 4 18 0x6F3C Linear 176 10 0 3
    ∷ records_row 4 19 0x6F42 Linear 40 2 0 3
    ∷ bytes_row 4 20 0x6F43 2 0 3
    ∷ bytes_row 4 21 0x6F46 17 0 1
    ∷ bytes_row 4 22 0x6F56 1 0x05 3
    ∷ bytes_row 5 2 0x6F05 10 0x02 1
    ∷ bytes_row 5 3 0x6F37 3 0 3
    ∷ records_row 5 4 0x6F39 Cyclic 3 5 0 3
    ∷ bytes_row 5 5 0x6F3E 4 0 3
    ∷ bytes_row 5 6 0x6F3F 4 0 3
    ∷ records_row 5 7 0x6F40 Linear 28 2 0 3
    ∷ bytes_row 5 8 0x6F41 5 0 3
    ∷ bytes_row 5 9 0x6F45 20 0 3
    ∷ bytes_row 5 10 0x6F48 20 0x0E 3
    ∷ bytes_row 5 11 0x6F60 40 0x0A 3
    ∷ bytes_row 5 12 0x6F61 40 0x11 3
    ∷ bytes_row 5 13 0x6F62 10 0x13 3
    ∷ records_row 5 14 0x6F3B Linear 28 10 0 3
    ∷ records_row 5 15 0x6F49 Linear 28 10 0 3
    ∷ records_row 5 16 0x6FC5 Linear 20 10 0x19 1
    ∷ records_row 5 17 0x6FC6 Linear 8 10 0x1A 1
    ∷ records_row 5 18 0x6FC7 Linear 28 4 0 3
    ∷ bytes_row 5 19 0x6FCD 30 0 3
    ∷ directory_row 8 2 0x7FD1 Application 1
    ∷ bytes_row 8 3 0x6F02 64 0x02 3
    ∷ records_row 8 4 0x6F04 Linear 64 4 0x04 3
    ∷ bytes_row 8 5 0x6F03 64 0x05 3
    ∷ bytes_row 8 6 0x6F07 8 0x07 3
    ∷ bytes_row 8 7 0x6FAD 4 0x03 1
    ∷ records_row 8 8 0x6F06 Linear 42 10 0x06 1
    ∷ records_row 8 9 0x6F09 Linear 32 2 0 3
    ∷ []

-- whether a row is that of a template's position
abbrev pub is_row_at : ℕ → ℕ → TemplateRow → Bool
is_row_at template position row = (row.template == template) && (row.row.position == position)

-- the file that a template has at a position
abbrev pub row_at : ℕ → ℕ → Option Row
row_at template position = option_map (λ row. row.row)
    (find (is_row_at template position) template_rows)

-- how many files a template has
abbrev pub row_count : ℕ → ℕ
row_count template = count_by (λ row. row.template == template) template_rows
