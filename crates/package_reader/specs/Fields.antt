-- What the fields of a reader stand for.
use Rattle.std.specs.Prelude.{◌+◌, ◌-◌, ◌*◌, ◌<◌, ◌≤◌, ◌^◌, drop, take, length, vec_len}
use Rattle.std.specs.Prelude.{vec_capacity}
use Rattle.package_reader.specs.ReaderState.{ReaderState}
use Rattle.package_reader.specs.declared.elements.Elements.TheInside.{Inside}

abbrev pub reader_state_of : Inside → ReaderState
reader_state_of fields = record {
  place = fields.read;
  unread = drop fields.read fields.bytes.items;
  value = fields.value;
  ends = fields.ends.items;
  shown = take (fields.read - fields.shown) (drop fields.shown fields.bytes.items);
}

-- the parts lie in the bytes, and there is room for an end for every two bytes that aren't read
pub record AreFields (fields : Inside) : Type 0 where
  pub shown : fields.shown ≤ fields.read
  pub read : fields.read ≤ length fields.bytes.items
  pub bytes : length fields.bytes.items < 2 ^ 32
  pub room : 2 * vec_len fields.ends + length fields.bytes.items
      ≤ 2 * vec_capacity fields.ends + fields.read + 1
