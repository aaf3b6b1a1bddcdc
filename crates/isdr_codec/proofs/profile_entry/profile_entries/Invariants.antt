use Rattle.std.proofs.Common.{◌≡◌, ◌≤◌, ◌*◌, take, vec_len}
use Rattle.std.specs.List.{flat_map}
use Rattle.isdr_codec.specs.ProfileEntry.{profile_entry}
use Rattle.isdr_codec.proofs.profile_entry.profile_entries.Given as goal

abbrev pub invariant-loop-number : goal.invariant-loop-number
invariant-loop-number l = record {
  bytes : l.out.items ≡ flat_map (profile_entry l.heads l.fields) (take l.number-index l.numbers);
  few : vec_len l.out ≤ 512 * l.number-index;
}
