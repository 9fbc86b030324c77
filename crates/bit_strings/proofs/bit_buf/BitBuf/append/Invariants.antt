use Rattle.std.proofs.Common.{◌≡◌, ◌+◌, ◌*◌, ◌^◌, ◌<◌, ◌≤◌, vec_len, vec_capacity}
use Rattle.bit_strings.specs.BitText.{filled}
use Rattle.bit_strings.proofs.bit_buf.BitBuf.append.Given as goal

abbrev pub invariant-loop-used : goal.invariant-loop-used
invariant-loop-used l = record {
  same : filled l.self-inside.bytes.items l.used l.rest ≡ filled l.initial.self-inside.bytes.items l.initial.used l.initial.rest;
  fits : l.rest < 2 ^ l.used;
  few : l.used < 40;
  room : 8 * vec_len l.self-inside.bytes + l.used ≤ l.self-inside.room;
  same_room : l.self-inside.room ≡ l.initial.self-inside.room;
  same_made : l.self-inside.made ≡ l.initial.self-inside.made;
  within : l.self-inside.room ≤ l.self-inside.made;
  capacity : l.self-inside.made ≤ 8 * vec_capacity l.self-inside.bytes;
  small : l.self-inside.made < 2 ^ 36;
}

abbrev pub decreases-loop-used : goal.decreases-loop-used
decreases-loop-used l = l.used
