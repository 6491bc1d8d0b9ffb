-- Where there is room the octets are put, else the bytes are left.
use Rattle.std.proofs.Common.{◌-◌, ◌≤◌, ◌<◌, length, arith}
use Rattle.number.specs.Octets.{octets}
use Rattle.number.proofs.Octets.{octets_some}
use Rattle.verdict.proofs.Deciding.{room_missing, room_enough}
use Rattle.numberwriter.proofs.write.write_at.Goals as goal

pub returns-then-from_place-count : goal.returns-then-from_place-count
returns-then-from_place-count c =
    let a = c.args in
    let missing : length a.out.now - a.place < length (octets a.value) = omega arith in
    rw c.at.ensures (room_missing (octets a.value) a.out.now a.place (length a.out.now - a.place) missing)

pub put_at-requires : goal.put_at-requires
put_at-requires c = omega (arith, octets_some c.args.value)

pub returns : goal.returns
returns c =
    let a = c.args in
    let enough : length (octets a.value) ≤ length a.out.now - a.place = omega arith in
    room_enough (octets a.value) a.out.now a.place (length a.out.now - a.place) c.count_of-count.result c.put_at.new.out enough c.count_of-count.ensures c.put_at.ensures
