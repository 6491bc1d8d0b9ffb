-- With room the number is written, and nothing else is said.
use Rattle.std.proofs.Common.{length, arith}
use Rattle.number.specs.Octets.{octets}
use Rattle.verdict.specs.Answers.{written}
use Rattle.verdict.proofs.Deciding.{room_put}
use Rattle.arraywriter.proofs.Parts.{complete_ok, complete_count}
use Rattle.arraywriter.proofs.put.put_number.Goals as goal

pub unwrap-requires : goal.unwrap-requires
unwrap-requires c =
    let a = c.args in
    let w = c.write_at in
    let wrote = room_put (octets a.value) a.out.now a.place _ (written w.result) w.new.out (omega arith) w.ensures in
    rw (complete_ok w.result (length (octets a.value)) wrote.0)

pub overflow_add-result : goal.overflow_add-result
overflow_add-result c =
    let a = c.args in
    let w = c.write_at in
    let wrote = room_put (octets a.value) a.out.now a.place _ (written w.result) w.new.out (omega arith) w.ensures in
    omega (arith, complete_count w.result (length (octets a.value)) wrote.0 c.unwrap.result c.unwrap.ensures)

pub returns-clause-value : goal.returns-clause-value
returns-clause-value c =
    let a = c.args in
    let w = c.write_at in
    let wrote = room_put (octets a.value) a.out.now a.place _ (written w.result) w.new.out (omega arith) w.ensures in
    omega (arith, complete_count w.result (length (octets a.value)) wrote.0 c.unwrap.result c.unwrap.ensures)
