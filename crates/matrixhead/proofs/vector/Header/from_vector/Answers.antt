-- The vector's ones are those of the bytes that there are; where all are there its last byte is judged.
use Rattle.std.proofs.Common.{ℕ, ◌+◌, ◌-◌, ◌*◌, ◌∙◌, ◌≡◌, sym, ap, length, take, drop, arith}
use Rattle.matrix.specs.Meaning.{sum}
use Rattle.matrix.specs.Header.{bits}
use Rattle.verdict.specs.declared.Verdict.TheVariants.{Unfinished}
use Rattle.counts.proofs.Counts.{vector_counted}
use Rattle.matrix.proofs.Counts.{deviations_most}
use Rattle.matrix.specs.Table.{vector_rows}
use Rattle.matrix.proofs.Header.{header_least}
use Rattle.matrixhead.proofs.Judging.{at_kept, at_broken}
use Rattle.matrixhead.proofs.Sending.{count_most, fewest_few, vector_cut, vector_broken, vector_sent}
use Rattle.matrixhead.proofs.vector.Header.from_vector.Goals as goal

pub overflow_mul-result-then-there-count : goal.overflow_mul-result-then-there-count
overflow_mul-result-then-there-count c =
    let a = c.args.self in
    let count = c.vector_bytes-count.result in
    let counted = vector_counted a.fields count a.lawful.first.size_most c.vector_bytes-count.ensures in
    let few = fewest_few a.fields a.lawful c.requires count counted (length a.bytes.now - c.header_bytes-start.result) c.ones-sent.result c.fewest_of.result (drop c.header_bytes-start.result a.bytes.now) (omega arith) c.ones-sent.ensures c.fewest_of.ensures in
    record { fits = omega (arith, few) }

pub overflow_add-result : goal.overflow_add-result
overflow_add-result c =
    let a = c.args.self in
    let count = c.vector_bytes-count.result in
    let counted = vector_counted a.fields count a.lawful.first.size_most c.vector_bytes-count.ensures in
    let few = fewest_few a.fields a.lawful c.requires count counted (length a.bytes.now - c.header_bytes-start.result) c.ones-sent.result c.fewest_of.result (drop c.header_bytes-start.result a.bytes.now) (omega arith) c.ones-sent.ensures c.fewest_of.ensures in
    record { fits = omega (arith, few, deviations_most a.fields a.lawful) }

pub overflow_add-result-then-there-count : goal.overflow_add-result-then-there-count
overflow_add-result-then-there-count c =
    let a = c.args.self in
    let count = c.vector_bytes-count.result in
    let counted = vector_counted a.fields count a.lawful.first.size_most c.vector_bytes-count.ensures in
    let few = fewest_few a.fields a.lawful c.requires count counted (length a.bytes.now - c.header_bytes-start.result) c.ones-sent.result c.fewest_of.result (drop c.header_bytes-start.result a.bytes.now) (omega arith) c.ones-sent.ensures c.fewest_of.ensures in
    record { fits = omega (arith, few, deviations_most a.fields a.lawful, count_most a.fields a.lawful c.requires count counted) }

pub returns-then-there-count : goal.returns-then-there-count
returns-then-there-count c =
    let a = c.args.self in
    let start = c.header_bytes-start.result in
    let count = c.vector_bytes-count.result in
    let starts = c.header_bytes-start.ensures in
    let counted = vector_counted a.fields count a.lawful.first.size_most c.vector_bytes-count.ensures in
    let f = a.fields in
    let there = length a.bytes.now - start in (
      vector_cut f a.lawful c.requires count counted a.bytes.now start starts there c.ones-sent.result (omega arith) c.if-there-count.true c.ones-sent.ensures
          ∙ ap (λ (k : ℕ). Unfinished (count - there + (f.n * f.slen + k * f.clen))) (sym c.fewest_of.ensures),
      omega (arith, c.if-there-count.true, counted, starts),
    )

pub returns : goal.returns
returns c =
    let a = c.args.self in
    let start = c.header_bytes-start.result in
    let count = c.vector_bytes-count.result in
    let starts = c.header_bytes-start.ensures in
    let counted = vector_counted a.fields count a.lawful.first.size_most c.vector_bytes-count.ensures in
    let last = start + count - 1 in
    let n : start + count - start ≡ count = omega arith in
    let counts : c.ones-sent-2.result ≡ sum (bits (take count (drop start a.bytes.now))) = c.ones-sent-2.ensures ∙ ap (λ (k : ℕ). sum (bits (take k (drop start a.bytes.now)))) n in
    let kept = at_kept (vector_rows a.fields c.ones-sent-2.result c.byte_at.result) c.judge_vector.result last c.judge_vector.ensures c.in_ok-judged_at.field-0 c.in_ok-judged_at.ensures in
    vector_sent a.fields a.lawful c.requires count counted a.bytes.now start starts c.ones-sent-2.result last c.byte_at.result (omega (arith, header_least a.fields, starts)) (omega (arith, header_least a.fields, starts)) c.byte_at.ensures.0 counts
    kept

pub returns-in_err-judged_at : goal.returns-in_err-judged_at
returns-in_err-judged_at c =
    let a = c.args.self in
    let start = c.header_bytes-start.result in
    let count = c.vector_bytes-count.result in
    let starts = c.header_bytes-start.ensures in
    let counted = vector_counted a.fields count a.lawful.first.size_most c.vector_bytes-count.ensures in
    let last = start + count - 1 in
    let n : start + count - start ≡ count = omega arith in
    let counts : c.ones-sent-2.result ≡ sum (bits (take count (drop start a.bytes.now))) = c.ones-sent-2.ensures ∙ ap (λ (k : ℕ). sum (bits (take k (drop start a.bytes.now)))) n in
    let broken = at_broken (vector_rows a.fields c.ones-sent-2.result c.byte_at.result) c.judge_vector.result last c.judge_vector.ensures c.from_residual.result c.in_err-judged_at.field-0.0 c.in_err-judged_at.ensures c.from_residual.ensures.1 in
    rw broken.2 (
      vector_broken a.fields a.lawful c.requires count counted a.bytes.now start starts c.ones-sent-2.result last c.byte_at.result (omega (arith, header_least a.fields, starts)) (omega (arith, header_least a.fields, starts)) c.byte_at.ensures.0 counts broken.0 broken.1,
      omega (arith, counted, starts, header_least a.fields),
    )
