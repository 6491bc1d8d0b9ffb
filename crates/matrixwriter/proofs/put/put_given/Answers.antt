-- Each part has room behind the one before.
use Rattle.std.proofs.Common.{ℕ, ◌+◌, ◌*◌, ◌≤◌, refl, sym, ap, subst, arith, length as count, take, get_or}
use Rattle.matrix.specs.Meaning.{pairs, sum}
use Rattle.matrix.proofs.Counts.{deviations_most}
use Rattle.matrix.proofs.Decoding.{pack_length}
use Rattle.matrix.proofs.Header.{header_most}
use Rattle.matrix.proofs.Keeping.{vector_most}
use Rattle.counts.proofs.Counts.{pairs_counted, vector_counted}
use Rattle.matrixcheck.specs.Given.{meaning_given}
use Rattle.matrixwriter.proofs.Parts.{deviations_sendable, coefficients_sendable, coefficients_marked, coefficients_alike, parts_put}
use Rattle.matrixwriter.proofs.put.put_given.Goals as goal

pub overflow_add-first : goal.overflow_add-first
overflow_add-first c =
    let f = c.args.f in
    let lawful = c.requires.1.0 in
    let vector = vector_counted f c.vector_bytes-vector.result lawful.fields.first.size_most c.vector_bytes-vector.ensures in
    omega (arith, c.header_bytes-header.ensures, header_most f, vector, vector_most f lawful.fields)

pub overflow_add-second : goal.overflow_add-second
overflow_add-second c =
    let f = c.args.f in
    let lawful = c.requires.1.0 in
    let vector = vector_counted f c.vector_bytes-vector.result lawful.fields.first.size_most c.vector_bytes-vector.ensures in
    omega (arith, c.header_bytes-header.ensures, header_most f, vector, vector_most f lawful.fields, deviations_most f lawful.fields)

pub put_header-requires : goal.put_header-requires
put_header-requires c =
    let a = c.args in
    let lawful = c.requires.1.0 in
    (lawful.fields, omega (arith, c.requires.1.1, pack_length (meaning_given a.f a.deviations.now a.coefficients.now a.marks.now)))

pub put_vector-requires : goal.put_vector-requires
put_vector-requires c =
    let a = c.args in
    let lawful = c.requires.1.0 in
    let pairs_are = pairs_counted a.f.n c.pairs_of-pairs.result lawful.fields.first.size_most c.pairs_of-pairs.ensures in
    let vector = vector_counted a.f c.vector_bytes-vector.result lawful.fields.first.size_most c.vector_bytes-vector.ensures in (
      omega (arith, vector, vector_most a.f lawful.fields),
      (
        omega (arith, vector, c.header_bytes-header.ensures, c.requires.1.1, pack_length (meaning_given a.f a.deviations.now a.coefficients.now a.marks.now)),
        λ i. subst (λ (k : ℕ). get_or (take k a.marks.now) i 0 ≤ 1) (sym pairs_are) (lawful.values.mark_rule i),
      ),
    )

pub put_deviations-requires : goal.put_deviations-requires
put_deviations-requires c =
    let a = c.args in
    let lawful = c.requires.1.0 in
    let vector = vector_counted a.f c.vector_bytes-vector.result lawful.fields.first.size_most c.vector_bytes-vector.ensures in (
      deviations_sendable a.f a.deviations.now a.coefficients.now a.marks.now c.requires.0 lawful,
      omega (arith, vector, c.header_bytes-header.ensures, c.requires.1.1, pack_length (meaning_given a.f a.deviations.now a.coefficients.now a.marks.now)),
    )

pub put_coefficients-requires : goal.put_coefficients-requires
put_coefficients-requires c =
    let a = c.args in
    let lawful = c.requires.1.0 in
    let pairs_are = pairs_counted a.f.n c.pairs_of-pairs.result lawful.fields.first.size_most c.pairs_of-pairs.ensures in
    let vector = vector_counted a.f c.vector_bytes-vector.result lawful.fields.first.size_most c.vector_bytes-vector.ensures in
    let room : c.header_bytes-header.result + c.vector_bytes-vector.result + a.f.n * a.f.slen + sum (take (pairs a.f.n) a.marks.now) * a.f.clen ≤ count a.out.now =
    omega (arith, vector, c.header_bytes-header.ensures, c.requires.1.1, pack_length (meaning_given a.f a.deviations.now a.coefficients.now a.marks.now)) in
    let p = c.pairs_of-pairs.result in (
      coefficients_sendable a.f a.deviations.now a.coefficients.now a.marks.now c.requires.0 lawful p pairs_are,
      (
        coefficients_marked a.f a.deviations.now a.coefficients.now a.marks.now c.requires.0 lawful p pairs_are,
        (
          omega (arith, room, ap (λ (k : ℕ). sum (take k a.marks.now) * a.f.clen) pairs_are),
          coefficients_alike a.f a.deviations.now a.coefficients.now a.marks.now c.requires.0 lawful p pairs_are,
        ),
      ),
    )

pub returns : goal.returns
returns c =
    let a = c.args in
    let lawful = c.requires.1.0 in
    let pairs_are = pairs_counted a.f.n c.pairs_of-pairs.result lawful.fields.first.size_most c.pairs_of-pairs.ensures in
    let vector = vector_counted a.f c.vector_bytes-vector.result lawful.fields.first.size_most c.vector_bytes-vector.ensures in
    parts_put a.f a.deviations.now a.coefficients.now a.marks.now a.out.now c.put_header.new.out c.put_vector.new.out c.put_deviations.new.out c.put_coefficients.new.out
    c.pairs_of-pairs.result c.header_bytes-header.result c.vector_bytes-vector.result _ _ c.requires.1.1 pairs_are c.header_bytes-header.ensures vector refl refl c.put_header.ensures c.put_vector.ensures c.put_deviations.ensures c.put_coefficients.ensures
