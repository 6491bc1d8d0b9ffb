-- The header has three bytes at most, the bit vector 252, and the values few.
use Rattle.std.proofs.Common.{arith}
use Rattle.matrix.proofs.Counts.{deviations_most, coefficients_most}
use Rattle.matrix.proofs.Keeping.{vector_most}
use Rattle.matrix.proofs.Header.{header_most}
use Rattle.counts.proofs.Counts.{vector_counted}
use Rattle.matrixwriter.proofs.put.length_of.Goals as goal

pub overflow_add-result-3 : goal.overflow_add-result-3
overflow_add-result-3 c =
    let f = c.args.f in
    let vector = vector_counted f c.vector_bytes.result c.requires.0.first.size_most c.vector_bytes.ensures in
    omega (
      arith,
      c.header_bytes.ensures,
      header_most f,
      vector,
      vector_most f c.requires.0,
      deviations_most f c.requires.0,
      coefficients_most f c.args.sent c.requires.0.first c.requires.1,
    )
