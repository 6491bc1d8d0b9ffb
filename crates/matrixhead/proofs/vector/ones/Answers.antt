-- The words and what stands behind them.
use Rattle.std.proofs.Common.{◌≡◌, ◌+◌, ◌/◌, length, arith}
use Rattle.matrix.specs.Meaning.{sum}
use Rattle.matrix.specs.Header.{bits}
use Rattle.matrixhead.proofs.Ones.{bits_most, chunks_ones}
use Rattle.matrixhead.proofs.vector.ones.Goals as goal

pub overflow_add-result : goal.overflow_add-result
overflow_add-result c =
    let bytes = c.args.bytes.now in
    let e : c.ones_of_words.result + c.ones_of_bytes.result ≡ sum (bits bytes) = rw (c.ones_of_words.ensures, c.ones_of_bytes.ensures, c.as_chunks.ensures.front, c.as_chunks.ensures.back) (chunks_ones (length bytes / 8) bytes) in
    record { fits = omega (arith, e, bits_most bytes) }

pub returns : goal.returns
returns c =
    rw (c.ones_of_words.ensures, c.ones_of_bytes.ensures, c.as_chunks.ensures.front, c.as_chunks.ensures.back) (chunks_ones (length c.args.bytes.now / 8) c.args.bytes.now)
