-- It shifts by whole bytes.
use Rattle.word.proofs.Digits.{bytes_bits}
use Rattle.matrixwalk.proofs.words.limit_at.Goals as goal

pub returns : goal.returns
returns c = rw bytes_bits
