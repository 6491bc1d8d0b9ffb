-- By the first byte against its limit's.
use Rattle.std.proofs.Common.{get_or, arith}
use lib.Bits.{bit_and}
use Rattle.matrixwalk.proofs.Ruling.{sound_of}
use Rattle.matrixwalk.proofs.Passing.{first_over, first_below, masked}
use Rattle.matrixwalk.proofs.words.judge_word.Goals as goal

pub returns-then-first-b : goal.returns-then-first-b
returns-then-first-b c =
    let a = c.args in
    let counts = masked a.ruled.rule (sound_of a.ruled) c.requires.0.some (get_or a.bytes.now a.at 0) c.byte_at.result a.mask c.byte_at.ensures.0 c.byte_at.ensures.1 c.requires.1 in
    first_over a.bytes.now a.at a.until a.ruled.rule c.requires.0 (bit_and c.byte_at.result a.mask) counts (omega arith)

pub returns-then-b-first : goal.returns-then-b-first
returns-then-b-first c =
    let a = c.args in
    let counts = masked a.ruled.rule (sound_of a.ruled) c.requires.0.some (get_or a.bytes.now a.at 0) c.byte_at.result a.mask c.byte_at.ensures.0 c.byte_at.ensures.1 c.requires.1 in
    first_below a.bytes.now a.at a.until a.ruled.rule c.requires.0 (bit_and c.byte_at.result a.mask) counts (λ i. (c.type_inv.bytes i).fits) (omega arith)
