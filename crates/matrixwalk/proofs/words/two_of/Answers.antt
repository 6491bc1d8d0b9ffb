-- What is shifted down fits in two bytes.
use Rattle.std.proofs.Common.{◌/◌, ◌^◌, ◌<◌, arith}
use Rattle.word.proofs.Digits.{bytes_bits}
use native.Mathlib.Nat.{mod-eq_of_lt, one-le-pow, div-lt_iff_lt-mul}
use native.Mathlib.Omega.{arith}
use Rattle.matrixwalk.proofs.words.two_of.Goals as goal

pub returns : goal.returns
returns c =
    let a = c.args in
    let h : a.word / 256 ^ a.more < 65536 = (div-lt_iff_lt-mul (one-le-pow a.more 256 (omega arith))).1 c.requires.1 in
    rw (← bytes_bits a.more) (mod-eq_of_lt h)
