-- The scaled coefficient, IMAPB(−1, 1, L): the word less 2^(8L − 2), over a unit of 2^(8L − 2).
use Rattle.std.specs.Prelude.{ℕ, ℤ, ◌/◌, ◌^◌, ◌||◌, cond, Result, Ok, Err, eqb, ltb}
use Rattle.std.proofs.Math.IntN.{sub_ℕ}
use Rattle.verdict.specs.declared.Reason.TheVariants.{ValueLength, ValueRange}
use Rattle.verdict.specs.declared.Refusal.{Refusal}

-- the nought of mapped words of L bytes, 2^(8L − 2); 0 in 0 bytes
abbrev pub nought_of : ℕ → ℕ
nought_of n = 256 ^ n / 4

-- refused 6 for a length of 0 or above 8, 11 for a word above 2^(8L − 1); else the word less the nought
abbrev pub scaled_of : ℕ → ℕ → Result ℤ Refusal
scaled_of word n =
    cond (eqb n 0 || ltb 8 n) (Err (record { reason = ValueLength; place = 0 }))
    (cond (ltb (256 ^ n / 2) word) (Err (record { reason = ValueRange; place = 0 })) (Ok (sub_ℕ word (nought_of n))))
