-- What is said of a matrix's mapped coefficients that were unpacked and scaled.
use Rattle.std.specs.Prelude.{ℕ, ◌<◌, ◌≡◌, List, ℤ, pos, Ok, get_or, drop}
use Rattle.rule.specs.Scaled.{scaled_of}
use Rattle.matrix.specs.Meaning.{Matrix, pairs}

-- M is answered; each entry is what scaling its coefficient gives, 0 for one not sent; the entries behind them stay
pub record ScaledAs (m : Matrix) (out : List ℤ) (number : ℕ) (out' : List ℤ) : Type 0 where
  pub answered : number ≡ pairs m.fields.n
  pub each : (i : ℕ) → i < pairs m.fields.n → scaled_of (get_or m.coefficients i 0) m.fields.clen ≡ Ok (get_or out' i (pos 0))
  pub not_sent : (i : ℕ) → i < pairs m.fields.n → get_or m.marks i 0 ≡ 0 → get_or out' i (pos 0) ≡ pos 0
  pub behind : drop (pairs m.fields.n) out' ≡ drop (pairs m.fields.n) out
