-- That a verdict is the only one that is said of some bytes.
use Rattle.std.specs.Prelude.{ℕ, ◌≡◌, List}
use Rattle.verdict.specs.declared.Reason.{Reason}
use Rattle.verdict.specs.declared.Verdict.{Verdict}
use Rattle.verdict.specs.Says.{Says}

-- a verdict is said of the bytes, and no other is
pub record SaidAlone (Pack : List ℕ → Type 0) (Why : List ℕ → Reason → Type 0) (bytes : List ℕ) (verdict : Verdict) : Type 0 where
  pub said : Says Pack Why bytes verdict
  pub alone : (other : Verdict) → Says Pack Why bytes other → other ≡ verdict
