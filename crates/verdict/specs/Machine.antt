-- A machine that each byte moves on, the verdict of its run, and the laws that each kind of pack owes for its machine.
use Rattle.std.specs.Prelude.{ℕ, suc, ◌+◌, ◌≤◌, ◌<◌, ◌≡◌, List, [], ◌∷◌}
use Rattle.verdict.specs.declared.Reason.{Reason}
use Rattle.verdict.specs.declared.Verdict.{Verdict}
use Rattle.verdict.specs.declared.Verdict.TheVariants.{Complete, Unfinished, Refused}

-- what a byte does: it moves the machine on, ends a pack, or is refused
pub data Move (S : Type 0) : Type 0 where
  on : S → Move S
  done : Move S
  bad : Reason → Move S

-- a verdict on what stands n places later
abbrev pub shift : ℕ → Verdict → Verdict
shift n (Complete length) = Complete (n + length)
shift n (Unfinished missing) = Unfinished missing
shift n (Refused r) = Refused (record { reason = r.reason; place = n + r.place })

-- the verdict after a move; what follows the byte has its verdict from the next state
abbrev pub follow : {S : Type 0} → Move S → (S → Verdict) → Verdict
follow (on s) rest = shift 1 (rest s)
follow done rest = Complete 1
follow (bad reason) rest = Refused (record { reason = reason; place = 0 })

-- a claim by where a move leads: of the next state, at a pack's end, of a refusal's reason
abbrev pub Moved : {S : Type 0} → Move S → (S → Type 0) → Type 0 → (Reason → Type 0) → Type 0
Moved (on s) next end refused = next s
Moved done next end refused = end
Moved (bad reason) next end refused = refused reason

-- a move comes no nearer to an end, n bytes away, than by one byte, and to a good state
abbrev pub Falls : {S : Type 0} → (S → ℕ) → (S → Type 0) → ℕ → Move S → Type 0
Falls least Good n move = Moved move (λ t. Good t × (n ≤ suc (least t))) (n ≤ 1) (λ r. Unit {0})

-- a move comes nearer to an end, n bytes away, by one byte
abbrev pub Nears : {S : Type 0} → (S → ℕ) → ℕ → Move S → Type 0
Nears least n move = Moved move (λ t. n ≡ suc (least t)) (n ≡ 1) (λ r. ⊥)

module _ {S : Type 0} (step : S → ℕ → Move S) where
  -- the machine ends a pack at the last of these bytes, and not before
  unfoldable pub Accepts : S → List ℕ → Type 0
  Accepts s [] = ⊥
  Accepts s (b ∷ w) = (b < 256) × Moved (step s b) (λ t. Accepts t w) (w ≡ []) (λ r. ⊥)

  -- the machine refuses the last of these bytes for this reason, and none before
  unfoldable pub Blames : S → List ℕ → Reason → Type 0
  Blames s [] reason = ⊥
  Blames s (b ∷ w) reason = Moved (step s b) (λ t. Blames t w reason) ⊥ (λ r. (w ≡ []) × (r ≡ reason))

  -- the verdict of a run: where the bytes end, the state tells the fewest that are missing
  unfoldable pub run : (S → ℕ) → S → List ℕ → Verdict
  run least s [] = Unfinished (least s)
  run least s (b ∷ bs) = follow (step s b) (λ t. run least t bs)

  -- what a kind of pack owes for its machine: no byte comes nearer to the end than by one, and in a good state some byte does
  pub record Laws (least : S → ℕ) (Good : S → Type 0) : Type 0 where
    pub falls : (s : S) → Good s → (b : ℕ) → b < 256 → Falls least Good (least s) (step s b)
    pub nears : (s : S) → Good s → (b : ℕ) × (b < 256) × Nears least (least s) (step s b)
