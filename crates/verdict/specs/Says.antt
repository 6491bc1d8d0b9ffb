-- What a verdict says of a string of bytes, for any set of packs and any table of reasons.
use Rattle.std.specs.Prelude.{ℕ, suc, ◌≤◌, ◌<◌, ◌≡◌, List, ◌++◌, length, take, get_or}
use Rattle.verdict.specs.declared.Reason.{Reason}
use Rattle.verdict.specs.declared.Verdict.{Verdict}
use Rattle.verdict.specs.declared.Verdict.TheVariants.{Complete, Unfinished, Refused}

-- each number is a byte
abbrev pub Bytes : List ℕ → Type 0
Bytes bs = (i : ℕ) → get_or bs i 0 < 256

-- no pack ends within the first n bytes
abbrev pub NoneWithin : (List ℕ → Type 0) → List ℕ → ℕ → Type 0
NoneWithin Pack bs n = (k : ℕ) → k < n → Pack (take k bs) → ⊥

-- the first n bytes are a pack, and no fewer are
pub record CompleteAt (Pack : List ℕ → Type 0) (bs : List ℕ) (n : ℕ) : Type 0 where
  pub within : n ≤ length bs
  pub pack : Pack (take n bs)
  pub first : NoneWithin Pack bs n

-- the beginning of some pack that holds none, and m is the fewest bytes with which any pack could finish it
pub record UnfinishedBy (Pack : List ℕ → Type 0) (bs : List ℕ) (m : ℕ) : Type 0 where
  pub ending : List ℕ
  pub ending_count : length ending ≡ m
  pub finished : Pack (bs ++ ending)
  pub fewest : (t : List ℕ) → Pack (bs ++ t) → m ≤ length t
  pub none : NoneWithin Pack bs (suc (length bs))

-- no pack begins with the bytes up to and including the place, some pack begins with the bytes before it, and no pack ended there
pub record RefusedAt (Pack : List ℕ → Type 0) (Why : List ℕ → Reason → Type 0) (bs : List ℕ) (reason : Reason) (place : ℕ) : Type 0 where
  pub within : place < length bs
  pub ending : List ℕ
  pub before : Pack (take place bs ++ ending)
  pub hopeless : (t : List ℕ) → Pack (take (suc place) bs ++ t) → ⊥
  pub none : NoneWithin Pack bs (suc place)
  pub why : Why (take (suc place) bs) reason

-- what a verdict says of the bytes; the table Why gives the reason of the last of some bytes
abbrev pub Says : (List ℕ → Type 0) → (List ℕ → Reason → Type 0) → List ℕ → Verdict → Type 0
Says Pack Why bs (Complete n) = CompleteAt Pack bs n
Says Pack Why bs (Unfinished m) = UnfinishedBy Pack bs m
Says Pack Why bs (Refused r) = RefusedAt Pack Why bs r.reason r.place

-- a table gives at most one reason
abbrev pub OneReason : (List ℕ → Reason → Type 0) → Type 0
OneReason Why = (w : List ℕ) (r q : Reason) → Why w r → Why w q → r ≡ q
