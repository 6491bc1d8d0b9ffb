-- What a walk that finds a whole pack says of its bytes, and where its sizes stand in them. Assumes nothing.
use Prim.Native.Nat.{ℕ, suc, ◌+◌, ◌≤◌, ◌<◌}
use mathlib.Core.Path.{◌≡◌, refl, sym, ap, ◌∙◌}
use mathlib.Core.Bool.{true}
use mathlib.Core.List.{List, [], ◌∷◌, ◌++◌, append_assoc}
use native.Mathlib.Omega.{arith}
use lib.ListN.{length, get_or, drop, take-append-drop}
use lib.Seq.{drop-cons, drop-drop, drop-append_seam}
use Rattle.std.specs.Prelude.{Result, Ok, Err}
use Rattle.verdict.specs.declared.Stop.{Stop}
use Rattle.verdict.specs.declared.Verdict.{Verdict}
use Rattle.verdict.specs.declared.Verdict.TheVariants.{Complete, Unfinished, Refused}
use Rattle.verdict.specs.Answers.{stopped}
use Rattle.verdict.specs.Says.{Bytes}
use Rattle.number.specs.Draw.{drawn_number, draw_at}
use Rattle.number.specs.Octets.{octets, numbers}
use Rattle.number.proofs.Octets.{high_none, octets_more, octets_drawn}
use Rattle.array.specs.Meaning.{product, most}
use Rattle.array.specs.Decoded.{meaning_of}
use Rattle.array.specs.Machine.{verdict_of}
use Rattle.array.proofs.Complete.{complete_meaning}
use Rattle.array.proofs.Products.{Positive, size_most}
use Rattle.arraywalk.specs.declared.Found.{Found}
use Rattle.arraywalk.specs.Standing.{SizesAt}
use Rattle.arraywalk.specs.Walk.{found_of, walked_for, walked_of}

-- the verdict that a walk's answer stands for
abbrev pub verdict_in : Result Found Stop → Verdict
verdict_in (Ok found) = Complete found.length
verdict_in (Err stop) = stopped stop

verdict_back : (bytes : List ℕ) (v : Verdict) → verdict_in (walked_for bytes v) ≡ v
verdict_back bytes (Complete n) = refl
verdict_back bytes (Unfinished missing) = refl
verdict_back bytes (Refused refusal) = refl

pub walk_said : (bytes : List ℕ) (walked : Result Found Stop) → walked ≡ walked_of bytes → verdict_of bytes ≡ verdict_in walked
walk_said bytes walked e = sym (ap verdict_in e ∙ verdict_back bytes (verdict_of bytes))

-- a whole pack was found
abbrev found_whole : Found → Result Found Stop
found_whole found = Ok found

-- a whole pack that was found is the one of the bytes
pub found_is : (bytes : List ℕ) (found : Found) → Ok found ≡ walked_of bytes → found ≡ found_of bytes found.length
found_is bytes found w = inside (w ∙ ap (walked_for bytes) (walk_said bytes (Ok found) w))
  where
    inside : {x y : Found} → found_whole x ≡ found_whole y → x ≡ y
    inside e = cc

-- ---- the sizes in the bytes

-- NDim is one octet, and the sizes stand behind it
pub sizes_begin : (bytes : List ℕ) → Bytes bytes → (n : ℕ) → verdict_of bytes ≡ Complete n → SizesAt bytes (meaning_of bytes).sizes 0 1
sizes_begin bytes b n e =
    let x = complete_meaning bytes b n e in
    let a = meaning_of bytes in
    let k = length a.sizes in
    let rest = octets a.element ++ (octets 1 ++ a.body) in
    let one : octets k ≡ k ∷ [] = ap octets (omega arith) ∙ octets_more 0 k (omega (arith, x.0.few_sizes)) ∙ rw high_none in
    let whole : bytes ≡ (k ∷ []) ++ (numbers a.sizes ++ rest) ++ drop n bytes = sym (take-append-drop n bytes) ∙ ap (λ (w : List ℕ). w ++ drop n bytes) (sym x.1 ∙ ap (λ (o : List ℕ). o ++ (numbers a.sizes ++ rest)) one) in
    record { tail = rest ++ drop n bytes; stand = ap (drop 1) whole ∙ append_assoc (numbers a.sizes) rest (drop n bytes) }

module _ (bytes sizes : List ℕ) (count place : ℕ) (s : SizesAt bytes sizes count place) (h : count < length sizes) where
  abbrev size : ℕ
  size = get_or sizes count 0

  next_stands : drop place bytes ≡ octets size ++ (numbers (drop (suc count) sizes) ++ s.tail)
  unfolding numbers
  next_stands = s.stand ∙ rw (drop-cons sizes count 0 h, append_assoc)

  -- the next of them is drawn, each within the limit of all
  pub size_drawn : Positive sizes → product sizes ≤ most → draw_at bytes place true most ≡ drawn_number size (place + length (octets size))
  size_drawn p m = rw next_stands (octets_drawn size place true most (numbers (drop (suc count) sizes) ++ s.tail) (λ _. p count h) (omega (arith, size_most sizes p count h)))

  pub sizes_next : SizesAt bytes sizes (suc count) (place + length (octets size))
  sizes_next = record { tail = s.tail; stand = sym (drop-drop (length (octets size)) place bytes) ∙ ap (drop (length (octets size))) next_stands ∙ drop-append_seam (octets size) (numbers (drop (suc count) sizes) ++ s.tail) }
