-- How the drawing of the sizes goes on: a size that was drawn is taken, and anything else is the verdict. Assumes nothing.
use Prim.Native.Nat.{ℕ, ◌+◌, ◌-◌, ◌*◌, ◌/◌, ◌≤◌, ◌<◌}
use mathlib.Core.Path.{◌≡◌, sym, ap, ◌∙◌}
use mathlib.Core.Bool.{true}
use mathlib.Core.List.{List}
use native.Mathlib.Numerals.{add-one}
use Rattle.std.specs.Prelude.{Result, Ok, Err}
use Rattle.verdict.specs.declared.Refusal.{Refusal}
use Rattle.verdict.specs.declared.Verdict.TheVariants.{Unfinished, Refused}
use Rattle.verdict.specs.Says.{Bytes}
use Rattle.number.specs.declared.Number.{Number}
use Rattle.number.specs.declared.Undrawn.{Undrawn}
use Rattle.number.specs.declared.Undrawn.TheVariants.{Cut, Refused as UndrawnRefused}
use Rattle.number.specs.declared.Numbers.{Numbers}
use Rattle.number.specs.Draw.{draw_at, limit_behind, place_behind, further}
use Rattle.number.proofs.Drawing.{limit_behind_lem}
use Rattle.array.specs.Meaning.{most}
use Rattle.array.specs.Machine.{verdict_of}
use Rattle.arraywalk.specs.declared.Sized.{Sized}
use Rattle.arraywalk.specs.Parts.{SizedTo}
use Rattle.arraywalk.proofs.Walking.{size_limited, size_drawn, size_cut, size_refused}

module _ (bytes : List ℕ) (b : Bytes bytes) (total count product : ℕ) (numbers : Numbers) (held : numbers.bytes.now ≡ bytes) (z : SizedTo bytes count (record { dims = total; place = numbers.place; product = product })) (h : count < total) (next : Numbers) (drew : next ≡ further numbers true (limit_behind most product)) where
  abbrev sized : Sized
  sized = record { dims = total; place = numbers.place; product = product }

  drawn : (found : Result Number Undrawn) → next.drawn ≡ found → found ≡ draw_at bytes numbers.place true (most / product)
  drawn found e =
      sym e
      ∙ ap (λ (n : Numbers). n.drawn) drew
      ∙ ap (λ (s : List ℕ). draw_at s numbers.place true (limit_behind most product)) held
      ∙ ap (draw_at bytes numbers.place true) (limit_behind_lem most product z.least)

  placed : (found : Result Number Undrawn) → next.drawn ≡ found → next.place ≡ place_behind found numbers.place
  placed found e = ap (λ (n : Numbers). n.place) drew ∙ sym (ap (λ (n : Numbers). place_behind n.drawn numbers.place) drew) ∙ ap (λ (d : Result Number Undrawn). place_behind d numbers.place) e

  pub going_limited : (size : Number) → next.drawn ≡ Ok size → product * size.value ≤ most
  going_limited size e = size_limited bytes b count sized z size.value size.next (drawn (Ok size) e)

  pub going_on : (size : Number) → next.drawn ≡ Ok size → SizedTo bytes (count + 1) (record { dims = total; place = next.place; product = product * size.value })
  going_on size e = rw (add-one count, placed (Ok size) e) (size_drawn bytes b count sized z size.value size.next (drawn (Ok size) e) h)

  pub going_cut : (begun : ℕ) → next.drawn ≡ Err (Cut begun) → verdict_of bytes ≡ Unfinished (total - count + 2)
  going_cut begun e = size_cut bytes b count sized z h begun (drawn (Err (Cut begun)) e)

  pub going_refused : (refusal : Refusal) → next.drawn ≡ Err (UndrawnRefused refusal) → verdict_of bytes ≡ Refused refusal
  going_refused refusal e = size_refused bytes b count sized z h refusal (drawn (Err (UndrawnRefused refusal)) e)
