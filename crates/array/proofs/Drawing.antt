-- Drawing a number of a field is the run over it, and the array's bytes are passed by their count. Assumes nothing.
use Prim.Native.Nat.{ℕ, zero, suc, ◌+◌, ◌-◌, ◌≤◌, ◌<◌}
use mathlib.Core.Path.{◌≡◌, refl, sym, ap, ◌∙◌}
use mathlib.Core.List.{List}
use native.Mathlib.Omega.{arith}
use borrow.Author.Tests.{ltb-true, ltb-false}
use lib.Dec.{ltb}
use lib.ListN.{length, get_or, drop}
use Rattle.std.specs.Prelude.{Result, Ok, Err}
use Rattle.verdict.specs.declared.Reason.{Reason}
use Rattle.verdict.specs.declared.Verdict.{Verdict}
use Rattle.verdict.specs.declared.Verdict.TheVariants.{Complete, Unfinished, Refused}
use Rattle.verdict.specs.Reaching.{led}
use Rattle.verdict.proofs.Cases.{either}
use Rattle.verdict.proofs.Reaching.{reach_cut, reach_step}
use Rattle.number.specs.declared.Effect.{Effect}
use Rattle.number.specs.declared.Effect.TheVariants.{Ends, GoesOn}
use Rattle.number.specs.declared.Number.{Number}
use Rattle.number.specs.declared.Undrawn.{Undrawn}
use Rattle.number.specs.declared.Undrawn.TheVariants.{Cut, Refused as UndrawnRefused}
use Rattle.number.specs.Octet.{effect_of}
use Rattle.number.specs.Draw.{after, draw_on, draw_at}
use Rattle.number.proofs.Drawing.{draw_past_end, draw_octet}
use Rattle.array.specs.Table.{Field, limit, positive}
use Rattle.array.specs.Machine.{reason_in, number, body, enter, behind, behind_effect, move, least, verdict_at, verdict_behind}

module _ (bytes : List ℕ) where
  -- the verdict by what drawing a field's number found
  abbrev pub drawn_verdict : Field → Result Number Undrawn → Verdict
  drawn_verdict field (Ok drawn) = verdict_behind (behind field drawn.value) bytes drawn.next
  drawn_verdict field (Err (Cut value)) = Unfinished (least (number field value))
  drawn_verdict field (Err (UndrawnRefused r)) = Refused (record { reason = reason_in field r.reason; place = r.place })

  abbrev found : Field → ℕ → ℕ → Result Number Undrawn
  found field value at = draw_on (drop at bytes) at value (positive field) (limit field)

  octet_drawn : (field : Field) (at : ℕ) (e : Result Effect Reason) → ((v : ℕ) → verdict_at (number field v) bytes (at + 1) ≡ drawn_verdict field (found field v (at + 1))) → verdict_behind (behind_effect field e) bytes (at + 1) ≡ drawn_verdict field (after e at (λ v. found field v (at + 1)))
  unfolding led
  octet_drawn field at (Ok (Ends v)) later = refl
  octet_drawn field at (Ok (GoesOn v)) later = later v
  octet_drawn field at (Err r) later = ap (λ (p : ℕ). Refused (record { reason = reason_in field r; place = p })) (omega arith)

  cut_drawn : (field : Field) (value at : ℕ) → length bytes ≤ at → verdict_at (number field value) bytes at ≡ drawn_verdict field (found field value at)
  cut_drawn field value at h = reach_cut move least bytes (number field value) at h ∙ sym (ap (drawn_verdict field) (draw_past_end bytes at value (positive field) (limit field) h))

  begun_drawn : (field : Field) (n value at : ℕ) → length bytes ≤ at + n → verdict_at (number field value) bytes at ≡ drawn_verdict field (found field value at)
  begun_drawn field zero value at h = cut_drawn field value at (omega arith)
  begun_drawn field (suc n) value at h =
      let e = effect_of (get_or bytes at 0) value (positive field) (limit field) in
      either (ltb at (length bytes))
      (λ t. let l = ltb-true at (length bytes) t in
      reach_step move least bytes (number field value) at l
      ∙ octet_drawn field at e (λ v. begun_drawn field n v (at + 1) (omega arith))
      ∙ sym (ap (drawn_verdict field) (draw_octet bytes at value (positive field) (limit field) l e refl)))
      (λ t. cut_drawn field value at (ltb-false at (length bytes) t))

  -- from before a field's first octet
  pub number_drawn : (field : Field) (place : ℕ) (drawn : Result Number Undrawn) → drawn ≡ draw_at bytes place (positive field) (limit field) → verdict_at (number field 0) bytes place ≡ drawn_verdict field drawn
  number_drawn field place drawn e = begun_drawn field (length bytes) 0 place (omega arith) ∙ ap (drawn_verdict field) (sym e)

  -- the array: all of it, or what is missing
  pub body_whole : (total place : ℕ) → place + total ≤ length bytes → verdict_behind (enter total) bytes place ≡ Complete (place + total)
  unfolding led
  body_whole zero place h = ap Complete (omega arith)
  body_whole (suc more) place h = reach_step move least bytes (body more) place (omega arith) ∙ body_whole more (place + 1) (omega arith) ∙ ap Complete (omega arith)

  pub body_cut : (total place : ℕ) → place ≤ length bytes → length bytes < place + total → verdict_behind (enter total) bytes place ≡ Unfinished (place + total - length bytes)
  unfolding led
  body_cut zero place l h = absurd (omega arith)
  body_cut (suc more) place l h =
      either (ltb place (length bytes))
      (λ t. reach_step move least bytes (body more) place (ltb-true place (length bytes) t) ∙ body_cut more (place + 1) (omega (arith, ltb-true place (length bytes) t)) (omega arith) ∙ ap Unfinished (omega arith))
      (λ t. reach_cut move least bytes (body more) place (ltb-false place (length bytes) t) ∙ ap Unfinished (omega (arith, ltb-false place (length bytes) t)))
