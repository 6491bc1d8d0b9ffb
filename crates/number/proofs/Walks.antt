-- For walks by hand that hold the reader: a `while` with what runs behind it, and a constant that is large. Assumes nothing.
use Prim.Native.Nat.{ℕ}
use mathlib.Core.Path.{◌≡◌, refl}
use mathlib.Core.Bool.{Bool, true, false}
use mathlib.Core.List.{List}
use mathlib.Core.WellFounded.{WellFounded}
use seplogic.Ra.Ura.{Ura}
use mir.Syntax.{Width, Body, int_big, seq, block, loop, erased}
use mir.Val.{Fits, vint}
use base.Logic.{SProp, via, guard_i}
use prog.Wp.{Heap, Env, Out, exits, after_seq, after_block, after_turn, Wp, Tables}
use base.Fml.{Lft}
use types.Logic.{Logic}
use denote.Ref.{NamedLft}
use types.Kit.{Item, Post, any_q, post, prop, runs, Seq, ◌$◌}
use types.Run.{Opd, first, blocks, Below, loops}

-- when a loop is left, what stands behind it runs
abbrev pub Left : {M : Type 1} (𝓤 : Ura M) (H : Heap 𝓤) → Tables 𝓤 H → Env 𝓤 H → Body → Post 𝓤 H → Out → SProp 𝓤
Left 𝓤 H 𝓣 E rest q = after_block 𝓤 H (after_seq 𝓤 H (Wp 𝓤 H 𝓣.C 𝓣.Λ E rest (post 𝓤 H q)) (post 𝓤 H q))

module _ {M : Type 1} {𝓤 : Ura M} {𝓛 : Logic 𝓤} {K : Type 0} where
  -- a large constant is read
  open 𝓛 use {H}

  pub big_lit : K → {Γ : List (Item 𝓤)} {E : Env 𝓤 H} {w : Width} {n : ℕ} → Fits w n → Opd K 𝓛 Γ E (int_big w n) (vint w n)
  big_lit k {w = w} {n = n} fits = record { go = λ Kt h. via 𝓤 (Kt (vint w n)) h (guard_i 𝓤 (Fits w n) (Kt (vint w n)) fits) }

  -- a loop and what stands behind it: a turn ends before a turn that is nearer to the end, or leaves the loop, and goes on behind it
  pub loops_then : K → {X : Type 0} (𝓣 : Tables 𝓤 H) (≺ : X → X → Type 0) → WellFounded ≺ → (I : X → List (Item 𝓤)) {E : Env 𝓤 H} {b rest : Body} {q : Post 𝓤 H}
      → ((t : X) → ((Γ : List (Item 𝓤)) → Seq K 𝓛 Γ (runs 𝓣.C 𝓣.Λ E rest q) → Seq K 𝓛 Γ (prop (Left 𝓤 H 𝓣 E rest q (exits 0)))) → Seq K 𝓛 (I t) (runs 𝓣.C 𝓣.Λ E b (any_q (after_turn 𝓤 H (Below 𝓛 ≺ I t) (Left 𝓤 H 𝓣 E rest q)))))
      → (t : X) → Seq K 𝓛 (I t) (runs 𝓣.C 𝓣.Λ E (seq (block (loop b)) rest) q)
  loops_then k 𝓣 ≺ wf I turn t = first k $ blocks k $ loops k 𝓣 ≺ wf I (λ u. turn u (λ Γ s. record { prf = s.prf })) t

-- a lifetime as a local of a body has it
abbrev pub erased_at : Lft → NamedLft
erased_at κ = record { mir = erased; lft = κ }

-- a test holds, or it fails
pub by_bool : {X : Type 1} (t : Bool) → (t ≡ true → X) → (t ≡ false → X) → X
by_bool true f g = f refl
by_bool false f g = g refl
