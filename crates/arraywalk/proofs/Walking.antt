-- The reader's steps: what was drawn stands in the bytes, and the run goes on behind it. Assumes nothing.
use Prim.Native.Nat.{ℕ, zero, suc, ◌+◌, ◌-◌, ◌*◌, ◌/◌, ◌≤◌, ◌<◌}
use mathlib.Core.Path.{◌≡◌, refl, sym, ap, ap₂, ◌∙◌}
use mathlib.Core.Bool.{true, false}
use mathlib.Core.List.{List, [], ◌∷◌, ◌++◌}
use native.Mathlib.Nat.{mul-pos, mul-le-mul_right}
use native.Mathlib.Omega.{arith}
use borrow.Author.Tests.{lt-ltb, le-ltb}
use lib.ListN.{length, get_or, drop}
use lib.Seq.{get_or-drop}
use Rattle.std.specs.Prelude.{Result, Ok, Err}
use Rattle.verdict.specs.declared.Reason.{Reason}
use Rattle.verdict.specs.declared.Stop.{Stop}
use Rattle.verdict.specs.declared.Stop.TheVariants.{Unfinished as StopUnfinished, Refused as StopRefused}
use Rattle.verdict.specs.declared.Refusal.{Refusal}
use Rattle.verdict.specs.declared.Verdict.TheVariants.{Complete, Unfinished, Refused}
use Rattle.verdict.specs.Machine.{Move, on, bad}
use Rattle.verdict.specs.Reaching.{led}
use Rattle.verdict.specs.Says.{Bytes}
use Rattle.verdict.proofs.Reaching.{reach_start, reach_cut, reach_step}
use Rattle.number.specs.declared.Number.{Number}
use Rattle.number.specs.declared.Undrawn.{Undrawn}
use Rattle.number.specs.declared.Undrawn.TheVariants.{Cut, Refused as UndrawnRefused}
use Rattle.number.specs.Draw.{drawn_number, draw_at}
use Rattle.number.specs.Front.{Front, front, fronts}
use Rattle.number.proofs.Octets.{drawn_cut}
use Rattle.number.proofs.Front.{front_drawn, drawn_within, shortest_there, fronts_more, fronts_count}
use Rattle.arraywalk.specs.declared.Sized.{Sized}
use Rattle.arraywalk.specs.declared.Heading.{Heading}
use Rattle.arraywalk.specs.declared.Found.{Found}
use Rattle.array.specs.Meaning.{product, most}
use Rattle.array.specs.Decoded.{sizes_in, element_in, meaning_of}
use Rattle.array.specs.Table.{Field, dims, size, element, processing}
use Rattle.array.specs.Machine.{State, number, behind_size, move, least, verdict_of, verdict_behind}
use Rattle.arraywalk.specs.Walk.{walked_for, walked_of}
use Rattle.arraywalk.specs.Parts.{behind_sizes, DimsTo, SizedTo, ElementTo, ProcessedTo, FoundIn, WalkFrom}
use Rattle.array.proofs.Keeping.{limit_product}
use Rattle.array.proofs.Drawing.{drawn_verdict, number_drawn, body_whole}
use Rattle.array.proofs.Products.{product_more}

-- behind a size the machine stands before the next one, or before E
size_behind : (k count total p : ℕ) → total - suc count ≡ k → count < total → behind_size k p ≡ on (behind_sizes total (suc count) p)
size_behind zero count total p e h = rw (le-ltb (suc count) total (omega arith))
size_behind (suc k) count total p e h = let d : total - suc (suc count) ≡ k = omega arith in rw (lt-ltb (suc count) total (omega arith), d)

module _ (bytes : List ℕ) (b : Bytes bytes) where
  -- ---- NDim

  dims_leads : (drawn : Result Number Undrawn) → drawn ≡ draw_at bytes 0 true 8 → verdict_of bytes ≡ drawn_verdict bytes dims drawn
  dims_leads drawn e = sym (reach_start move least bytes (number dims 0)) ∙ number_drawn bytes dims 0 drawn e

  pub dims_drawn : (v next : ℕ) → drawn_number v next ≡ draw_at bytes 0 true 8 → DimsTo bytes v next
  unfolding led
  dims_drawn v next e =
      let limits = shortest_there bytes 0 true 8 v next b (sym e) in
      record {
        some = limits.counts refl;
        few = limits.within;
        within = drawn_within bytes 0 true 8 v next b (sym e) (omega arith);
        drawn = front_drawn bytes 0 true 8 v next b (sym e);
        leads = dims_leads (drawn_number v next) e;
      }

  pub dims_cut : (v : ℕ) → Err (Cut v) ≡ draw_at bytes 0 true 8 → verdict_of bytes ≡ Unfinished 4
  dims_cut v e = dims_leads (Err (Cut v)) e

  pub dims_refused : (r : Refusal) → Err (UndrawnRefused r) ≡ draw_at bytes 0 true 8 → verdict_of bytes ≡ Refused r
  dims_refused r e = dims_leads (Err (UndrawnRefused r)) e

  -- ---- sizes

  pub sizes_none : (total place : ℕ) → DimsTo bytes total place → SizedTo bytes 0 (record { dims = total; place = place; product = 1 })
  unfolding fronts product
  sizes_none total place d =
      record {
        some = d.some;
        few = d.few;
        within = d.within;
        least = omega arith;
        limited = omega arith;
        counted = ap (λ (f : Front). f.value) d.drawn;
        multiplied = refl;
        behind = ap (λ (f : Front). f.behind) d.drawn;
        leads = d.leads ∙ rw (lt-ltb 0 total d.some);
      }

  module _ (count : ℕ) (sized : Sized) (z : SizedTo bytes count sized) where
    -- the number behind the sizes drawn
    abbrev field : Field
    field = size (sized.dims - suc count) sized.product

    size_leads : count < sized.dims → (drawn : Result Number Undrawn) → drawn ≡ draw_at bytes sized.place true (most / sized.product) → verdict_of bytes ≡ drawn_verdict bytes field drawn
    size_leads h drawn e = rw (lt-ltb count sized.dims h) at z.leads ∙ number_drawn bytes field sized.place drawn e

    module _ (v next : ℕ) (e : drawn_number v next ≡ draw_at bytes sized.place true (most / sized.product)) where
      next_front : front 0 (sizes_in bytes count).behind ≡ record { value = v; behind = drop next bytes }
      next_front = rw z.behind (front_drawn bytes sized.place true (most / sized.product) v next b (sym e))

      more_values : (sizes_in bytes (suc count)).values ≡ (sizes_in bytes count).values ++ (v ∷ [])
      more_values = rw (fronts_more count (front 0 bytes).behind, next_front)

      more_behind : (sizes_in bytes (suc count)).behind ≡ drop next bytes
      more_behind = rw (fronts_more count (front 0 bytes).behind, next_front)

      pub size_limited : sized.product * v ≤ most
      size_limited = limit_product sized.product v z.least (shortest_there bytes sized.place true (most / sized.product) v next b (sym e)).within

      pub size_drawn : count < sized.dims → SizedTo bytes (suc count) (record { dims = sized.dims; place = next; product = sized.product * v })
      unfolding led
      size_drawn h =
          let limits = shortest_there bytes sized.place true (most / sized.product) v next b (sym e) in
          record {
            some = z.some;
            few = z.few;
            within = drawn_within bytes sized.place true (most / sized.product) v next b (sym e) z.within;
            least = mul-pos z.least (limits.counts refl);
            limited = size_limited;
            counted = z.counted;
            multiplied = ap (λ (k : ℕ). k * v) z.multiplied ∙ sym (ap product more_values ∙ product_more (sizes_in bytes count).values v);
            behind = more_behind;
            leads = size_leads h (drawn_number v next) e ∙ ap (λ (m : Move State). verdict_behind m bytes next) (size_behind (sized.dims - suc count) count sized.dims (sized.product * v) refl h);
          }

    pub size_cut : count < sized.dims → (v : ℕ) → Err (Cut v) ≡ draw_at bytes sized.place true (most / sized.product) → verdict_of bytes ≡ Unfinished (sized.dims - count + 2)
    size_cut h v e = size_leads h (Err (Cut v)) e ∙ ap Unfinished (omega arith)

    pub size_refused : count < sized.dims → (r : Refusal) → Err (UndrawnRefused r) ≡ draw_at bytes sized.place true (most / sized.product) → verdict_of bytes ≡ Refused r
    size_refused h r e = size_leads h (Err (UndrawnRefused r)) e

  -- ---- E

  module _ (sized : Sized) (z : SizedTo bytes sized.dims sized) where
    element_leads : (drawn : Result Number Undrawn) → drawn ≡ draw_at bytes sized.place false (most / sized.product) → verdict_of bytes ≡ drawn_verdict bytes (element sized.product) drawn
    element_leads drawn e = rw (le-ltb sized.dims sized.dims (omega arith)) at z.leads ∙ number_drawn bytes (element sized.product) sized.place drawn e

    element_front : (v next : ℕ) → drawn_number v next ≡ draw_at bytes sized.place false (most / sized.product) → element_in bytes sized.dims ≡ record { value = v; behind = drop next bytes }
    element_front v next e = rw z.behind (front_drawn bytes sized.place false (most / sized.product) v next b (sym e))

    pub element_drawn : (v next : ℕ) → drawn_number v next ≡ draw_at bytes sized.place false (most / sized.product) → ElementTo bytes sized v next
    unfolding led
    element_drawn v next e =
        record {
          sizes = z;
          within = drawn_within bytes sized.place false (most / sized.product) v next b (sym e) z.within;
          limited = limit_product sized.product v z.least (shortest_there bytes sized.place false (most / sized.product) v next b (sym e)).within;
          valued = ap (λ (f : Front). f.value) (element_front v next e);
          leads = element_leads (drawn_number v next) e;
        }

    pub element_cut : (v : ℕ) → Err (Cut v) ≡ draw_at bytes sized.place false (most / sized.product) → verdict_of bytes ≡ Unfinished (2 + sized.product * (v * 128))
    element_cut v e = element_leads (Err (Cut v)) e

    -- what is begun of E, with an octet 0 behind it, keeps the limit
    pub element_begun : (v : ℕ) → Err (Cut v) ≡ draw_at bytes sized.place false (most / sized.product) → (v * 128 ≤ most) × (sized.product * (v * 128) ≤ most)
    element_begun v e =
        let kept = limit_product sized.product (v * 128) z.least (drawn_cut (drop sized.place bytes) sized.place false (most / sized.product) v (λ i. rw get_or-drop (b (sized.place + i))) (sym e)).1 in
        (omega (arith, kept, mul-le-mul_right (v * 128) z.least), kept)

    pub element_refused : (r : Refusal) → Err (UndrawnRefused r) ≡ draw_at bytes sized.place false (most / sized.product) → verdict_of bytes ≡ Refused r
    element_refused r e = element_leads (Err (UndrawnRefused r)) e

-- ---- processing and the array

module _ (bytes : List ℕ) where
  module _ (sized : Sized) (each place : ℕ) (z : ElementTo bytes sized each place) where
    pub processing_cut : length bytes ≤ place → verdict_of bytes ≡ Unfinished (1 + sized.product * each)
    processing_cut h = z.leads ∙ reach_cut move least bytes (number (processing (sized.product * each)) 0) place h

    pub processing_one : place < length bytes → get_or bytes place 0 ≡ 1 → ProcessedTo bytes (record { sized = sized; element = each; start = place + 1 })
    processing_one h e =
        record {
          sizes = z.sizes;
          within = omega arith;
          limited = z.limited;
          valued = z.valued;
          leads = z.leads ∙ reach_step move least bytes (number (processing (sized.product * each)) 0) place h ∙ rw e;
        }

    pub processing_refused : place < length bytes → (r : Reason) → move (number (processing (sized.product * each)) 0) (get_or bytes place 0) ≡ bad r → verdict_of bytes ≡ Refused (record { reason = r; place = place })
    unfolding led
    processing_refused h r e =
        z.leads ∙ reach_step move least bytes (number (processing (sized.product * each)) 0) place h
        ∙ ap (λ (m : Move State). verdict_behind m bytes (place + 1)) e ∙ ap (λ (p : ℕ). Refused (record { reason = r; place = p })) (omega arith)

  module _ (heading : Heading) (z : ProcessedTo bytes heading) where
    abbrev total : ℕ
    total = heading.sized.product * heading.element

    abbrev whole : Found
    whole = record { dims = heading.sized.dims; element = heading.element; start = heading.start; length = heading.start + total }

    pub array_found : heading.start + total ≤ length bytes → FoundIn bytes whole
    array_found h =
        let s = z.sizes in
        record {
          dims = rw s.counted (sym (fronts_count heading.sized.dims (front 0 bytes).behind));
          element = rw s.counted (sym z.valued);
          start = rw s.counted (ap (λ (k : ℕ). heading.start + k) (ap₂ ◌*◌ s.multiplied (sym z.valued)));
          said = z.leads ∙ body_whole bytes total heading.start h;
        }

-- ---- the whole walk

-- what was found of a whole pack is what its bytes have
found_same : (bytes : List ℕ) (found : Found) → FoundIn bytes found → Ok found ≡ walked_for bytes (Complete found.length)
found_same bytes found x =
    let e : found.start ≡ found.length - product (meaning_of bytes).sizes * (meaning_of bytes).element = omega (arith, x.start) in
    rw (x.dims, x.element, e)

-- the walk's contract admits one answer
pub walked_one : (bytes : List ℕ) (walked : Result Found Stop) → WalkFrom bytes walked → walked ≡ walked_of bytes
walked_one bytes (Ok found) x = found_same bytes found x ∙ sym (ap (walked_for bytes) x.said)
walked_one bytes (Err (StopUnfinished missing)) x = sym (ap (walked_for bytes) x)
walked_one bytes (Err (StopRefused refusal)) x = sym (ap (walked_for bytes) x)
