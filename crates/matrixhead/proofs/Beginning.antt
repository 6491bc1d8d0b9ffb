-- What begins a matrix pack: of every string of bytes one answer is right, and it is the one that the definition names. Assumes nothing.
use Prim.Native.Nat.{ℕ, ◌+◌, ◌-◌, ◌≤◌, ◌<◌}
use mathlib.Core.Path.{◌≡◌, refl, sym, ap, ◌∙◌, subst, subst₂}
use mathlib.Core.Bool.{true, false}
use mathlib.Core.List.{List}
use native.Mathlib.Omega.{arith}
use borrow.Author.Tests.{ltb-true, ltb-false, lt-ltb, le-ltb}
use lib.Dec.{ltb}
use lib.ListN.{length, take, drop, get_or}
use lib.Seq.{take_all}
use Rattle.verdict.specs.declared.Reason.{Reason}
use Rattle.verdict.specs.declared.Verdict.{Verdict}
use Rattle.verdict.specs.declared.Verdict.TheVariants.{Complete, Unfinished, Refused}
use Rattle.verdict.specs.declared.Stop.{Stop}
use Rattle.verdict.specs.declared.Stop.TheVariants.{Unfinished as StopUnfinished, Refused as StopRefused}
use Rattle.std.specs.Prelude.{Result, Ok, Err}
use Rattle.verdict.specs.Judgement.{judgement}
use Rattle.verdict.proofs.Cases.{either}
use Rattle.verdict.proofs.Deciding.{judgement_kept}
use Rattle.verdict.proofs.Reaching.{reach_start, reach_cut}
use Rattle.verdict.proofs.Beginnings.{refused_on, refused_cut}
use Rattle.matrix.specs.declared.Fields.{Fields}
use Rattle.matrix.specs.declared.Told.{Told}
use Rattle.matrix.specs.Meaning.{sum, LawfulFirst, LawfulFields}
use Rattle.matrix.specs.Header.{header_bytes, vector_bytes, first, second, single, in_mode1, bits, fields_in, fields_of, sent_in, words_from}
use Rattle.matrix.specs.Table.{size_rows, single_rows, control1_rows, control2_rows, vector_rows}
use Rattle.matrix.specs.Machine.{size, control1, control2, in_single, in_first, step, least, all_sent_count, words_of, verdict_of}
use Rattle.matrix.specs.Reached.{verdict_at, verdict_behind}
use Rattle.matrix.proofs.ControlBytes.{size_kept}
use Rattle.matrix.proofs.Header.{header_least, header_two}
use Rattle.matrix.proofs.Judgements.{words_refused}
use Rattle.matrixhead.specs.declared.Begun.{Begun}
use Rattle.matrixhead.specs.Beginning.{before, values_of, begun_for, begun_of}
use Rattle.matrixhead.specs.Parts.{StopsBefore, Headed, HeadFrom, SentBy, SentFrom, BegunBy, BegunFrom}
use Rattle.matrixhead.proofs.Heading.{size_broken, size_next, single_step, first_step, single_fields, first_fields, single_broken, single_headed, control1_broken, control1_next, control1_lawful, control2_broken, control2_headed}
use Rattle.matrixhead.proofs.Sending.{vector_cut, vector_broken, vector_sent, all_sent}

-- ---- from the parts

-- where there is no more before a place, there is none before a later one
stops_later : (place later : ℕ) (verdict : Verdict) (bytes : List ℕ) (stop : Stop) → place ≤ later → StopsBefore place verdict bytes stop → StopsBefore later verdict bytes stop
stops_later place later verdict bytes (StopUnfinished missing) h x = (x.0, omega (arith, h, x.1))
stops_later place later verdict bytes (StopRefused refusal) h x = (x.0, omega (arith, h, x.1))

module _ (told : Told) (bytes : List ℕ) where
  pub head_stops : (stop : Stop) → HeadFrom (verdict_of told bytes) (fields_of told bytes) bytes (Err stop) → BegunFrom told bytes (Err stop)
  head_stops stop = stops_later (header_bytes (fields_of told bytes)) (before told bytes) (verdict_of told bytes) bytes stop (omega arith)

  -- behind the header of these fields
  module _ (f : Fields) (h : Headed (verdict_of told bytes) (fields_of told bytes) bytes f) where
    pub sent_stops : (stop : Stop) → SentFrom bytes f (Err stop) → BegunFrom told bytes (Err stop)
    sent_stops stop x = subst₂ (λ (place : ℕ) (verdict : Verdict). StopsBefore place verdict bytes stop) (ap words_from h.same) (sym h.leads) x

    pub values_begun : (words sent : ℕ) → words ≡ words_from f → SentBy bytes f sent → BegunBy told bytes f words sent
    values_begun words sent w x =
        record {
          same = h.same;
          lawful = h.lawful;
          start = w;
          within = omega (arith, w, x.within);
          counted = x.counted;
          marked = x.marked;
          leads = rw w (h.leads ∙ x.leads);
        }

-- ---- one answer at most

module _ (told : Told) (bytes : List ℕ) where
  -- what was found is what the bytes have
  values_same : (begun : Begun) → BegunFrom told bytes (Ok begun) → begun ≡ values_of told bytes
  values_same begun x =
      let e = x.same in
      let w : begun.words ≡ before told bytes = x.start ∙ ap words_from e in
      let s : begun.sent ≡ sent_in (fields_of told bytes) bytes = x.marked ∙ ap (λ (g : Fields). sent_in g bytes) e in
      same begun.fields begun.words begun.sent e w s
    where
      same : (f : Fields) (words sent : ℕ) → f ≡ fields_of told bytes → words ≡ before told bytes → sent ≡ sent_in (fields_of told bytes) bytes → record { fields = f; words = words; sent = sent } ≡ values_of told bytes
      same f words sent e w s = rw (e, w, s)

  -- and nothing before the words is refused
  values_one : (begun : Begun) → BegunFrom told bytes (Ok begun) → (v : Verdict) → verdict_of told (take (before told bytes) bytes) ≡ v → Ok begun ≡ begun_for told bytes false v
  values_one begun x (Complete n) e = ap Ok (values_same begun x)
  values_one begun x (Unfinished missing) e = ap Ok (values_same begun x)
  values_one begun x (Refused refusal) e =
      let r = refused_on step least (before told bytes) bytes (size told) refusal e in
      let w : begun.words ≡ before told bytes = x.start ∙ ap words_from x.same in
      absurd (omega (arith, w, r.1, words_refused (words_of begun.fields begun.sent) bytes begun.words refusal (sym x.leads ∙ r.0)))

  pub begun_one : (begun : Result Begun Stop) → BegunFrom told bytes begun → begun ≡ begun_of told bytes
  begun_one (Ok begun) x =
      let w : begun.words ≡ before told bytes = x.start ∙ ap words_from x.same in
      rw (le-ltb (length bytes) (before told bytes) (omega (arith, w, x.within))) (values_one begun x (verdict_of told (take (before told bytes) bytes)) refl)
  begun_one (Err (StopUnfinished missing)) x = rw (lt-ltb (length bytes) (before told bytes) x.1, take_all (before told bytes) bytes (omega (arith, x.1)), x.0)
  begun_one (Err (StopRefused refusal)) x = rw (refused_cut step least (before told bytes) bytes (size told) refusal x.0 x.1)

-- ---- one answer at least

by_judged : {P : Type 0} (j : Result Unit Reason) → (j ≡ Ok tt → P) → ((reason : Reason) → j ≡ Err reason → P) → P
by_judged (Ok tt) k b = k refl
by_judged (Err reason) k b = b reason refl

module _ (bytes : List ℕ) where
  abbrev Heads : Verdict → Fields → Type 0
  Heads v fields = (h : Result Fields Stop) × HeadFrom v fields bytes h

  control2_some : (f : Fields) → 2 ≤ length bytes → f.mode1 ≡ false → LawfulFirst f → Heads (verdict_at (control2 f) bytes 2) (second f (get_or bytes 2 0))
  control2_some f h two lawful =
      let d = get_or bytes 2 0 in
      let three = header_two (second f d) two in
      either (ltb 2 (length bytes))
      (λ t.
      let here : 2 < length bytes = ltb-true 2 (length bytes) t in
      by_judged (judgement (control2_rows (second f d) d))
      (λ e. (Ok (second f d), control2_headed bytes f (second f d) d here refl refl two lawful e))
      (λ reason e. (Err (StopRefused (record { reason = reason; place = 2 })), (control2_broken bytes f (second f d) d here refl refl two reason e, omega (arith, three)))))
      (λ t.
      let cut : length bytes ≤ 2 = ltb-false 2 (length bytes) t in
      (Err (StopUnfinished (least (control2 f))), (reach_cut step least bytes (control2 f) 2 cut, omega (arith, cut, three))))

  first_some : (f : Fields) (c : ℕ) → 2 ≤ length bytes → f.mode1 ≡ false → (1 ≤ f.n) × (f.n ≤ 64) → Heads (verdict_behind (in_first f c) bytes 2) (second f (get_or bytes 2 0))
  first_some f c h two sized =
      let fields = second f (get_or bytes 2 0) in
      by_judged (judgement (control1_rows f c))
      (λ e. subst (λ (v : Verdict). Heads v fields) (sym (control1_next bytes f c e)) (control2_some f h two (control1_lawful bytes f c sized.0 sized.1 e)))
      (λ reason e. (Err (StopRefused (record { reason = reason; place = 1 })), (control1_broken bytes f c reason e, omega (arith, header_least fields))))

  single_some : (f : Fields) → 2 ≤ length bytes → f.mode1 ≡ true → (1 ≤ f.n) × (f.n ≤ 64) → Heads (verdict_behind (in_single f) bytes 2) f
  single_some f h one sized =
      by_judged (judgement (single_rows f))
      (λ e. (Ok f, single_headed bytes f h one sized.0 sized.1 e))
      (λ reason e. (Err (StopRefused (record { reason = reason; place = 1 })), (single_broken bytes f h one reason e, omega (arith, header_least f))))

module _ (told : Told) (bytes : List ℕ) where
  control1_some : (n : ℕ) → 1 ≤ length bytes → (1 ≤ n) × (n ≤ 64) → Heads bytes (verdict_at (control1 told n) bytes 1) (fields_in told n (get_or bytes 1 0) (get_or bytes 2 0))
  control1_some n h sized =
      let c = get_or bytes 1 0 in
      let d = get_or bytes 2 0 in
      either (ltb 1 (length bytes))
      (λ t.
      let here : 1 < length bytes = ltb-true 1 (length bytes) t in
      either (in_mode1 told c)
      (λ e. subst₂ (Heads bytes) (sym (single_step told bytes n c here refl e)) (single_fields told bytes n c here refl d e) (single_some bytes (single told n c) here refl sized))
      (λ e. subst₂ (Heads bytes) (sym (first_step told bytes n c here refl e)) (first_fields told bytes n c here refl d e) (first_some bytes (first n c) c here refl sized)))
      (λ t.
      let cut : length bytes ≤ 1 = ltb-false 1 (length bytes) t in
      (Err (StopUnfinished (least (control1 told n))), (reach_cut step least bytes (control1 told n) 1 cut, omega (arith, cut, header_least (fields_in told n c d)))))

  head_some : Heads bytes (verdict_of told bytes) (fields_of told bytes)
  head_some =
      let fields = fields_of told bytes in
      either (ltb 0 (length bytes))
      (λ t.
      let here : 0 < length bytes = ltb-true 0 (length bytes) t in
      let n = get_or bytes 0 0 in
      by_judged (judgement (size_rows n))
      (λ e. subst (λ (v : Verdict). Heads bytes v fields) (sym (size_next told bytes n here refl e)) (control1_some n here (size_kept n (judgement_kept (size_rows n) e))))
      (λ reason e. (Err (StopRefused (record { reason = reason; place = 0 })), (size_broken told bytes n here refl reason e, omega (arith, header_least fields)))))
      (λ t.
      let cut : length bytes ≤ 0 = ltb-false 0 (length bytes) t in
      (Err (StopUnfinished (least (size told))), (sym (reach_start step least bytes (size told)) ∙ reach_cut step least bytes (size told) 0 cut, omega (arith, cut, header_least fields))))

module _ (bytes : List ℕ) where
  vector_some : (f : Fields) → LawfulFields f → f.cs ≡ true → header_bytes f ≤ length bytes → (s : Result ℕ Stop) × SentFrom bytes f s
  vector_some f g sparse h =
      let count = vector_bytes f in
      let there = length bytes - header_bytes f in
      either (ltb there count)
      (λ t.
      let cut : there < count = ltb-true there count t in
      (Err (StopUnfinished _), (vector_cut f g sparse count refl bytes (header_bytes f) refl there (sum (bits (take there (drop (header_bytes f) bytes)))) (omega arith) cut refl, omega (arith, cut))))
      (λ t.
      let whole : count ≤ there = ltb-false there count t in
      let last = header_bytes f + count - 1 in
      let sent = sum (bits (take count (drop (header_bytes f) bytes))) in
      let b = get_or bytes last 0 in
      let ends : last + 1 ≡ header_bytes f + count = omega (arith, header_least f) in
      let here : last < length bytes = omega (arith, whole, header_least f) in
      by_judged (judgement (vector_rows f sent b))
      (λ e. (Ok sent, vector_sent f g sparse count refl bytes (header_bytes f) refl sent last b ends here refl refl e))
      (λ reason e. (Err (StopRefused (record { reason = reason; place = last })), (vector_broken f g sparse count refl bytes (header_bytes f) refl sent last b ends here refl refl reason e, omega (arith, ends)))))

  sent_some : (f : Fields) → LawfulFields f → header_bytes f ≤ length bytes → (s : Result ℕ Stop) × SentFrom bytes f s
  sent_some f g h = either f.cs (λ sparse. vector_some f g sparse h) (λ full. (Ok (all_sent_count f), all_sent f bytes (all_sent_count f) g full h refl))

module _ (told : Told) (bytes : List ℕ) where
  begun_some : (begun : Result Begun Stop) × BegunFrom told bytes begun
  begun_some = let h = head_some told bytes in behind h.0 h.1
    where
      values : (f : Fields) → Headed (verdict_of told bytes) (fields_of told bytes) bytes f → (s : Result ℕ Stop) → SentFrom bytes f s → (begun : Result Begun Stop) × BegunFrom told bytes begun
      values f x (Ok sent) y = (Ok (record { fields = f; words = words_from f; sent = sent }), values_begun told bytes f x (words_from f) sent refl y)
      values f x (Err stop) y = (Err stop, sent_stops told bytes f x stop y)

      behind : (h : Result Fields Stop) → HeadFrom (verdict_of told bytes) (fields_of told bytes) bytes h → (begun : Result Begun Stop) × BegunFrom told bytes begun
      behind (Ok f) x = let s = sent_some bytes f x.lawful x.within in values f x s.0 s.1
      behind (Err stop) x = (Err stop, head_stops told bytes stop x)

  -- what the answer says of the verdict on all the bytes
  pub begun_from : (begun : Result Begun Stop) → begun ≡ begun_of told bytes → BegunFrom told bytes begun
  begun_from begun e = subst (BegunFrom told bytes) (begun_one told bytes begun_some.0 begun_some.1 ∙ sym e) begun_some.1
