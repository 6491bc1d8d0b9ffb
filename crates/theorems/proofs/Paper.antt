-- The number that C gets is document 01's: of every call, the number is `paper_of` of its answer, and no field of it is held at its greatest. Assumes nothing.
use Prim.Native.Nat.{ℕ, ◌+◌, ◌*◌, ◌^◌, ◌≤◌, ◌<◌}
use mathlib.Core.Path.{◌≡◌, refl, sym, subst, ◌∙◌}
use mathlib.Core.Bool.{Bool, true, false}
use mathlib.Core.List.{List, [], ◌∷◌}
use native.Mathlib.Nat.{mul-le-mul_right}
use native.Mathlib.Omega.{arith}
use contract.Lifetimes.{Lfts}
use borrow.Fn.Kinds.{Dens, res_t, ended_of}
use denote.Triple.Clauses.{AtExit}
use lib.Dec.{eqb, ltb}
use lib.ListN.{length, take, drop, length-append}
use lib.Seq.{length-take-le}
use Rattle.verdict.specs.declared.Reason.{Reason}
use Rattle.verdict.specs.declared.Reason.TheVariants.{Index, Disagree, LengthDiffers, FrameShort, FrameLong}
use Rattle.verdict.specs.declared.Verdict.{Verdict}
use Rattle.verdict.specs.declared.Verdict.TheVariants.{Complete, Unfinished, Refused}
use Rattle.verdict.specs.Says.{Bytes, Says}
use Rattle.verdict.specs.Rows.{Row}
use Rattle.verdict.specs.Numbers.{Occurs}
use Rattle.verdict.specs.Writing.{refusing, decided}
use Rattle.verdict.proofs.Cases.{by_test}
use Rattle.verdict.proofs.Judging.{Kept}
use Rattle.verdict.proofs.Deciding.{both_kept}
use Rattle.verdict.proofs.Numbered.{packed_is_paper}
use Rattle.word.proofs.Digits.{below_drop}
use Rattle.matrix.specs.Meaning.{stating}
use Rattle.matrix.specs.Spelling.{bytes_of as matrixBytes}
use Rattle.matrix.specs.Machine.{verdict_of as matrixVerdict}
use Rattle.theorems.proofs.MatrixVerdicts.{matrix_said}
use Rattle.matrix.proofs.Lengths.{matrix_short}
use Rattle.array.specs.Meaning.{product}
use Rattle.array.specs.Spelling.{bytes_of as arrayBytes}
use Rattle.array.specs.Decoded.{meaning_of}
use Rattle.array.specs.Offsets.{inside, offset}
use Rattle.array.specs.Machine.{verdict_of as arrayVerdict}
use Rattle.theorems.proofs.ArrayVerdicts.{array_said}
use Rattle.array.proofs.Lengths.{array_short}
use Rattle.array.proofs.Complete.{complete_meaning}
use Rattle.array.proofs.Offsets.{offset_below}
use Rattle.verdict.specs.declared.Stop.{Stop}
use Rattle.verdict.specs.declared.Stop.TheVariants.{Refused as StopRefused}
use Rattle.verdict.specs.Answers.{said}
use Rattle.arrayreader.specs.Reading.{address_for}
use Rattle.verdict.specs.Lent.{said_for}
use Rattle.matrixcheck.specs.Given.{meaning_given as matrixGiven}
use Rattle.matrixwriter.specs.Writing.{writer_rows as matrixRows}
use Rattle.theorems.proofs.MatrixTrip.{writer_accepts as matrix-accepts}
use Rattle.arraywriter.specs.Given.{meaning_given as arrayGiven}
use Rattle.theorems.proofs.ArrayRoundTrip.{writer_accepts as array-accepts}
use Rattle.outcome.specs.declared.Kind.{Kind}
use Rattle.outcome.specs.declared.Kind.TheVariants.{Matrix, Array, Unknown}
use Rattle.outcome.specs.declared.Outcome.{Outcome}
use Rattle.outcome.specs.declared.Outcome.TheVariants.{Ok, Cut, Bad, Open}
use Rattle.outcome.specs.declared.FrameAnswer.{FrameAnswer}
use Rattle.outcome.specs.Refusing.{refusing as refusingFrame}
use Rattle.std.specs.Prelude.{Result, Ok as ResultOk, Err}
use Rattle.berlength.specs.declared.Length.{Length}
use Rattle.berlength.specs.declared.NoLength.{NoLength}
use Rattle.berlength.specs.declared.NoLength.TheVariants.{Missing, WrongForm}
use Rattle.berlength.specs.Lengths.{length_of}
use Rattle.frame.specs.Frame.{longest, kind_of, outcome_of, value_answer, length_answer, key_answer, answer_of}
use Rattle.theorems.specs.Paper.{PaperBy}
use Rattle.listing.specs.Packed.{PackedBy}
use Rattle.cmatrix.specs.Format.{told_by, verdict_by, UnpackedUnder, ExpandedUnder}
use Rattle.cmatrix.specs.Fields.{FieldsBy}
use Rattle.cmatrix.specs.Writing.{fields_given, number_rows, MatrixWritten}
use Rattle.carray.specs.Addressed.{addressed_of}
use Rattle.carray.specs.Numbers.{NumbersBy}
use Rattle.carray.specs.Writing.{ArrayWritten}
use Rattle.cframe.specs.Said.{said_of}
use Rattle.cwords.specs.Scaling.{scale_rows, ScaledInto}
use Rattle.cmatrix.proofs.matrix_verdict.Kinds as matrix-verdict
use Rattle.cmatrix.proofs.matrix_verdict.Reads as matrix-verdict-reads
use Rattle.carray.proofs.array_verdict.Kinds as array-verdict
use Rattle.carray.proofs.array_verdict.Reads as array-verdict-reads
use Rattle.cmatrix.proofs.matrix_fields.Kinds as matrix-fields
use Rattle.cmatrix.proofs.matrix_fields.Reads as matrix-fields-reads
use Rattle.cmatrix.proofs.matrix_unpack.Kinds as matrix-unpack
use Rattle.cmatrix.proofs.matrix_unpack.Reads as matrix-unpack-reads
use Rattle.cmatrix.proofs.matrix_expand.Kinds as matrix-expand
use Rattle.cmatrix.proofs.matrix_expand.Reads as matrix-expand-reads
use Rattle.cmatrix.proofs.matrix_write.Kinds as matrix-write
use Rattle.cmatrix.proofs.matrix_write.Reads as matrix-write-reads
use Rattle.carray.proofs.array_fields.Kinds as array-fields
use Rattle.carray.proofs.array_fields.Reads as array-fields-reads
use Rattle.carray.proofs.array_address.Kinds as array-address
use Rattle.carray.proofs.array_address.Reads as array-address-reads
use Rattle.carray.proofs.array_write.Kinds as array-write
use Rattle.carray.proofs.array_write.Reads as array-write-reads
use Rattle.cframe.proofs.frame_verdict.Kinds as frame-verdict
use Rattle.cframe.proofs.frame_verdict.Reads as frame-verdict-reads
use Rattle.cwords.proofs.matrix_scale.Kinds as matrix-scale
use Rattle.cwords.proofs.matrix_scale.Reads as matrix-scale-reads

paper_by : (May : Verdict → Type 0) (number : ℕ) → PackedBy May number → ((answer : Verdict) → May answer → Occurs answer) → PaperBy May number
paper_by May number p occurs =
    let o = occurs p.answer p.given in
    record { answer = p.answer; given = p.given; paper = p.packed ∙ packed_is_paper p.answer o; within = o }

-- ---- what occurs

-- a verdict that is said of packs shorter than 65,536 bytes
said_occurs : (Pack : List ℕ → Type 0) (Why : List ℕ → Reason → Type 0) → ((w : List ℕ) → Pack w → length w < 65536) → (bytes : List ℕ) (v : Verdict) → Says Pack Why bytes v → Occurs v
said_occurs Pack Why short bytes (Complete n) s = omega (arith, short (take n bytes) s.pack, length-take-le n bytes s.within)
said_occurs Pack Why short bytes (Unfinished m) s = omega (arith, short _ s.finished, length-append bytes s.ending, s.ending_count)
said_occurs Pack Why short bytes (Refused r) s =
    omega (arith, short _ s.before, length-append (take r.place bytes) s.ending, length-take-le r.place bytes (omega (arith, s.within)))

matrix_occurs : (format : ℕ) (bytes : List ℕ) → Bytes bytes → Occurs (verdict_by format bytes)
matrix_occurs format bytes b =
    let told = told_by format in
    by_test Occurs (ltb 1 format) (refusing Disagree) (matrixVerdict told bytes) (λ e. omega arith) (λ e. said_occurs _ _ (λ w p. omega (arith, matrix_short told w p)) bytes (matrixVerdict told bytes) (matrix_said told bytes b))

array_occurs : (bytes : List ℕ) → Bytes bytes → Occurs (arrayVerdict bytes)
array_occurs bytes b = said_occurs _ _ (λ w p. omega (arith, array_short w p)) bytes (arrayVerdict bytes) (array_said bytes b)

-- then 13
room_occurs : (v : Verdict) (short : Bool) → Occurs v → Occurs (said_for v short)
room_occurs (Complete n) true h = omega arith
room_occurs (Complete n) false h = h
room_occurs (Unfinished m) short h = h
room_occurs (Refused r) short h = h

-- a writer's answer, where its rules keep its count within the field
written_occurs : (rows : List Row) (count : ℕ) → (Kept rows → count < 2 ^ 32) → Occurs (decided rows (Complete count))
unfolding decided
written_occurs [] count h = h tt
written_occurs (row ∷ rows) count h = by_test Occurs row.broken (refusing row.reason) (decided rows (Complete count)) (λ e. omega arith) (λ e. written_occurs rows count (λ k. h (e, k)))

-- an offset is below the length of its array
address_occurs : (bytes indices : List ℕ) → Bytes bytes → (v : Verdict) → arrayVerdict bytes ≡ v → Occurs v → Occurs (said (address_for bytes indices v))
address_occurs bytes indices b (Complete end) e h =
    let a = meaning_of bytes in
    let g = (complete_meaning bytes b end e).0 in
    by_test (λ (x : Result ℕ Stop). Occurs (said x)) (inside a.sizes indices) (ResultOk (offset a.sizes indices * a.element)) (Err (StopRefused (record { reason = Index; place = 0 })))
    (λ t. let most : offset a.sizes indices * a.element ≤ product a.sizes * a.element = mul-le-mul_right a.element (omega (arith, offset_below a.sizes indices t)) in omega (arith, most, g.bytes_most))
    (λ t. omega arith)
address_occurs bytes indices b (Unfinished missing) e h = h
address_occurs bytes indices b (Refused refusal) e h = h

-- a frame's outcome, which is never open, is within its fields
abbrev pub Within : Outcome → Type 0
Within (Ok n) = n < 2 ^ 32
Within (Cut missing) = missing < 2 ^ 32
Within (Bad refusal) = refusal.place < 65536
Within Open = ⊥

abbrev WithinAnswer : FrameAnswer → Type 0
WithinAnswer answer = Within answer.outcome

outcome_within : (v : Verdict) (count : ℕ) → Occurs v → Within (outcome_of v count)
outcome_within (Complete n) count h = by_test Within (eqb n count) (Ok n) (Bad (record { reason = LengthDiffers; place = 0 })) (λ t. h) (λ t. omega arith)
outcome_within (Unfinished missing) count h = h
outcome_within (Refused refusal) count h = h

value_within : (kind : Kind) (value : List ℕ) → Bytes value → WithinAnswer (value_answer kind value)
value_within Matrix value b = outcome_within (matrixVerdict (stating false) value) (length value) (matrix_occurs 0 value b)
value_within Array value b = outcome_within (arrayVerdict value) (length value) (array_occurs value b)
value_within Unknown value b = omega arith

length_within : (kind : Kind) (found : Result Length NoLength) (w : List ℕ) → Bytes w → WithinAnswer (length_answer kind found w)
length_within kind (Err Missing) w b = omega arith
length_within kind (Err WrongForm) w b = omega arith
length_within kind (ResultOk stated) w b =
    by_test WithinAnswer (eqb (length w) (stated.octets + stated.value)) (value_answer kind (drop stated.octets w)) (refusingFrame kind LengthDiffers)
    (λ t. value_within kind (drop stated.octets w) (below_drop stated.octets w b)) (λ t. omega arith)

key_within : (kind : Kind) (w : List ℕ) → Bytes w → WithinAnswer (key_answer kind w)
key_within Matrix w b = length_within Matrix (length_of w) w b
key_within Array w b = length_within Array (length_of w) w b
key_within Unknown w b = omega arith

pub frame_within : (w : List ℕ) → Bytes w → Within (answer_of w).outcome
frame_within w b =
    by_test WithinAnswer (ltb longest (length w)) (refusingFrame Unknown FrameLong) _ (λ t. omega arith)
    (λ t. by_test WithinAnswer (ltb (length w) 16) (refusingFrame Unknown FrameShort) (key_answer (kind_of (take 16 w)) (drop 16 w)) (λ s. omega arith) (λ s. key_within (kind_of (take 16 w)) (drop 16 w) (below_drop 16 w b)))

pub within_occurs : (o : Outcome) → Within o → Occurs (said_of o)
within_occurs (Ok n) h = h
within_occurs (Cut missing) h = h
within_occurs (Bad refusal) h = h
within_occurs Open h = absurd h

-- ---- of each call

pub matrix_verdict_paper : (κs : Lfts 1) (a : Dens κs matrix-verdict.ps) (number : (res_t matrix-verdict.r κs).Denot) (s : AtExit (ended_of 1 matrix-verdict.ps matrix-verdict.r) κs) → Bytes a.0.now
    → matrix-verdict-reads.Post κs a number s → PaperBy (λ answer. answer ≡ verdict_by a.1.0 a.0.now) number
matrix_verdict_paper κs a number s b post =
    paper_by _ number (record { answer = verdict_by a.1.0 a.0.now; given = refl; packed = post }) (λ answer e. subst Occurs (sym e) (matrix_occurs a.1.0 a.0.now b))

pub array_verdict_paper : (κs : Lfts 1) (a : Dens κs array-verdict.ps) (number : (res_t array-verdict.r κs).Denot) (s : AtExit (ended_of 1 array-verdict.ps array-verdict.r) κs) → Bytes a.0.now
    → array-verdict-reads.Post κs a number s → PaperBy (λ answer. answer ≡ arrayVerdict a.0.now) number
array_verdict_paper κs a number s b post =
    paper_by _ number (record { answer = arrayVerdict a.0.now; given = refl; packed = post }) (λ answer e. subst Occurs (sym e) (array_occurs a.0.now b))

pub array_address_paper : (κs : Lfts 2) (a : Dens κs array-address.ps) (number : (res_t array-address.r κs).Denot) (s : AtExit (ended_of 2 array-address.ps array-address.r) κs) → Bytes a.0.now
    → array-address-reads.Post κs a number s → PaperBy (λ answer. answer ≡ addressed_of a.0.now a.1.0.now) number
array_address_paper κs a number s b post =
    let bytes = a.0.now in
    let indices = a.1.0.now in
    paper_by _ number (record { answer = addressed_of bytes indices; given = refl; packed = post })
    (λ answer e. subst Occurs (sym e) (address_occurs bytes indices b (arrayVerdict bytes) refl (array_occurs bytes b)))

pub matrix_fields_paper : (κs : Lfts 2) (a : Dens κs matrix-fields.ps) (number : (res_t matrix-fields.r κs).Denot) (s : AtExit (ended_of 2 matrix-fields.ps matrix-fields.r) κs) → Bytes a.0.now
    → matrix-fields-reads.Post κs a number s → PaperBy (λ answer. FieldsBy a.1.0 a.0.now a.1.1.0.now answer s.1.1.0.now) number
matrix_fields_paper κs a number s b post = paper_by _ number post (λ answer m. subst Occurs (sym m.said) (room_occurs (verdict_by a.1.0 a.0.now) _ (matrix_occurs a.1.0 a.0.now b)))

pub array_fields_paper : (κs : Lfts 2) (a : Dens κs array-fields.ps) (number : (res_t array-fields.r κs).Denot) (s : AtExit (ended_of 2 array-fields.ps array-fields.r) κs) → Bytes a.0.now
    → array-fields-reads.Post κs a number s → PaperBy (λ answer. NumbersBy a.0.now a.1.0.now answer s.1.0.now) number
array_fields_paper κs a number s b post = paper_by _ number post (λ answer m. subst Occurs (sym m.said) (room_occurs (arrayVerdict a.0.now) _ (array_occurs a.0.now b)))

pub matrix_unpack_paper : (κs : Lfts 4) (a : Dens κs matrix-unpack.ps) (number : (res_t matrix-unpack.r κs).Denot) (s : AtExit (ended_of 4 matrix-unpack.ps matrix-unpack.r) κs) → Bytes a.0.now
    → matrix-unpack-reads.Post κs a number s
    → PaperBy (λ answer. UnpackedUnder a.1.0 a.0.now a.1.1.0.now a.1.1.1.0.now a.1.1.1.1.0.now answer s.1.1.0.now s.1.1.1.0.now s.1.1.1.1.0.now) number
matrix_unpack_paper κs a number s b post = paper_by _ number post (λ answer m. subst Occurs (sym m.said) (room_occurs (verdict_by a.1.0 a.0.now) _ (matrix_occurs a.1.0 a.0.now b)))

pub matrix_expand_paper : (κs : Lfts 3) (a : Dens κs matrix-expand.ps) (number : (res_t matrix-expand.r κs).Denot) (s : AtExit (ended_of 3 matrix-expand.ps matrix-expand.r) κs) → Bytes a.0.now
    → matrix-expand-reads.Post κs a number s → PaperBy (λ answer. ExpandedUnder a.1.0 a.0.now a.1.1.0.now a.1.1.1.0.now answer s.1.1.0.now s.1.1.1.0.now) number
matrix_expand_paper κs a number s b post = paper_by _ number post (λ answer m. subst Occurs (sym m.said) (room_occurs (verdict_by a.1.0 a.0.now) _ (matrix_occurs a.1.0 a.0.now b)))

pub matrix_write_paper : (κs : Lfts 5) (a : Dens κs matrix-write.ps) (number : (res_t matrix-write.r κs).Denot) (s : AtExit (ended_of 5 matrix-write.ps matrix-write.r) κs)
    → matrix-write-reads.Post κs a number s
    → PaperBy (λ answer. MatrixWritten a.1.0 a.0.now a.1.1.0.now a.1.1.1.0.now a.1.1.1.1.0.now a.1.1.1.1.1.0.now answer s.1.1.1.1.1.0.now) number
matrix_write_paper κs a number s post =
    let format = a.1.0 in
    let mapped = eqb format 1 in
    let f = fields_given a.0.now in
    let ds = a.1.1.0.now in
    let cs = a.1.1.1.0.now in
    let ms = a.1.1.1.1.0.now in
    let out = a.1.1.1.1.1.0.now in
    let given = matrixGiven f ds cs ms in
    paper_by _ number post
    (λ answer m.
    subst Occurs (sym m.said)
    (written_occurs _ _
    (λ k. let g = (matrix-accepts mapped f ds cs ms out).0 (both_kept (number_rows format a.0.now) (matrixRows mapped f ds cs ms out) k).1 in
    omega (arith, matrix_short (stating mapped) (matrixBytes given) (record { meaning = given; lawful = g.1.0; fits = g.1.1.0; spelled = refl })))))

pub array_write_paper : (κs : Lfts 3) (a : Dens κs array-write.ps) (number : (res_t array-write.r κs).Denot) (s : AtExit (ended_of 3 array-write.ps array-write.r) κs) → Bytes a.1.1.0.now
    → array-write-reads.Post κs a number s → PaperBy (λ answer. ArrayWritten a.0.now a.1.0 a.1.1.0.now a.1.1.1.0.now answer s.1.1.1.0.now) number
array_write_paper κs a number s b post =
    let given = arrayGiven a.0.now a.1.0 a.1.1.0.now in
    paper_by _ number post
    (λ answer m.
    subst Occurs (sym m.said)
    (written_occurs _ _
    (λ k. let g = (array-accepts a.0.now a.1.0 a.1.1.0.now a.1.1.1.0.now b).0 k in
    omega (arith, array_short (arrayBytes given) (record { meaning = given; lawful = g.0; spelled = refl })))))

pub frame_verdict_paper : (κs : Lfts 2) (a : Dens κs frame-verdict.ps) (number : (res_t frame-verdict.r κs).Denot) (s : AtExit (ended_of 2 frame-verdict.ps frame-verdict.r) κs) → Bytes a.0.now
    → frame-verdict-reads.Post κs a number s → PaperBy (λ answer. answer ≡ said_of (answer_of a.0.now).outcome) number
frame_verdict_paper κs a number s b post =
    let outcome = (answer_of a.0.now).outcome in
    paper_by _ number (record { answer = said_of outcome; given = refl; packed = post.said }) (λ answer e. subst Occurs (sym e) (within_occurs outcome (frame_within a.0.now b)))

-- of fewer than 2^32 words
pub matrix_scale_paper : (κs : Lfts 2) (a : Dens κs matrix-scale.ps) (number : (res_t matrix-scale.r κs).Denot) (s : AtExit (ended_of 2 matrix-scale.ps matrix-scale.r) κs) → length a.0.now < 2 ^ 32
    → matrix-scale-reads.Post κs a number s → PaperBy (λ answer. ScaledInto a.0.now a.1.0 a.1.1.0.now answer s.1.1.0.now) number
matrix_scale_paper κs a number s few post = paper_by _ number post (λ answer m. subst Occurs (sym m.said) (written_occurs (scale_rows a.1.0 a.0.now (length a.1.1.0.now)) _ (λ k. few)))
