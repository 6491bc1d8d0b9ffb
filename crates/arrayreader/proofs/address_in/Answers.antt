-- An index not below its size is refused, and one that is stands in the sum; the offset is that of all.
use Rattle.std.proofs.Common.{ℕ, ◌≡◌, ◌+◌, ◌*◌, ◌<◌, List, length, get_or, arith}
use Rattle.array.specs.Meaning.{most}
use Rattle.array.specs.Decoded.{meaning_of}
use Rattle.array.proofs.Offsets.{count_outside, Summed, summed_none, summed_below, summed_outside, summed_next}
use Rattle.array.proofs.Products.{product_positive}
use Rattle.arrayreader.specs.Reading.{sizes_of}
use Rattle.arrayreader.specs.Again.{SizesTo}
use Rattle.arrayreader.proofs.Answers.{sizes_there, refused_outside, offset_inside}
use Rattle.arrayreader.proofs.address_in.Goals as goal

module _ (bytes : List ℕ) (dims : ℕ) (indices : List ℕ) (z : SizesTo bytes dims 0 1) (same : length indices ≡ dims) (sizes : List ℕ) (put : sizes ≡ sizes_of (meaning_of bytes).sizes) (i sum : ℕ) (b : Summed (meaning_of bytes).sizes indices i sum) (h : i < dims) where
  -- an index has a place among the eight sizes
  there : i < 8
  there = omega (arith, z.counted, z.lawful.few_sizes)

  size_there : get_or sizes i 0 ≡ get_or (meaning_of bytes).sizes i 0
  size_there = rw put (sizes_there (meaning_of bytes).sizes i there)

  -- one index more
  next : get_or indices i 0 < get_or sizes i 0 → Summed (meaning_of bytes).sizes indices (i + 1) (sum * get_or sizes i 0 + get_or indices i 0)
  next l = summed_next (meaning_of bytes).sizes indices i sum b (omega (arith, z.counted)) (omega arith) (get_or sizes i 0) size_there l

  few : get_or indices i 0 < get_or sizes i 0 → sum * get_or sizes i 0 + get_or indices i 0 < most
  few l = omega (arith, summed_below (meaning_of bytes).sizes indices (i + 1) (sum * get_or sizes i 0 + get_or indices i 0) (next l), z.lawful.elements_most)

pub returns-then-indices-dims : goal.returns-then-indices-dims
returns-then-indices-dims c =
    let a = meaning_of c.args.bytes.now in
    let x = c.args.indices.now in
    rw c.at.ensures (refused_outside a x (count_outside a.sizes x (λ e. omega (arith, c.requires.0.counted))))

pub loop-i-init : goal.loop-i-init
loop-i-init c =
    let a = meaning_of c.args.bytes.now in
    (summed_none a.sizes c.args.indices.now (product_positive a.sizes c.requires.0.lawful.size_least))

pub returns-then-size-index : goal.returns-then-size-index
returns-then-size-index c =
    let a = meaning_of c.args.bytes.now in
    let x = c.args.indices.now in
    let l = c.loop-i in
    rw c.at-then-size-index.ensures
    (refused_outside a x (summed_outside a.sizes x l.i l.offset l.invariant (omega (arith, c.requires.0.counted)) (omega arith) _ (size_there c.args.bytes.now c.args.dims x c.requires.0 (omega arith) c.draw_again-sizes.result c.draw_again-sizes.ensures l.i l.offset l.invariant (omega arith)) c.if-size-index.true))

pub overflow_mul-offset : goal.overflow_mul-offset
overflow_mul-offset c =
    let a = c.args in
    let l = c.loop-i in
    omega (arith, few a.bytes.now a.dims a.indices.now c.requires.0 (omega arith) c.draw_again-sizes.result c.draw_again-sizes.ensures l.i l.offset l.invariant (omega arith) c.if-size-index.false)

pub overflow_add-offset : goal.overflow_add-offset
overflow_add-offset c =
    let a = c.args in
    let l = c.loop-i in
    omega (arith, few a.bytes.now a.dims a.indices.now c.requires.0 (omega arith) c.draw_again-sizes.result c.draw_again-sizes.ensures l.i l.offset l.invariant (omega arith) c.if-size-index.false)

pub loop-i-preserved : goal.loop-i-preserved
loop-i-preserved c =
    let a = c.args in
    let l = c.loop-i in
    next a.bytes.now a.dims a.indices.now c.requires.0 (omega arith) c.draw_again-sizes.result c.draw_again-sizes.ensures l.i l.offset l.invariant (omega arith) c.if-size-index.false

pub returns : goal.returns
returns c =
    let l = c.loop-i in
    offset_inside (meaning_of c.args.bytes.now) c.args.indices.now l.i l.offset c.args.element l.invariant (omega (arith, c.requires.0.counted)) (omega arith) c.requires.1
