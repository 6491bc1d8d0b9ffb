-- The count is that of the pack's bytes, all but the array is short, and where there is room for them they are put.
use Rattle.std.proofs.Common.{ℕ, ◌+◌, ◌≡◌, ◌≤◌, ◌<◌, ◌^◌, List, length, get_or, arith}
use Rattle.verdict.proofs.Deciding.{room_missing, room_enough}
use Rattle.number.specs.Octets.{octets, numbers}
use Rattle.number.proofs.Counts.{octets_short}
use Rattle.array.specs.Meaning.{Lawful}
use Rattle.array.specs.Spelling.{bytes_of}
use Rattle.array.proofs.Decoding.{pack_length}
use Rattle.arraywriter.specs.Given.{meaning_given}
use Rattle.arraywriter.proofs.Parts.{numbers_short}
use Rattle.arraywriter.proofs.put.write_given.Goals as goal

module _ (sizes : List ℕ) (element : ℕ) (array : List ℕ) (g : Lawful (meaning_given sizes element array)) (dims all each : ℕ) (d : dims ≡ length (octets (length sizes))) (s : all ≡ length (numbers sizes)) (e : each ≡ length (octets element)) where
  -- all but the array is short
  short : ((k : ℕ) → get_or sizes k 0 < 2 ^ 64) → element < 2 ^ 64 → dims + (all + (each + 1)) ≤ 101
  short small fits = omega (arith, d, s, e, octets_short (length sizes) (omega (arith, g.few_sizes)), numbers_short sizes small, octets_short element fits, g.few_sizes)

  counted : dims + (all + (each + 1)) + length array ≡ length (bytes_of (meaning_given sizes element array))
  counted = omega (arith, d, s, e, pack_length (meaning_given sizes element array) g, g.body_count)

pub overflow_add-head : goal.overflow_add-head
overflow_add-head c =
    let a = c.args in
    omega (arith, short a.sizes.now a.element a.array.now c.requires c.count_of.result c.count_all.result c.count_of-2.result c.count_of.ensures c.count_all.ensures c.count_of-2.ensures (λ k. (c.type_inv.sizes k).fits) c.ranges.element.fits)

pub overflow_add-head-2 : goal.overflow_add-head-2
overflow_add-head-2 c =
    let a = c.args in
    omega (arith, short a.sizes.now a.element a.array.now c.requires c.count_of.result c.count_all.result c.count_of-2.result c.count_of.ensures c.count_all.ensures c.count_of-2.ensures (λ k. (c.type_inv.sizes k).fits) c.ranges.element.fits)

pub overflow_add-head-3 : goal.overflow_add-head-3
overflow_add-head-3 c =
    let a = c.args in
    omega (arith, short a.sizes.now a.element a.array.now c.requires c.count_of.result c.count_all.result c.count_of-2.result c.count_of.ensures c.count_all.ensures c.count_of-2.ensures (λ k. (c.type_inv.sizes k).fits) c.ranges.element.fits)

pub overflow_add-whole : goal.overflow_add-whole
overflow_add-whole c =
    let a = c.args in
    omega (arith, short a.sizes.now a.element a.array.now c.requires c.count_of.result c.count_all.result c.count_of-2.result c.count_of.ensures c.count_all.ensures c.count_of-2.ensures (λ k. (c.type_inv.sizes k).fits) c.ranges.element.fits, c.requires.body_count, c.requires.bytes_most)

pub returns-then-out-whole : goal.returns-then-out-whole
returns-then-out-whole c =
    let a = c.args in
    let pack = bytes_of (meaning_given a.sizes.now a.element a.array.now) in
    let there = length a.out.now in
    let count = counted a.sizes.now a.element a.array.now c.requires c.count_of.result c.count_all.result c.count_of-2.result c.count_of.ensures c.count_all.ensures c.count_of-2.ensures in
    let missing : there < length pack = omega (arith, c.if-out-whole.true, count) in
    rw c.at.ensures (room_missing pack a.out.now 0 there missing)

pub put_given-requires : goal.put_given-requires
put_given-requires c =
    let a = c.args in
    omega (arith, c.if-out-whole.false, counted a.sizes.now a.element a.array.now c.requires c.count_of.result c.count_all.result c.count_of-2.result c.count_of.ensures c.count_all.ensures c.count_of-2.ensures)

pub returns : goal.returns
returns c =
    let a = c.args in
    let pack = bytes_of (meaning_given a.sizes.now a.element a.array.now) in
    let there = length a.out.now in
    let count = counted a.sizes.now a.element a.array.now c.requires c.count_of.result c.count_all.result c.count_of-2.result c.count_of.ensures c.count_all.ensures c.count_of-2.ensures in
    let enough : length pack ≤ there = omega (arith, c.if-out-whole.false, count) in
    room_enough pack a.out.now 0 there (c.count_of.result + (c.count_all.result + (c.count_of-2.result + 1)) + length a.array.now) c.put_given.new.out enough count c.put_given.ensures
