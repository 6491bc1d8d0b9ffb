-- The bytes so far are put, and one more.
use Rattle.std.proofs.Common.{ℕ, ◌+◌, ◌≡◌, [], ◌∷◌, ◌++◌, length, take, get_or, set, sym, subst, length-take-le, arith}
use Rattle.std.proofs.lemmas.List.{take_more}
use Rattle.verdict.specs.Writing.{put}
use Rattle.verdict.proofs.Putting.{put_none, put_more}
use Rattle.arraywriter.proofs.put.put_bytes.Goals as goal

pub loop-i-init : goal.loop-i-init
loop-i-init c = sym (put_none c.args.out.now c.args.place)

pub loop-i-preserved : goal.loop-i-preserved
loop-i-preserved c =
    let a = c.args in
    let l = c.loop-i in
    let before = take l.i a.bytes.now in
    let byte = get_or a.bytes.now l.i 0 in
    let i : length before ≡ l.i = length-take-le l.i a.bytes.now (omega (arith, c.loop-i-test.true)) in
    rw (l.invariant, take_more a.bytes.now l.i 0 c.loop-i-test.true)
    (subst (λ (k : ℕ). set (put a.out.now a.place before) (a.place + k) byte ≡ put a.out.now a.place (before ++ (byte ∷ []))) i
    (put_more a.out.now a.place before byte (omega (arith, i, c.loop-i-test.true, c.requires))))
