-- A whole pack is unpacked, and why there is none is passed on.
use Rattle.std.proofs.Common.{sym, subst}
use Rattle.verdict.specs.declared.Verdict.{Verdict}
use Rattle.verdict.specs.declared.Verdict.TheVariants.{Complete}
use Rattle.std.proofs.lemmas.Result.{err_from_is_err_and}
use Rattle.std.specs.Prelude.{Ok}
use Rattle.verdict.specs.Answers.{said}
use Rattle.matrix.specs.Meaning.{Matrix}
use Rattle.matrix.specs.Spelling.{meaning_of}
use Rattle.matrixwalk.proofs.Walking.{walk_said}
use Rattle.unpack.specs.Unpacking.{UnpackedFor}
use Rattle.unpack.proofs.Finding.{found_whole, found_meaning, unpacked_stopped}
use Rattle.unpack.proofs.unpack.Goals as goal

pub invariant_of-pack : goal.invariant_of-pack
invariant_of-pack c = record { whole = found_whole c.args.told c.args.bytes.now (λ i. (c.type_inv.bytes i).fits) c.in_ok-found.found c.in_ok-found.ensures }

pub returns : goal.returns
returns c =
    let a = c.args in
    let u = c.unpack_found in
    let found = c.in_ok-found.found in
    let is = c.in_ok-found.ensures in
    subst (λ (v : Verdict). UnpackedFor v (meaning_of a.told a.bytes.now) a.deviations.now a.coefficients.now a.marks.now (said u.result) u.new.deviations u.new.coefficients u.new.marks) (sym (walk_said a.told a.bytes.now (Ok found) is))
    (subst (λ (m : Matrix). UnpackedFor (Complete found.length) m a.deviations.now a.coefficients.now a.marks.now (said u.result) u.new.deviations u.new.coefficients u.new.marks) (found_meaning a.told a.bytes.now found is) u.ensures)

pub returns-in_err-found : goal.returns-in_err-found
returns-in_err-found c =
    let a = c.args in
    let p = err_from_is_err_and c.from_residual.result c.from_residual.ensures.1 in
    rw (p.1, p.2) (unpacked_stopped a.told a.bytes.now a.deviations.now a.coefficients.now a.marks.now c.in_err-found.field-0.0 c.in_err-found.ensures)
