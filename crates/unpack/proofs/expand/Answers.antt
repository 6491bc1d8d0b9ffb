-- A whole pack is expanded, and why there is none is passed on.
use Rattle.std.proofs.Common.{sym, subst}
use Rattle.verdict.specs.declared.Verdict.{Verdict}
use Rattle.verdict.specs.declared.Verdict.TheVariants.{Complete}
use Rattle.std.proofs.lemmas.Result.{err_from_is_err_and}
use Rattle.std.specs.Prelude.{Ok}
use Rattle.verdict.specs.Answers.{said}
use Rattle.matrix.specs.Meaning.{Matrix}
use Rattle.matrix.specs.Spelling.{meaning_of}
use Rattle.matrixwalk.proofs.Walking.{walk_said}
use Rattle.unpack.specs.Unpacking.{ExpandedFor}
use Rattle.unpack.proofs.Finding.{found_whole, found_meaning, expanded_stopped}
use Rattle.unpack.proofs.expand.Goals as goal

pub invariant_of-pack : goal.invariant_of-pack
invariant_of-pack c = record { whole = found_whole c.args.told c.args.bytes.now (λ i. (c.type_inv.bytes i).fits) c.in_ok-found.found c.in_ok-found.ensures }

pub returns : goal.returns
returns c =
    let a = c.args in
    let u = c.expand_found in
    let found = c.in_ok-found.found in
    let is = c.in_ok-found.ensures in
    subst (λ (v : Verdict). ExpandedFor v (meaning_of a.told a.bytes.now) a.words.now a.marks.now (said u.result) u.new.words u.new.marks) (sym (walk_said a.told a.bytes.now (Ok found) is))
    (subst (λ (m : Matrix). ExpandedFor (Complete found.length) m a.words.now a.marks.now (said u.result) u.new.words u.new.marks) (found_meaning a.told a.bytes.now found is) u.ensures)

pub returns-in_err-found : goal.returns-in_err-found
returns-in_err-found c =
    let a = c.args in
    let p = err_from_is_err_and c.from_residual.result c.from_residual.ensures.1 in
    rw (p.1, p.2) (expanded_stopped a.told a.bytes.now a.words.now a.marks.now c.in_err-found.field-0.0 c.in_err-found.ensures)
