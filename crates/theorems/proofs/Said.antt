-- From the calls to demand 3 in one step: the verdict that a call answers, by its contract as the source states it, is said of the packs, and no other is. Assumes nothing.
use mathlib.Core.Path.{sym, subst, ◌∙◌}
use contract.Lifetimes.{Lfts}
use borrow.Fn.Kinds.{Dens, res_t, ended_of}
use denote.Triple.Clauses.{AtExit}
use Rattle.verdict.specs.Says.{Bytes, Says}
use Rattle.theorems.specs.Said.{SaidAlone}
use Rattle.matrix.specs.Pack.{MatrixPack}
use Rattle.matrix.specs.Table.{Why as MatrixWhy}
use Rattle.theorems.proofs.MatrixVerdicts.{matrix_said, matrix_only}
use Rattle.matrixreader.proofs.verdict.Kinds as matrix
use Rattle.matrixreader.proofs.verdict.Reads as matrix-reads
use Rattle.array.specs.Spelling.{ArrayPack}
use Rattle.array.specs.Table.{Why as ArrayWhy}
use Rattle.theorems.proofs.ArrayVerdicts.{array_said, array_only}
use Rattle.arrayreader.proofs.verdict.Kinds as array
use Rattle.arrayreader.proofs.verdict.Reads as array-reads

-- what `matrixreader::verdict` answers, under what it is told
pub matrix_verdict_said : (κs : Lfts 1) (a : Dens κs matrix.ps) (answer : (res_t matrix.r κs).Denot) (s : AtExit (ended_of 1 matrix.ps matrix.r) κs)
    → Bytes a.0.now → matrix-reads.Post κs a answer s → SaidAlone (MatrixPack a.1.0) (MatrixWhy a.1.0) a.0.now answer
matrix_verdict_said κs a answer s b post =
    let bytes = a.0.now in
    let told = a.1.0 in
    record { said = subst (Says (MatrixPack told) (MatrixWhy told) bytes) (sym post) (matrix_said told bytes b); alone = λ other h. matrix_only told bytes b other h ∙ sym post }

-- what `arrayreader::verdict` answers
pub array_verdict_said : (κs : Lfts 1) (a : Dens κs array.ps) (answer : (res_t array.r κs).Denot) (s : AtExit (ended_of 1 array.ps array.r) κs)
    → Bytes a.0.now → array-reads.Post κs a answer s → SaidAlone ArrayPack ArrayWhy a.0.now answer
array_verdict_said κs a answer s b post =
    let bytes = a.0.now in
    record { said = subst (Says ArrayPack ArrayWhy bytes) (sym post) (array_said bytes b); alone = λ other h. array_only bytes b other h ∙ sym post }
