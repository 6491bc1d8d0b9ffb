-- A sparse pack stores exactly as many coefficients as its bit vector has ones, of the bytes themselves. Assumes nothing.
use Prim.Native.Nat.{ℕ, ◌+◌, ◌*◌}
use mathlib.Core.Path.{◌≡◌, ap, sym, subst, ◌∙◌}
use mathlib.Core.Bool.{true}
use mathlib.Core.List.{List, [], ◌++◌, append-nil}
use lib.ListN.{length, take, replicate}
use lib.Seq.{take_at}
use native.Mathlib.Omega.{arith}
use Rattle.matrix.specs.declared.Fields.{Fields}
use Rattle.matrix.specs.declared.Told.{Told}
use Rattle.matrix.specs.Meaning.{Matrix, Lawful, Fits, sum}
use Rattle.matrix.specs.Spelling.{packed, spelled, bytes_of}
use Rattle.matrix.specs.Header.{header_bytes, vector_bytes, bits, fields_of, vector_in, words_from}
use Rattle.matrix.specs.Pack.{MatrixPack}
use Rattle.matrix.proofs.BitVector.{length_packed, packed_sum}
use Rattle.matrix.proofs.Header.{header_behind}
use Rattle.matrix.proofs.Decoding.{meaning_back, pack_length}
use Rattle.theorems.specs.Stored.{vector_of, ones_in, StoredBy}

vector_ones : (m : Matrix) → Lawful m → m.fields.cs ≡ true → sum (bits (packed (vector_bytes m.fields) m.marks)) ≡ sum m.marks
vector_ones m g e = packed_sum (vector_bytes m.fields) m.marks (λ i. omega (arith, g.values.mark_rule i)) (rw e (omega (arith, g.values.mark_count)))

lawful_stored : (told : Told) (m : Matrix) → Lawful m → Fits told m.fields → (fields_of told (bytes_of m)).cs ≡ true → StoredBy told (bytes_of m) m
lawful_stored told m g fits sparse =
    let f = m.fields in
    let same : fields_of told (bytes_of m) ≡ m.fields = ap (fields_of told) (sym (append-nil (bytes_of m))) ∙ ap (λ (k : Matrix). k.fields) (meaning_back told m g fits []) in
    let vector : vector_of told (bytes_of m) ≡ packed (vector_bytes f) m.marks =
    ap (λ (k : Fields). vector_in k (bytes_of m)) same ∙ ap (take (vector_bytes f)) (header_behind f (packed (vector_bytes f) m.marks ++ (spelled f.slen (replicate f.n 1) m.deviations ++ spelled f.clen m.marks m.coefficients)))
    ∙ take_at (packed (vector_bytes f) m.marks) (spelled f.slen (replicate f.n 1) m.deviations ++ spelled f.clen m.marks m.coefficients) (vector_bytes f) (length_packed (vector_bytes f) m.marks) in
    let stored : ones_in told (bytes_of m) ≡ sum m.marks = ap (λ (v : List ℕ). sum (bits v)) vector ∙ vector_ones m g (subst (λ (k : Fields). k.cs ≡ true) same sparse) in
    record {
      stored = stored;
      counted =
          subst (λ (k : Fields). length (bytes_of m) ≡ words_from k + (k.n * k.slen + ones_in told (bytes_of m) * k.clen)) (sym same)
          (pack_length m ∙ ap (λ (sent : ℕ). header_bytes f + (vector_bytes f + (f.n * f.slen + sent * f.clen))) (sym stored) ∙ omega arith);
    }

pub sparse_stored : (told : Told) (w : List ℕ) (p : MatrixPack told w) → (fields_of told w).cs ≡ true → StoredBy told w p.meaning
sparse_stored told w p sparse = subst (λ (x : List ℕ). StoredBy told x p.meaning) p.spelled (lawful_stored told p.meaning p.lawful p.fits (subst (λ (x : List ℕ). (fields_of told x).cs ≡ true) (sym p.spelled) sparse))
