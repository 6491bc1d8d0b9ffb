-- An array through the calls, by their contracts as the source states them: what `read` answers is written again byte for byte, and what was written is read and addressed again. Assumes nothing.
use Prim.Native.Nat.{ℕ, ◌+◌, ◌-◌, ◌*◌, ◌≤◌}
use mathlib.Core.Path.{◌≡◌, refl, sym, ap, ap₂, subst, ◌∙◌}
use mathlib.Core.Bool.{true}
use mathlib.Core.List.{List, [], ◌∷◌, ◌++◌, append_assoc}
use native.Mathlib.Nat.{mul-le-mul_right}
use native.Mathlib.Omega.{arith}
use contract.Lifetimes.{Lfts}
use borrow.Fn.Kinds.{Dens, res_t, ended_of}
use denote.Triple.Clauses.{AtExit}
use lib.ListN.{length, take, drop, length-append, length-drop, take-append-drop}
use lib.Seq.{slice, length-slice, length-take-le, take_at, drop_at, drop-drop, take-append-le, drop-append-le}
use Rattle.std.specs.Prelude.{Ok}
use Rattle.verdict.specs.declared.Verdict.{Verdict}
use Rattle.verdict.specs.Answers.{written}
use Rattle.verdict.specs.declared.Verdict.TheVariants.{Complete, Unfinished, Refused}
use Rattle.verdict.specs.Says.{Bytes, Says}
use Rattle.verdict.specs.Writing.{WrittenBy}
use Rattle.verdict.proofs.Deciding.{written_complete}
use Rattle.number.specs.Octets.{octets, numbers}
use Rattle.array.specs.Meaning.{Array as Meant, product, Lawful}
use Rattle.array.specs.Spelling.{bytes_of, ArrayPack}
use Rattle.array.specs.Decoded.{meaning_of}
use Rattle.array.specs.Offsets.{inside, offset}
use Rattle.array.specs.Table.{Why}
use Rattle.array.specs.Machine.{verdict_of}
use Rattle.theorems.proofs.ArrayVerdicts.{array_said, array_complete, array_only}
use Rattle.array.proofs.Decoding.{meaning_back}
use Rattle.array.proofs.Complete.{complete_meaning, complete_count}
use Rattle.array.proofs.Offsets.{offset_below}
use Rattle.arrayreader.specs.declared.ArrayRead.{ArrayRead}
use Rattle.arrayreader.specs.Reading.{sizes_of, array_at, array_read_for, array_read_of, address_in, address_for, address_of}
use Rattle.theorems.specs.ArrayTrip.{sizes_listed, array_read, ReadAs, ReadSays, WrittenAgain, ReadAgain, AddressedAs}
use Rattle.arrayreader.proofs.read.Kinds as read
use Rattle.arrayreader.proofs.read.Reads as read-reads
use Rattle.arrayreader.proofs.address.Kinds as address
use Rattle.arrayreader.proofs.address.Reads as address-reads
use Rattle.arraywriter.specs.Given.{meaning_given, writer_rows}
use Rattle.theorems.proofs.ArrayRoundTrip.{writer_accepts, read_written}
use Rattle.arraywriter.proofs.write.Kinds as write
use Rattle.arraywriter.proofs.write.Reads as write-reads

-- ---- what `read` answers

-- at most eight sizes are listed as they were
listed_back : (l : List ℕ) → length l ≤ 8 → sizes_listed (length l) (sizes_of l) ≡ l
listed_back [] h = refl
listed_back (a ∷ []) h = refl
listed_back (a ∷ b ∷ []) h = refl
listed_back (a ∷ b ∷ c ∷ []) h = refl
listed_back (a ∷ b ∷ c ∷ d ∷ []) h = refl
listed_back (a ∷ b ∷ c ∷ d ∷ e ∷ []) h = refl
listed_back (a ∷ b ∷ c ∷ d ∷ e ∷ f ∷ []) h = refl
listed_back (a ∷ b ∷ c ∷ d ∷ e ∷ f ∷ g ∷ []) h = refl
listed_back (a ∷ b ∷ c ∷ d ∷ e ∷ f ∷ g ∷ i ∷ []) h = refl
listed_back (a ∷ b ∷ c ∷ d ∷ e ∷ f ∷ g ∷ i ∷ j ∷ l) h = absurd (omega arith)

-- the array stands at the end of its bytes
body_last : (a : Meant) → (length a.body ≤ length (bytes_of a)) × (drop (length (bytes_of a) - length a.body) (bytes_of a) ≡ a.body)
body_last a =
    let head = octets (length a.sizes) ++ (numbers a.sizes ++ (octets a.element ++ octets 1)) in
    let parts : bytes_of a ≡ head ++ a.body = simp append_assoc in
    let l : length (bytes_of a) ≡ length head + length a.body = ap length parts ∙ length-append head a.body in
    (omega arith, ap (drop (length (bytes_of a) - length a.body)) parts ∙ drop_at head a.body (length (bytes_of a) - length a.body) (omega arith))

module _ (bytes : List ℕ) (b : Bytes bytes) where
  complete_read : (n : ℕ) → verdict_of bytes ≡ Complete n → ReadSays bytes (array_read_for bytes (Complete n))
  complete_read n e =
      let a = meaning_of bytes in
      let m = complete_meaning bytes b n e in
      let count : length (bytes_of a) ≡ n = complete_count bytes b n e in
      let last = body_last a in
      let total = product a.sizes * a.element in
      let long : length a.body ≡ total = m.0.body_count in
      let start : n - total ≡ length (bytes_of a) - length a.body = omega arith in
      let body : slice (n - total) n bytes ≡ a.body = ap₂ drop start (sym m.1) ∙ last.1 in
      let same : array_read bytes (record { dims = length a.sizes; sizes = sizes_of a.sizes; element = a.element; start = n - total; length = n }) ≡ a =
      ap₂ (λ (sizes array : List ℕ). record { sizes = sizes; element = a.element; body = array }) (listed_back a.sizes m.0.few_sizes) body in
      record {
        complete = subst (Says ArrayPack Why bytes) e (array_said bytes b);
        begins = omega arith;
        lawful = subst Lawful (sym same) m.0;
        means = sym same;
        spelled = ap bytes_of same ∙ m.1;
      }

  verdict_read : (v : Verdict) → verdict_of bytes ≡ v → ReadSays bytes (array_read_for bytes v)
  verdict_read (Complete n) e = complete_read n e
  verdict_read (Unfinished missing) e = subst (Says ArrayPack Why bytes) e (array_said bytes b)
  verdict_read (Refused refusal) e = subst (Says ArrayPack Why bytes) e (array_said bytes b)

-- what `read` answers
pub read_says : (κs : Lfts 1) (a : Dens κs read.ps) (answer : (res_t read.r κs).Denot) (s : AtExit (ended_of 1 read.ps read.r) κs) → Bytes a.0.now → read-reads.Post κs a answer s → ReadSays a.0.now answer
read_says κs a answer s b post = subst (ReadSays a.0.now) (sym post) (verdict_read a.0.now b (verdict_of a.0.now) refl)

-- ---- read, and written again

module _ (bytes : List ℕ) (b : Bytes bytes) (array : Meant) (start end : ℕ) (r : ReadAs bytes array start end) where
  again : (given : Meant) → given ≡ array → (out : List ℕ) → end ≤ length out → (answer : Verdict) (out' : List ℕ) → WrittenBy (writer_rows given.sizes given.element given.body out) (bytes_of given) out 0 answer out' → WrittenAgain bytes end out answer out'
  again given e out room answer out' w =
      let v : verdict_of bytes ≡ Complete end = sym (array_only bytes b (Complete end) r.complete) in
      let x = read_written bytes b end v out room answer out'
      (subst (λ (m : Meant). WrittenBy (writer_rows m.sizes m.element m.body out) (bytes_of m) out 0 answer out') (e ∙ sym r.means) w) in
      record { answered = x.0; left = x.1 }

given_same : (sizes : List ℕ) (element : ℕ) (body : List ℕ) (array : Meant) → sizes ≡ array.sizes → element ≡ array.element → body ≡ array.body → meaning_given sizes element body ≡ array
given_same sizes element body array p q r = rw (p, q, r)

-- what `read` answered, given to `write` with room for it
pub read_then_write : (κs : Lfts 1) (a : Dens κs read.ps) (s : AtExit (ended_of 1 read.ps read.r) κs) (found : ArrayRead)
    → Bytes a.0.now → read-reads.Post κs a (Ok found) s
    → (κs' : Lfts 3) (a' : Dens κs' write.ps) (answer : (res_t write.r κs').Denot) (s' : AtExit (ended_of 3 write.ps write.r) κs')
    → a'.0.now ≡ sizes_listed found.dims found.sizes → a'.1.0 ≡ found.element → a'.1.1.0.now ≡ slice found.start found.length a.0.now → found.length ≤ length a'.1.1.1.0.now
    → write-reads.Post κs' a' answer s' → WrittenAgain a.0.now found.length a'.1.1.1.0.now (written answer) s'.1.1.1.0.now
read_then_write κs a s found b post κs' a' answer s' p q r room post' =
    let bytes = a.0.now in
    let array = array_read bytes found in
    again bytes b array found.start found.length (read_says κs a (Ok found) s b post)
    (meaning_given a'.0.now a'.1.0 a'.1.1.0.now) (given_same a'.0.now a'.1.0 a'.1.1.0.now array p q r)
    a'.1.1.1.0.now room (written answer) s'.1.1.1.0.now post'

-- ---- written, and read again

-- bytes that begin with the so many bytes of a lawful array
record Begins (array : Meant) (n : ℕ) (bytes : List ℕ) : Type 0 where
  lawful : Lawful array
  counted : n ≡ length (bytes_of array)
  parts : bytes ≡ bytes_of array ++ drop n bytes

-- those that `write` left, with anything behind them
written_begins : (array : Meant) (out : List ℕ) (n : ℕ) (out' bytes : List ℕ) → Bytes array.body → WrittenBy (writer_rows array.sizes array.element array.body out) (bytes_of array) out 0 (Complete n) out' → take n bytes ≡ take n out' → Begins array n bytes
written_begins array out n out' bytes b w same =
    let x = written_complete (writer_rows array.sizes array.element array.body out) (bytes_of array) out n out' w in
    let front : take n out' ≡ bytes_of array = ap (take n) x.1.1 ∙ take_at (bytes_of array) (drop n out) n (sym x.1.0) in
    record {
      lawful = ((writer_accepts array.sizes array.element array.body out b).0 x.0).0;
      counted = x.1.0;
      parts = sym (take-append-drop n bytes) ∙ ap (λ (l : List ℕ). l ++ drop n bytes) (same ∙ front);
    }

-- a part of a part is a part of the whole
part_of_part : (bytes : List ℕ) (start n at count : ℕ) → n ≤ length bytes → start + at + count ≤ n → take count (drop (start + at) bytes) ≡ take count (drop at (slice start n bytes))
part_of_part bytes start n at count h l =
    let front = take n bytes in
    let long : length front ≡ n = length-take-le n bytes h in
    let whole : drop (start + at) bytes ≡ drop (start + at) front ++ drop n bytes =
    ap (drop (start + at)) (sym (take-append-drop n bytes)) ∙ drop-append-le (start + at) front (drop n bytes) (omega arith) in
    ap (take count) whole ∙ take-append-le count (drop (start + at) front) (drop n bytes) (rw length-drop (omega arith)) ∙ ap (take count) (sym (drop-drop at start front))

module _ (array : Meant) (n : ℕ) (bytes : List ℕ) (x : Begins array n bytes) where
  again_complete : verdict_of bytes ≡ Complete n
  again_complete = ap verdict_of x.parts ∙ array_complete (bytes_of array) (drop n bytes) (record { meaning = array; lawful = x.lawful; spelled = refl }) ∙ ap Complete (sym x.counted)

  again_means : meaning_of bytes ≡ array
  again_means = ap meaning_of x.parts ∙ meaning_back array x.lawful (drop n bytes)

  again_there : slice (n - length array.body) n bytes ≡ array.body
  again_there =
      let front : take n bytes ≡ bytes_of array = ap (take n) x.parts ∙ take_at (bytes_of array) (drop n bytes) n (sym x.counted) in
      ap₂ drop (ap (λ (k : ℕ). k - length array.body) x.counted) front ∙ (body_last array).1

  again_read : ReadAgain array n bytes (array_read_of bytes)
  again_read =
      record {
        listed = sizes_of array.sizes;
        eight = refl;
        answered =
            ap (array_read_for bytes) again_complete
            ∙ ap (λ (m : Meant). Ok (array_at m n)) again_means
            ∙ ap (λ (k : ℕ). Ok (record { dims = length array.sizes; sizes = sizes_of array.sizes; element = array.element; start = n - k; length = n })) (sym x.lawful.body_count);
        same_sizes = listed_back array.sizes x.lawful.few_sizes;
        same_array = again_there;
      }

  module _ (indices : List ℕ) where
    -- where the element stands in the array
    abbrev at : ℕ
    at = offset array.sizes indices * array.element

    again_within : inside array.sizes indices ≡ true → at + array.element ≤ length array.body
    again_within h = omega (arith, mul-le-mul_right array.element (offset_below array.sizes indices h), x.lawful.body_count)

    again_addressed : AddressedAs array (n - length array.body) bytes indices (address_of bytes indices)
    again_addressed =
        let answer : address_of bytes indices ≡ address_in array indices = ap (address_for bytes indices) again_complete ∙ ap (λ (m : Meant). address_in m indices) again_means in
        let long = (body_last array).0 in
        let whole : n ≤ length bytes = omega (arith, x.counted, ap length x.parts ∙ length-append (bytes_of array) (drop n bytes)) in
        record {
          outside = λ h. answer ∙ rw h;
          offered = λ h. answer ∙ rw h;
          stands = λ h.
              record {
                within = again_within h;
                same_bytes =
                    part_of_part bytes (n - length array.body) n at array.element whole (omega (arith, again_within h, x.counted))
                    ∙ ap (λ (l : List ℕ). take array.element (drop at l)) again_there;
              };
        }

-- the array that `write` is given
abbrev pub given_to : (κs : Lfts 3) → Dens κs write.ps → Meant
given_to κs a = meaning_given a.0.now a.1.0 a.1.1.0.now

module _ (κs : Lfts 3) (a : Dens κs write.ps) (s : AtExit (ended_of 3 write.ps write.r) κs) (n : ℕ) (b : Bytes a.1.1.0.now) (post : write-reads.Post κs a (Ok n) s) where
  begins : (bytes : List ℕ) → take n bytes ≡ take n s.1.1.1.0.now → Begins (given_to κs a) n bytes
  begins bytes same = written_begins (given_to κs a) a.1.1.1.0.now n s.1.1.1.0.now bytes b post same

  -- what `write` left, with anything behind it, given to `read`
  pub write_then_read : (κs' : Lfts 1) (a' : Dens κs' read.ps) (answer : (res_t read.r κs').Denot) (s' : AtExit (ended_of 1 read.ps read.r) κs')
      → take n a'.0.now ≡ take n s.1.1.1.0.now → read-reads.Post κs' a' answer s' → ReadAgain (given_to κs a) n a'.0.now answer
  write_then_read κs' a' answer s' same post =
      subst (ReadAgain (given_to κs a) n a'.0.now) (sym post) (again_read (given_to κs a) n a'.0.now (begins a'.0.now same))

  -- and to `address`
  pub write_then_address : (κs' : Lfts 2) (a' : Dens κs' address.ps) (answer : (res_t address.r κs').Denot) (s' : AtExit (ended_of 2 address.ps address.r) κs')
      → take n a'.0.now ≡ take n s.1.1.1.0.now → address-reads.Post κs' a' answer s'
      → AddressedAs (given_to κs a) (n - length a.1.1.0.now) a'.0.now a'.1.0.now answer
  write_then_address κs' a' answer s' same post =
      subst (AddressedAs (given_to κs a) (n - length a.1.1.0.now) a'.0.now a'.1.0.now) (sym post)
      (again_addressed (given_to κs a) n a'.0.now (begins a'.0.now same) a'.1.0.now)

-- ---- read, and addressed

read_begins : (bytes : List ℕ) (array : Meant) (start end : ℕ) → ReadAs bytes array start end → Begins array end bytes
read_begins bytes array start end r =
    record {
      lawful = r.lawful;
      counted = sym (length-take-le end bytes r.complete.within) ∙ ap length (sym r.spelled);
      parts = sym (take-append-drop end bytes) ∙ ap (λ (l : List ℕ). l ++ drop end bytes) (sym r.spelled);
    }

-- the same bytes given to `read` and to `address`
pub read_then_address : (κs : Lfts 1) (a : Dens κs read.ps) (s : AtExit (ended_of 1 read.ps read.r) κs) (found : ArrayRead)
    → Bytes a.0.now → read-reads.Post κs a (Ok found) s
    → (κs' : Lfts 2) (a' : Dens κs' address.ps) (answer : (res_t address.r κs').Denot) (s' : AtExit (ended_of 2 address.ps address.r) κs')
    → a'.0.now ≡ a.0.now → address-reads.Post κs' a' answer s'
    → AddressedAs (array_read a.0.now found) found.start a.0.now a'.1.0.now answer
read_then_address κs a s found b post κs' a' answer s' same addressed =
    let bytes = a.0.now in
    let indices = a'.1.0.now in
    let array = array_read bytes found in
    let start = found.start in
    let end = found.length in
    let r = read_says κs a (Ok found) s b post in
    let back : end - length (slice start end bytes) ≡ start = omega (arith, length-slice start end bytes r.complete.within, r.begins) in
    subst (λ (k : ℕ). AddressedAs array k bytes indices answer) back
    (subst (AddressedAs array (end - length (slice start end bytes)) bytes indices) (sym (addressed ∙ ap (λ (l : List ℕ). address_of l indices) same))
    (again_addressed array end bytes (read_begins bytes array start end r) indices))
