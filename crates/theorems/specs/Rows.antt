-- The rows of document 01, starred and not, worked out for each mode and stated format, a row for each reason that a kind of pack has, one on
-- each side of every constant, and format flags alone with their neighbours.
use Rattle.std.specs.Prelude.{ℕ, true, false, List, [], ◌∷◌, ◌++◌}
use Rattle.verdict.specs.declared.Reason.{Reason}
use Rattle.verdict.specs.declared.Reason.TheVariants.{Zero, TooLarge, PaddedNumber, Mode, Reserved, ValueLength, FormatAlone, Sparse, SizeOne, Empty, VectorEnd, ValueRange, Processing}
use Rattle.verdict.specs.declared.Verdict.{Verdict}
use Rattle.verdict.specs.declared.Verdict.TheVariants.{Complete, Unfinished, Refused}
use Rattle.verdict.specs.Says.{Says}
use Rattle.matrix.specs.declared.Told.{Told}
use Rattle.matrix.specs.Meaning.{stating}
use Rattle.matrix.specs.Pack.{MatrixPack}
use Rattle.matrix.specs.Table.{Why}
use Rattle.array.specs.Spelling.{ArrayPack}
use Rattle.array.specs.Table.{Why as ArrayWhy}

-- packs under what is told, or arrays
pub data Kind : Type 0 where
  matrix : Told → Kind
  array : Kind

-- bytes, and what is to be said of them
pub record Packed : Type 0 where
  pub packed : List ℕ
  pub answer : Verdict

-- bytes, and what is to be said of them where Mode 1 is not let in, where its deviations are IEEE, and where they are mapped
pub record Telling : Type 0 where
  pub bytes : List ℕ
  pub alone : Verdict
  pub ieee : Verdict
  pub mapped : Verdict

-- a kind of pack, bytes, and what is to be said of them
pub record Row : Type 0 where
  pub kind : Kind
  pub bytes : List ℕ
  pub said : Verdict

abbrev row : List ℕ → Verdict → Packed
row bytes said = record { packed = bytes; answer = said }

abbrev tells : List ℕ → Verdict → Verdict → Verdict → Telling
tells bytes alone ieee mapped = record { bytes = bytes; alone = alone; ieee = ieee; mapped = mapped }

abbrev array_row : List ℕ → Verdict → Row
array_row bytes said = record { kind = array; bytes = bytes; said = said }

abbrev refused : Reason → ℕ → Verdict
refused reason place = Refused (record { reason = reason; place = place })

-- Mode 2, whatever is told
unfoldable pub double_rows : List Packed
double_rows =
    row (0x41 ∷ []) (refused TooLarge 0)
    ∷ row (0x00 ∷ []) (refused Zero 0)
    ∷ row (0x7F ∷ []) (refused TooLarge 0)
    ∷ row (0x80 ∷ []) (refused PaddedNumber 0)
    ∷ row (0x81 ∷ []) (refused TooLarge 0)
    ∷ row (0x02 ∷ 0xC0 ∷ []) (refused Reserved 1)
    ∷ row (0x02 ∷ 0x83 ∷ []) (refused ValueLength 1)
    ∷ row (0x02 ∷ 0xA0 ∷ []) (refused Sparse 1)
    ∷ row (0x01 ∷ 0x91 ∷ []) (refused SizeOne 1)
    ∷ row (0x02 ∷ 0x80 ∷ 0x80 ∷ []) (refused Mode 2)
    ∷ row (0x02 ∷ 0x80 ∷ 0x20 ∷ []) (refused Reserved 2)
    ∷ row (0x02 ∷ 0x80 ∷ 0x40 ∷ []) (refused Reserved 2)
    ∷ row (0x02 ∷ 0x91 ∷ 0x00 ∷ 0x40 ∷ []) (Complete 4)
    ∷ row (0x01 ∷ 0x80 ∷ 0x11 ∷ 0x05 ∷ []) (Complete 4)
    ∷ row (0x02 ∷ 0x80 ∷ 0x00 ∷ []) (refused Empty 2)
    ∷ row (0x03 ∷ 0xB1 ∷ 0x00 ∷ 0x00 ∷ []) (refused Empty 3)
    ∷ row (0x03 ∷ 0xB1 ∷ 0x00 ∷ 0xA1 ∷ []) (refused VectorEnd 3)
    ∷ row (0x03 ∷ 0xB1 ∷ 0x00 ∷ []) (Unfinished 2)
    ∷ row (0x03 ∷ 0xB1 ∷ 0x11 ∷ []) (Unfinished 4)
    ∷ row (0x02 ∷ 0x92 ∷ 0x00 ∷ 0x80 ∷ []) (Unfinished 1)
    ∷ row (0x02 ∷ 0x92 ∷ 0x00 ∷ 0x80 ∷ 0x01 ∷ []) (refused ValueRange 4)
    ∷ row (0x02 ∷ 0x92 ∷ 0x00 ∷ 0x80 ∷ 0x00 ∷ []) (Complete 5)
    ∷ row (0x01 ∷ 0x80 ∷ 0x18 ∷ 0x80 ∷ 0 ∷ 0 ∷ 0 ∷ 0 ∷ 0 ∷ 0 ∷ 0 ∷ []) (Complete 11)
    ∷ row (0x01 ∷ 0x80 ∷ 0x18 ∷ 0x80 ∷ 0 ∷ 0 ∷ 0 ∷ 0 ∷ 0 ∷ 0 ∷ 1 ∷ []) (refused ValueRange 10)
    ∷ row (0x01 ∷ 0x80 ∷ 0x19 ∷ []) (refused ValueLength 2)
    ∷ row (0x01 ∷ 0x80 ∷ 0x02 ∷ 0x7B ∷ 0xFF ∷ []) (Complete 5)
    ∷ row (0x01 ∷ 0x80 ∷ 0x02 ∷ 0x7C ∷ []) (refused ValueRange 3)
    ∷ row (0x01 ∷ 0x80 ∷ 0x04 ∷ 0x7F ∷ 0x7F ∷ 0xFF ∷ 0xFF ∷ []) (Complete 7)
    ∷ row (0x01 ∷ 0x80 ∷ 0x04 ∷ 0x7F ∷ 0x80 ∷ []) (refused ValueRange 4)
    ∷ row (0x01 ∷ 0x80 ∷ 0x08 ∷ 0x7F ∷ 0xEF ∷ 0xFF ∷ 0xFF ∷ 0xFF ∷ 0xFF ∷ 0xFF ∷ 0xFF ∷ []) (Complete 11)
    ∷ row (0x01 ∷ 0x80 ∷ 0x08 ∷ 0x7F ∷ 0xF0 ∷ []) (refused ValueRange 4)
    ∷ row (0x02 ∷ 0x82 ∷ 0x00 ∷ 0x3C ∷ 0x00 ∷ []) (Complete 5)
    ∷ row (0x02 ∷ 0x82 ∷ 0x00 ∷ 0x3C ∷ 0x01 ∷ []) (refused ValueRange 4)
    ∷ row (0x02 ∷ 0x82 ∷ 0x00 ∷ 0xBC ∷ 0x00 ∷ []) (Complete 5)
    ∷ row (0x02 ∷ 0x84 ∷ 0x00 ∷ 0x3F ∷ 0x80 ∷ 0x00 ∷ 0x00 ∷ []) (Complete 7)
    ∷ row (0x02 ∷ 0x84 ∷ 0x00 ∷ 0x3F ∷ 0x80 ∷ 0x00 ∷ 0x01 ∷ []) (refused ValueRange 6)
    ∷ row (0x02 ∷ 0x88 ∷ 0x00 ∷ 0x3F ∷ 0xF0 ∷ 0 ∷ 0 ∷ 0 ∷ 0 ∷ 0 ∷ 0 ∷ []) (Complete 11)
    ∷ row (0x02 ∷ 0x88 ∷ 0x00 ∷ 0x3F ∷ 0xF0 ∷ 0 ∷ 0 ∷ 0 ∷ 0 ∷ 0 ∷ 1 ∷ []) (refused ValueRange 10)
    ∷ row (0x03 ∷ 0xB2 ∷ 0x04 ∷ 0xA0 ∷ 0x3F ∷ 0x80 ∷ 0 ∷ 0 ∷ 0x40 ∷ 0 ∷ 0 ∷ 0 ∷ 0x40 ∷ 0x80 ∷ 0 ∷ 0 ∷ 0x60 ∷ 0 ∷ 0x20 ∷ 0 ∷ []) (Complete 20)
    ∷ row (0x01 ∷ 0x80 ∷ []) (Unfinished 2)
    ∷ row (0x01 ∷ 0x90 ∷ []) (refused FormatAlone 1)
    ∷ row (0x01 ∷ 0xB0 ∷ []) (refused FormatAlone 1)
    ∷ row (0x01 ∷ 0xD0 ∷ []) (refused Reserved 1)
    ∷ row (0x01 ∷ 0x99 ∷ []) (refused ValueLength 1)
    ∷ row (0x01 ∷ 0x80 ∷ 0x00 ∷ []) (refused Empty 2)
    ∷ row (0x01 ∷ 0x80 ∷ 0x10 ∷ []) (refused FormatAlone 2)
    ∷ row (0x01 ∷ 0x80 ∷ 0x11 ∷ []) (Unfinished 1)
    ∷ row (0x02 ∷ 0x80 ∷ []) (Unfinished 3)
    ∷ row (0x02 ∷ 0x90 ∷ []) (refused FormatAlone 1)
    ∷ row (0x02 ∷ 0xB0 ∷ []) (refused FormatAlone 1)
    ∷ row (0x02 ∷ 0xD0 ∷ []) (refused Reserved 1)
    ∷ row (0x02 ∷ 0x91 ∷ []) (Unfinished 2)
    ∷ row (0x02 ∷ 0x99 ∷ []) (refused ValueLength 1)
    ∷ row (0x02 ∷ 0x80 ∷ 0x10 ∷ []) (refused FormatAlone 2)
    ∷ row (0x02 ∷ 0x80 ∷ 0x11 ∷ []) (Unfinished 2)
    ∷ row (0x02 ∷ 0x80 ∷ 0x30 ∷ []) (refused Reserved 2)
    ∷ row (0x02 ∷ 0x80 ∷ 0x90 ∷ []) (refused Mode 2)
    ∷ row (0x02 ∷ 0x91 ∷ 0x00 ∷ []) (Unfinished 1)
    ∷ row (0x02 ∷ 0x91 ∷ 0x10 ∷ []) (refused FormatAlone 2)
    ∷ []

-- bytes that tell modes and formats apart
unfoldable pub telling_rows : List Telling
telling_rows =
    tells [] (Unfinished 4) (Unfinished 3) (Unfinished 3)
    ∷ tells (0x01 ∷ []) (Unfinished 3) (Unfinished 3) (Unfinished 2)
    ∷ tells (0x02 ∷ []) (Unfinished 3) (Unfinished 2) (Unfinished 2)
    ∷ tells (0x03 ∷ []) (Unfinished 4) (Unfinished 3) (Unfinished 3)
    ∷ tells (0x10 ∷ []) (Unfinished 18) (Unfinished 17) (Unfinished 17)
    ∷ tells (0x11 ∷ []) (Unfinished 19) (Unfinished 19) (Unfinished 18)
    ∷ tells (0x12 ∷ []) (Unfinished 20) (Unfinished 20) (Unfinished 19)
    ∷ tells (0x40 ∷ []) (Unfinished 66) (Unfinished 66) (Unfinished 65)
    ∷ tells (0x02 ∷ 0x11 ∷ []) (refused Mode 1) (refused ValueLength 1) (Unfinished 3)
    ∷ tells (0x01 ∷ 0x10 ∷ []) (refused Mode 1) (refused ValueLength 1) (Unfinished 1)
    ∷ tells (0x01 ∷ 0x70 ∷ []) (refused Mode 1) (refused ValueLength 1) (Unfinished 7)
    ∷ tells (0x01 ∷ 0x18 ∷ []) (refused Mode 1) (refused ValueLength 1) (refused Sparse 1)
    ∷ tells (0x01 ∷ 0x19 ∷ []) (refused Mode 1) (refused ValueLength 1) (refused SizeOne 1)
    ∷ []

-- Mode 1, whichever format is stated
unfoldable pub single_rows : List Packed
single_rows =
    row (0x03 ∷ 0x4B ∷ []) (Unfinished 13)
    ∷ row (0x03 ∷ 0x4B ∷ 0xA0 ∷ []) (Unfinished 18)
    ∷ row (0x03 ∷ 0x4B ∷ 0xA0 ∷ 0x3F ∷ 0x80 ∷ 0x00 ∷ 0x00 ∷ 0x40 ∷ 0x00 ∷ 0x00 ∷ 0x00 ∷ 0x40 ∷ 0x80 ∷ 0x00 ∷ 0x00 ∷ 0x60 ∷ 0x00 ∷ 0x00 ∷ 0x20 ∷ 0x00 ∷ 0x00 ∷ []) (Complete 21)
    ∷ row (0x02 ∷ 0x01 ∷ 0x80 ∷ []) (Complete 3)
    ∷ row (0x02 ∷ 0x01 ∷ 0x81 ∷ []) (refused ValueRange 2)
    ∷ row (0x02 ∷ 0x01 ∷ []) (Unfinished 1)
    ∷ row (0x02 ∷ 0x07 ∷ []) (Unfinished 7)
    ∷ row (0x02 ∷ 0x08 ∷ []) (refused Sparse 1)
    ∷ row (0x01 ∷ 0x01 ∷ []) (refused SizeOne 1)
    ∷ row (0x02 ∷ 0x00 ∷ []) (refused Empty 1)
    ∷ row (0x01 ∷ 0x00 ∷ []) (refused Empty 1)
    ∷ row (0x03 ∷ 0x09 ∷ 0x00 ∷ []) (refused Empty 2)
    ∷ row (0x03 ∷ 0x09 ∷ 0xA1 ∷ []) (refused VectorEnd 2)
    ∷ row (0x03 ∷ 0x09 ∷ []) (Unfinished 2)
    ∷ row (0x03 ∷ 0x09 ∷ 0x80 ∷ []) (Unfinished 1)
    ∷ row (0x03 ∷ 0x09 ∷ 0x80 ∷ 0x40 ∷ []) (Complete 4)
    ∷ row (0x01 ∷ 0x20 ∷ 0x7B ∷ 0xFF ∷ []) (Complete 4)
    ∷ row (0x01 ∷ 0x40 ∷ 0x7F ∷ 0x7F ∷ 0xFF ∷ 0xFF ∷ []) (Complete 6)
    ∷ []

-- Mode 1 with IEEE deviations
unfoldable pub ieee_rows : List Packed
ieee_rows =
    row (0x01 ∷ 0x20 ∷ []) (Unfinished 2)
    ∷ row (0x01 ∷ 0x30 ∷ []) (refused ValueLength 1)
    ∷ row (0x01 ∷ 0x40 ∷ []) (Unfinished 4)
    ∷ row (0x01 ∷ 0x50 ∷ []) (refused ValueLength 1)
    ∷ row (0x01 ∷ 0x60 ∷ []) (refused ValueLength 1)
    ∷ row (0x01 ∷ 0x20 ∷ 0x7C ∷ []) (refused ValueRange 2)
    ∷ row (0x01 ∷ 0x40 ∷ 0x7F ∷ 0x80 ∷ []) (refused ValueRange 3)
    ∷ []

-- Mode 1 with mapped deviations
unfoldable pub mapped_rows : List Packed
mapped_rows =
    row (0x01 ∷ 0x10 ∷ 0x80 ∷ []) (Complete 3)
    ∷ row (0x01 ∷ 0x10 ∷ 0x81 ∷ []) (refused ValueRange 2)
    ∷ row (0x01 ∷ 0x70 ∷ 0x80 ∷ 0x00 ∷ 0x00 ∷ 0x00 ∷ 0x00 ∷ 0x00 ∷ 0x00 ∷ []) (Complete 9)
    ∷ row (0x01 ∷ 0x70 ∷ 0x80 ∷ 0x00 ∷ 0x00 ∷ 0x00 ∷ 0x00 ∷ 0x00 ∷ 0x01 ∷ []) (refused ValueRange 8)
    ∷ row (0x01 ∷ 0x20 ∷ 0x80 ∷ 0x00 ∷ []) (Complete 4)
    ∷ []

-- arrays
unfoldable pub array_rows : List Row
array_rows =
    array_row [] (Unfinished 4)
    ∷ array_row (0x01 ∷ 0x01 ∷ 0x00 ∷ 0x01 ∷ []) (Complete 4)
    ∷ array_row (0x01 ∷ 0x82 ∷ 0x80 ∷ 0x00 ∷ []) (Unfinished 2)
    ∷ array_row (0x01 ∷ 0x82 ∷ 0x80 ∷ 0x01 ∷ []) (refused TooLarge 3)
    ∷ array_row (0x01 ∷ 0x82 ∷ 0x81 ∷ []) (refused TooLarge 2)
    ∷ array_row (0x01 ∷ 0x02 ∷ 0x81 ∷ []) (Unfinished 258)
    ∷ array_row (0x08 ∷ []) (Unfinished 10)
    ∷ array_row (0x09 ∷ []) (refused TooLarge 0)
    ∷ array_row (0x00 ∷ []) (refused Zero 0)
    ∷ array_row (0x80 ∷ []) (refused PaddedNumber 0)
    ∷ array_row (0x01 ∷ 0x00 ∷ []) (refused Zero 1)
    ∷ array_row (0x01 ∷ 0x80 ∷ []) (refused PaddedNumber 1)
    ∷ array_row (0x01 ∷ 0x01 ∷ 0x80 ∷ []) (refused PaddedNumber 2)
    ∷ array_row (0x02 ∷ 0x81 ∷ 0x00 ∷ 0x82 ∷ 0x00 ∷ []) (Unfinished 2)
    ∷ array_row (0x02 ∷ 0x81 ∷ 0x00 ∷ 0x82 ∷ 0x01 ∷ []) (refused TooLarge 4)
    ∷ array_row (0x01 ∷ 0x82 ∷ 0x80 ∷ 0x00 ∷ 0x01 ∷ []) (Unfinished 32769)
    ∷ array_row (0x01 ∷ 0x82 ∷ 0x80 ∷ 0x00 ∷ 0x02 ∷ []) (refused TooLarge 4)
    ∷ array_row (0x01 ∷ 0x01 ∷ 0x00 ∷ 0x00 ∷ []) (refused Zero 3)
    ∷ array_row (0x01 ∷ 0x01 ∷ 0x00 ∷ 0x02 ∷ []) (refused Processing 3)
    ∷ array_row (0x01 ∷ 0x01 ∷ 0x00 ∷ 0x80 ∷ []) (refused PaddedNumber 3)
    ∷ array_row (0x01 ∷ 0x01 ∷ 0x00 ∷ 0x81 ∷ []) (refused Processing 3)
    ∷ array_row (0x02 ∷ 0x02 ∷ 0x01 ∷ 0x02 ∷ 0x01 ∷ 0 ∷ 0 ∷ 0 ∷ []) (Unfinished 1)
    ∷ array_row (0x02 ∷ 0x02 ∷ 0x01 ∷ 0x02 ∷ 0x01 ∷ 0 ∷ 0 ∷ 0 ∷ 0 ∷ 0 ∷ []) (Complete 9)
    ∷ []

-- rows under what is told
unfoldable pub under : Told → List Packed → List Row
under told [] = []
under told (r ∷ rs) = record { kind = matrix told; bytes = r.packed; said = r.answer } ∷ under told rs

-- one of the three answers of each
unfoldable pub column : (Telling → Verdict) → List Telling → List Packed
column said [] = []
column said (t ∷ ts) = row t.bytes (said t) ∷ column said ts

-- all of them: of Mode 2 alone, of both modes with each stated format, and of arrays
unfoldable pub rows : List Row
rows =
    under (record { mode1 = false; mapped = false }) (double_rows ++ column (λ t. t.alone) telling_rows)
    ++ (under (stating false) (double_rows ++ (column (λ t. t.ieee) telling_rows ++ (single_rows ++ ieee_rows)))
    ++ (under (stating true) (double_rows ++ (column (λ t. t.mapped) telling_rows ++ (single_rows ++ mapped_rows))) ++ array_rows))

-- what a verdict says of a kind's packs
abbrev pub SaysOf : Kind → List ℕ → Verdict → Type 0
SaysOf (matrix told) = Says (MatrixPack told) (Why told)
SaysOf array = Says ArrayPack ArrayWhy

-- of each row's bytes the verdict is said
abbrev pub Said : List Row → Type 0
Said [] = Unit {0}
Said (r ∷ rs) = SaysOf r.kind r.bytes r.said × Said rs
