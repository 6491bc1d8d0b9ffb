-- The paper's number for each case: of a reason, and of a verdict as C gets it.
use Rattle.std.specs.Prelude.{ℕ, ◌+◌, ◌*◌, ◌^◌, ◌<◌, min}
use Rattle.verdict.specs.declared.Reason.{Reason}
use Rattle.verdict.specs.declared.Reason.TheVariants.{Zero, TooLarge, PaddedNumber, Mode, Reserved, ValueLength, Sparse, SizeOne, Empty, VectorEnd, ValueRange, Processing, SmallBuffer, Disagree, Index, FormatAlone, Character, UnknownKey, LengthForm, LengthDiffers, FrameShort, FrameLong}
use Rattle.verdict.specs.declared.Verdict.{Verdict}
use Rattle.verdict.specs.declared.Verdict.TheVariants.{Complete, Unfinished, Refused}

-- document 01's table, 1 to 15, document 02's 16, and the numbers of frames, 20 to 25
abbrev pub number_of : Reason → ℕ
number_of Zero = 1
number_of TooLarge = 2
number_of PaddedNumber = 3
number_of Mode = 4
number_of Reserved = 5
number_of ValueLength = 6
number_of Sparse = 7
number_of SizeOne = 8
number_of Empty = 9
number_of VectorEnd = 10
number_of ValueRange = 11
number_of Processing = 12
number_of SmallBuffer = 13
number_of Disagree = 14
number_of Index = 15
number_of FormatAlone = 16
number_of Character = 20
number_of UnknownKey = 21
number_of LengthForm = 22
number_of LengthDiffers = 23
number_of FrameShort = 24
number_of FrameLong = 25

-- the paper's number: the length; 2^32 + missing; 2 × 2^32 + reason × 65,536 + place
abbrev pub paper_of : Verdict → ℕ
paper_of (Complete length) = length
paper_of (Unfinished missing) = 2 ^ 32 + missing
paper_of (Refused r) = 2 * 2 ^ 32 + number_of r.reason * 65536 + r.place

-- what occurs: a length and a missing count below 2^32, a place below 65,536
abbrev pub Occurs : Verdict → Type 0
Occurs (Complete length) = length < 2 ^ 32
Occurs (Unfinished missing) = missing < 2 ^ 32
Occurs (Refused r) = r.place < 65536

-- the number that C gets: the paper's, a value past its field held at the field's greatest
abbrev pub packed_of : Verdict → ℕ
packed_of (Complete length) = min length 0xFFFFFFFF
packed_of (Unfinished missing) = 2 ^ 32 + min missing 0xFFFFFFFF
packed_of (Refused r) = 2 * 2 ^ 32 + number_of r.reason * 65536 + min r.place 0xFFFF
