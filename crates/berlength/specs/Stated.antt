-- What reading a length answers, in document 01's terms.
use Rattle.std.specs.Prelude.{[], ◌∷◌, Result, Ok, Err}
use Rattle.verdict.specs.declared.Reason.TheVariants.{LengthForm, FrameShort}
use Rattle.verdict.specs.Stated.{Stated, gives, stated_refusal}
use Rattle.berlength.specs.declared.Length.{Length}
use Rattle.berlength.specs.declared.NoLength.{NoLength}
use Rattle.berlength.specs.declared.NoLength.TheVariants.{Missing, WrongForm}

-- its value and the count of its bytes; 24 where it is missing or cut, 22 where it is not in its shortest form
abbrev pub stated_length : Result Length NoLength → Stated
stated_length (Err Missing) = stated_refusal (record { reason = FrameShort; place = 0 })
stated_length (Err WrongForm) = stated_refusal (record { reason = LengthForm; place = 0 })
stated_length (Ok length) = gives (length.value ∷ length.octets ∷ [])
