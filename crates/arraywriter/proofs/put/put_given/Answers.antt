-- Each part is put behind the one before it.
use Rattle.std.proofs.Common.{◌+◌, ◌≤◌, refl, [], ◌++◌, length, append-nil, arith}
use Rattle.number.specs.Octets.{octets, numbers}
use Rattle.array.specs.Spelling.{bytes_of}
use Rattle.arraywriter.specs.Given.{meaning_given}
use Rattle.arraywriter.proofs.Parts.{PutTo, put_to_none, put_to_more, put_to_all}
use Rattle.arraywriter.proofs.put.put_given.Goals as goal

pub returns : goal.returns
returns c =
    let a = c.args in
    let sizes = a.sizes.now in
    let array = a.array.now in
    let out = a.out.now in
    let pack = bytes_of (meaning_given sizes a.element array) in
    let fit : 0 + length pack ≤ length out = omega arith in
    let first = c.put_number-first in
    let second = c.put_numbers-second in
    let third = c.put_number-third in
    let start = c.put_number-start in
    let behind_element = octets 1 ++ array in
    let behind_sizes = octets a.element ++ behind_element in
    let behind_dims = numbers sizes ++ behind_sizes in
    let whole : PutTo out 0 pack 0 (octets (length sizes) ++ behind_dims) out = put_to_none out 0 pack 0 refl in
    let dims = put_to_more out 0 pack fit 0 (octets (length sizes)) behind_dims out first.result first.new.out whole first.ensures.value first.ensures.out_after in
    let sized = put_to_more out 0 pack fit first.result (numbers sizes) behind_sizes first.new.out second.result second.new.out dims second.ensures.value second.ensures.out_after in
    let element = put_to_more out 0 pack fit second.result (octets a.element) behind_element second.new.out third.result third.new.out sized third.ensures.value third.ensures.out_after in
    let processing = put_to_more out 0 pack fit third.result (octets 1) array third.new.out start.result start.new.out element start.ensures.value start.ensures.out_after in
    let last : PutTo out 0 pack start.result (array ++ []) start.new.out = rw (append-nil array) processing in
    let end = start.result + length array in
    let all = put_to_more out 0 pack fit start.result array [] start.new.out end c.put_bytes.new.out last refl c.put_bytes.ensures in
    (put_to_all out 0 pack fit end [] c.put_bytes.new.out refl all).1
