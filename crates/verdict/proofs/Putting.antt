-- Laws of bytes put over those at a place: in two parts, one more behind, one more in front. Assumes nothing.
use Prim.Native.Nat.{ℕ, suc, ◌+◌, ◌-◌, ◌≤◌, ◌<◌}
use mathlib.Core.Path.{◌≡◌, ◌∙◌, sym}
use mathlib.Core.List.{List, [], ◌∷◌, ◌++◌, append_assoc}
use native.Mathlib.Omega.{arith}
use borrow.Rule.Slice.PartMut.{put_mid, Post-is}
use native.Mathlib.Nat.{add_assoc, add-zero, zero-add}
use lib.ListN.{length, take, drop, get_or, set, length-append, length-take, length-drop, take-append-drop}
use lib.Seq.{take_at, drop_at, drop-append-add, drop-drop, take-suc, set_at, append_snoc, length-take-le, set_split}
use Rattle.verdict.specs.Writing.{put}

pub put_none : (out : List ℕ) (place : ℕ) → put out place [] ≡ out
unfolding put
put_none out place = rw add-zero (take-append-drop place out)

-- at the front
pub put_first : (out bytes : List ℕ) → put out 0 bytes ≡ bytes ++ drop (length bytes) out
unfolding put
put_first out bytes = rw zero-add

-- behind the place stand the bytes that were put there
pub drop_put : (out : List ℕ) (place : ℕ) (bytes : List ℕ) → place ≤ length out → drop place (put out place bytes) ≡ bytes ++ drop (place + length bytes) out
unfolding put
drop_put out place bytes h = drop_at (take place out) (bytes ++ drop (place + length bytes) out) place (length-take-le place out h)

pub length_put : (out : List ℕ) (place : ℕ) (p : List ℕ) → place + length p ≤ length out → length (put out place p) ≡ length out
unfolding put
length_put out place p h = simp (length-append, length-take, length-drop) (omega arith)

-- bytes put, and more behind them
pub put_put : (out : List ℕ) (place : ℕ) (p q : List ℕ) → place + length p ≤ length out → put (put out place p) (place + length p) q ≡ put out place (p ++ q)
unfolding put
put_put out place p q h =
    let head = take place out ++ p in
    let l : length head ≡ place + length p = simp (length-append, length-take) (omega arith) in
    let e : take place out ++ (p ++ drop (place + length p) out) ≡ head ++ drop (place + length p) out = sym (append_assoc (take place out) p (drop (place + length p) out)) in
    rw (e, take_at head (drop (place + length p) out) (place + length p) l, ← l, drop-append-add, drop-drop, l)
    (simp (append_assoc, length-append, add_assoc))

-- one byte
pub put_one : (out : List ℕ) (place x : ℕ) → place < length out → set out place x ≡ put out place (x ∷ [])
unfolding put
put_one out place x h = rw (set_split out place x h) (let e : suc place ≡ place + 1 = omega arith in rw e)

-- one byte more behind
pub put_more : (out : List ℕ) (place : ℕ) (p : List ℕ) (x : ℕ) → place + length p < length out → set (put out place p) (place + length p) x ≡ put out place (p ++ (x ∷ []))
put_more out place p x h =
    let l : length (put out place p) ≡ length out = length_put out place p (omega arith) in
    put_one (put out place p) (place + length p) x (omega arith) ∙ put_put out place p (x ∷ []) (omega arith)

pub put_two : (out : List ℕ) (place x y : ℕ) → place + 2 ≤ length out → set (set out place x) (place + 1) y ≡ put out place (x ∷ y ∷ [])
put_two out place x y h = rw (put_one out place x (omega arith)) (put_more out place (x ∷ []) y (omega arith))

pub put_three : (out : List ℕ) (place x y z : ℕ) → place + 3 ≤ length out → set (set (set out place x) (place + 1) y) (place + 2) z ≡ put out place (x ∷ y ∷ z ∷ [])
put_three out place x y z h = rw (put_one out place x (omega arith), put_more out place (x ∷ []) y (omega arith)) (put_more out place (x ∷ y ∷ []) z (omega arith))

-- one byte more in front
pub put_before : (out : List ℕ) (place : ℕ) (p : List ℕ) (x : ℕ) → place < length out → set (put out (suc place) p) place x ≡ put out place (x ∷ p)
unfolding put
put_before out place p x h =
    let e : place + suc (length p) ≡ suc place + length p = omega arith in
    rw (take-suc out place 0 h, append_snoc, e) (set_at (take place out) (get_or out place 0) (p ++ drop (suc place + length p) out) x place (length-take-le place out (omega arith)))

-- copied over a part of the list
pub put_part : (out : List ℕ) (place end : ℕ) (bytes : List ℕ) → place + length bytes ≡ end → put_mid place (end - place) out bytes ≡ put out place bytes
unfolding put
put_part out place end bytes e = rw (Post-is {X = ℕ} place end out (omega arith), ← e)
