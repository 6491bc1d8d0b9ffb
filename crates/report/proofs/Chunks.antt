-- How a chunk is fed line by line: a piece without LF, a line that closes, one that has no room. Assumes nothing.
use Prim.Native.Nat.{ℕ, suc, ◌+◌, ◌-◌, ◌≤◌, ◌<◌}
use mathlib.Core.Path.{◌≡◌, refl, sym, ap, ap₂, ◌∙◌}
use mathlib.Core.Bool.{Bool, true, false, cond}
use mathlib.Core.List.{List, [], ◌∷◌, ◌++◌, append_assoc, append-nil}
use native.Mathlib.Omega.{arith}
use borrow.Author.Tests.{lt-ltb, le-ltb, eq-eqb}
use lib.Dec.{eqb}
use lib.ListN.{length, drop, get_or, length-append, length-drop, drop_of_length-le}
use lib.Seq.{drop-cons, drop-drop, get_or-drop}
use Rattle.report.specs.declared.feed.State.{State}
use Rattle.report.specs.declared.feed.Fed.{Fed as FedTo}
use Rattle.std.specs.Prelude.{Result, Ok}
use Rattle.verdict.specs.declared.Refusal.{Refusal}
use Rattle.lines.specs.declared.Taken.{Taken}
use Rattle.lines.specs.Taking.{longest_line, piece_of, kept, held_on, kept_all, held_all, TakenBy}
use Rattle.lines.proofs.Pieces.{piece_none, piece_more, piece_within, piece_stops}
use Rattle.text.specs.Text.{text_of}
use Rattle.verdict.specs.Writing.{put}
use Rattle.text.specs.Writing.{room}
use Rattle.report.specs.Line.{next_number}
use Rattle.report.specs.Feeding.{held_answer, Came, behind, nothing, came_of, answer_for, Fed, Kept, too_small, FedBy}
use Rattle.report.specs.Passing.{further, Sofar, KeptFrom, Closed}
use Rattle.verdict.proofs.Putting.{put_none, put_put, length_put}
use Rattle.verdict.proofs.Cases.{either}

further_none : (came : Came) → came ≡ further 0 [] came
further_none came = ap (λ (k : ℕ). record { number = came.number; held = came.held; buffer = came.buffer; text = came.text; taken = k }) (omega arith)

further_further : (j k : ℕ) (p q : List ℕ) (came : Came) → further j p (further k q came) ≡ further (j + k) (p ++ q) came
further_further j k p q came =
    ap₂ (λ (w : List ℕ) (n : ℕ). record { number = came.number; held = came.held; buffer = came.buffer; text = w; taken = n }) (sym (append_assoc p q came.text)) (omega arith)

behind_further : (text : List ℕ) (came : Came) → behind text came ≡ further 1 text came
behind_further text came = ap (λ (k : ℕ). record { number = came.number; held = came.held; buffer = came.buffer; text = text ++ came.text; taken = k }) (omega arith)

-- the characters before LF are kept
came_piece : (chunk : List ℕ) (number held left : ℕ) (buffer : List ℕ) → let p = piece_of chunk in
    came_of number held buffer left chunk ≡ further (length p) [] (came_of number (held_all held (length p)) (kept_all buffer held p) left (drop (length p) chunk))
unfolding came_of held_all kept_all piece_of
came_piece [] number held left buffer = further_none (nothing number held buffer)
came_piece (c ∷ chunk) number held left buffer =
    let k = length (piece_of chunk) in
    let rest = came_of number (held_all (held_on held) k) (kept_all (kept buffer held c) (held_on held) (piece_of chunk)) left (drop k chunk) in
    either (eqb c 10)
    (λ e. rw (piece_none c chunk e) (further_none (came_of number held buffer left (c ∷ chunk))))
    (λ e.
    rw (piece_more c chunk e, e)
    (ap (behind []) (came_piece chunk number (held_on held) left (kept buffer held c)) ∙ behind_further [] (further k [] rest) ∙ further_further 1 k [] [] rest ∙ ap (λ (j : ℕ). further j [] rest) (omega arith)))

module _ (chunk : List ℕ) where
  module _ (number held left : ℕ) (buffer : List ℕ) (to : ℕ) where
    came_end : length chunk ≤ to → came_of number held buffer left (drop to chunk) ≡ nothing number held buffer
    unfolding came_of
    came_end h = rw (drop_of_length-le chunk h)

    -- at an LF without room for a line nothing more is taken
    came_stop : to < length chunk → get_or chunk to 0 ≡ 10 → left < room → came_of number held buffer left (drop to chunk) ≡ nothing number held buffer
    unfolding came_of
    came_stop h e r = rw (drop-cons chunk to 0 h, eq-eqb (get_or chunk to 0) 10 e, lt-ltb left room r)

    -- at one with room the line is closed
    came_close : to < length chunk → get_or chunk to 0 ≡ 10 → room ≤ left → let text = text_of number (held_answer buffer held) in
        came_of number held buffer left (drop to chunk) ≡ further 1 text (came_of (next_number number) 0 buffer (left - length text) (drop (to + 1) chunk))
    unfolding came_of
    came_close h e r = let n : to + 1 ≡ suc to = omega arith in rw (drop-cons chunk to 0 h, eq-eqb (get_or chunk to 0) 10 e, le-ltb left room r, n) (behind_further (text_of number (held_answer buffer held)) _)

-- so many characters are taken
pub taken_count : (held : ℕ) (chunk buffer : List ℕ) (answer : Result Taken Refusal) (buffer' : List ℕ) (taken : Taken) → longest_line ≤ length buffer → TakenBy held chunk buffer answer buffer' → answer ≡ Ok taken
    → taken.count ≡ length (piece_of chunk)
taken_count held chunk buffer answer buffer' taken l p e =
    let t = le-ltb (length buffer) longest_line l in
    let s : Ok taken ≡ Ok (record { held = held_all held (length (piece_of chunk)); count = length (piece_of chunk) }) = sym e ∙ p.said ∙ rw t in
    let k : taken ≡ record { held = held_all held (length (piece_of chunk)); count = length (piece_of chunk) } = cc in
    ap (λ (x : Taken). x.count) k

-- behind the characters that were kept LF stands, or the chunk ends
pub piece_end : (at next : FedTo) (chunk buffer buffer' : List ℕ) → KeptFrom at chunk buffer next buffer' → next.taken < length chunk → get_or chunk next.taken 0 ≡ 10
piece_end at next chunk buffer buffer' kept' h =
    let k = length (piece_of (drop at.taken chunk)) in
    let e : at.taken + k ≡ next.taken = sym (ap (λ (x : FedTo). x.taken) kept'.stands) in
    rw (← e) (sym (get_or-drop at.taken chunk k 0) ∙ piece_stops (drop at.taken chunk) (omega (arith, e, h, length-drop at.taken chunk)))

module _ (state : State) (chunk buffer₀ out₀ : List ℕ) where
  pub sofar_none : Sofar state chunk buffer₀ out₀ (record { state = state; taken = 0; written = 0 }) buffer₀ out₀
  sofar_none =
      let e : length out₀ - 0 ≡ length out₀ = omega arith in
      record {
        text = [];
        counted = refl;
        room_left = omega arith;
        far = omega arith;
        wrote = sym (put_none out₀ 0);
        came = rw e (further_none (came_of state.number state.held buffer₀ (length out₀) chunk));
      }

  module _ (at : FedTo) (buffer out : List ℕ) (z : Sofar state chunk buffer₀ out₀ at buffer out) where
    pub sofar_length : length out ≡ length out₀
    sofar_length = ap length z.wrote ∙ length_put out₀ 0 z.text (omega (arith, z.counted, z.room_left))

    -- up to the end of a piece
    pub sofar_piece : (next : FedTo) (buffer' : List ℕ) → KeptFrom at chunk buffer next buffer' → Sofar state chunk buffer₀ out₀ next buffer' out
    sofar_piece next buffer' kept' =
        let k = length (piece_of (drop at.taken chunk)) in
        rw (kept'.stands, kept'.keeps)
        (record {
          text = z.text;
          counted = z.counted;
          room_left = z.room_left;
          far = omega (arith, z.far, piece_within (drop at.taken chunk), length-drop at.taken chunk);
          wrote = z.wrote;
          came =
              z.came ∙ ap (further at.taken z.text) (came_piece (drop at.taken chunk) at.state.number at.state.held (length out₀ - at.written) buffer)
              ∙ further_further at.taken k z.text [] _ ∙ rw (append-nil, drop-drop k at.taken chunk);
        })

    -- behind a line that was closed
    pub sofar_closed : at.taken < length chunk → get_or chunk at.taken 0 ≡ 10 → room ≤ length out - at.written → (next : FedTo) (out' : List ℕ) → Closed at buffer out next out' → Sofar state chunk buffer₀ out₀ next buffer out'
    sofar_closed h stops r next out' d =
        let line = text_of at.state.number (held_answer buffer at.state.held) in
        let left : length out₀ - at.written - length line ≡ length out₀ - (at.written + length line) = omega arith in
        rw d.stands
        (record {
          text = z.text ++ line;
          counted = length-append z.text line ∙ omega (arith, z.counted);
          room_left = omega (arith, sofar_length, d.short, r);
          far = omega arith;
          wrote = d.wrote ∙ ap₂ (λ (o : List ℕ) (n : ℕ). put o n line) z.wrote (omega (arith, z.counted)) ∙ put_put out₀ 0 z.text line (omega (arith, z.counted, z.room_left));
          came =
              z.came ∙ ap (further at.taken z.text) (came_close chunk at.state.number at.state.held (length out₀ - at.written) buffer at.taken h stops (omega (arith, sofar_length, r)))
              ∙ further_further at.taken 1 z.text line _ ∙ rw left;
        })

    fed_none : came_of at.state.number at.state.held buffer (length out₀ - at.written) (drop at.taken chunk) ≡ nothing at.state.number at.state.held buffer → Fed state chunk buffer₀ out₀ (Ok at) buffer out
    fed_none e =
        let c : came_of state.number state.held buffer₀ (length out₀) chunk ≡ further at.taken z.text (nothing at.state.number at.state.held buffer) = z.came ∙ ap (further at.taken z.text) e in
        let t : z.text ++ [] ≡ z.text = append-nil z.text in
        record {
          said = sym (ap answer_for c ∙ ap₂ (λ (k n : ℕ). Ok (record { state = at.state; taken = k; written = n })) (omega arith) (ap length t ∙ z.counted));
          keeps = sym (ap (λ (x : Came). x.buffer) c);
          wrote = z.wrote ∙ ap (put out₀ 0) (sym (ap (λ (x : Came). x.text) c ∙ t));
        }

    -- where the chunk ends
    pub fed_end : length chunk ≤ at.taken → Fed state chunk buffer₀ out₀ (Ok at) buffer out
    fed_end h = fed_none (came_end chunk at.state.number at.state.held (length out₀ - at.written) buffer at.taken h)

    -- where there is no room for a line
    pub fed_full : at.taken < length chunk → get_or chunk at.taken 0 ≡ 10 → length out - at.written < room → Fed state chunk buffer₀ out₀ (Ok at) buffer out
    fed_full h stops r = fed_none (came_stop chunk at.state.number at.state.held (length out₀ - at.written) buffer at.taken h stops (omega (arith, sofar_length, r)))

-- where 13 is not answered, the chunk is fed
pub fed_by : (state : State) (chunk buffer out : List ℕ) → too_small buffer out ≡ false → (answer : Result FedTo Refusal) (buffer' out' : List ℕ) → Fed state chunk buffer out answer buffer' out' → FedBy state chunk buffer out answer buffer' out'
fed_by state chunk buffer out t answer buffer' out' f = rw t f

-- one answer, and one state of the line buffer and of the output
pub record Same (answer answer₁ : Result FedTo Refusal) (buffer buffer₁ out out₁ : List ℕ) : Type 0 where
  pub answers : answer ≡ answer₁
  pub buffers : buffer ≡ buffer₁
  pub outputs : out ≡ out₁

pub fed_one : (state : State) (chunk buffer out : List ℕ) (answer answer₁ : Result FedTo Refusal) (b b₁ o o₁ : List ℕ) → FedBy state chunk buffer out answer b o → FedBy state chunk buffer out answer₁ b₁ o₁ → Same answer answer₁ b b₁ o o₁
fed_one state chunk buffer out answer answer₁ b b₁ o o₁ = go (too_small buffer out)
  where
    go : (t : Bool) → cond t (Kept buffer out answer b o) (Fed state chunk buffer out answer b o) → cond t (Kept buffer out answer₁ b₁ o₁) (Fed state chunk buffer out answer₁ b₁ o₁) → Same answer answer₁ b b₁ o o₁
    go true p q = record { answers = p.said ∙ sym q.said; buffers = p.keeps ∙ sym q.keeps; outputs = p.wrote ∙ sym q.wrote }
    go false p q = record { answers = p.said ∙ sym q.said; buffers = p.keeps ∙ sym q.keeps; outputs = p.wrote ∙ sym q.wrote }
