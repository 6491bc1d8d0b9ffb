-- The contract of each public function, as the source states it, admits one answer, and of those that write one state of the lent list. Assumes nothing.
use mathlib.Core.Path.{◌≡◌, ◌∙◌, sym}
use contract.Lifetimes.{Lfts}
use borrow.Fn.Kinds.{Dens, res_t, ended_of}
use denote.Triple.Clauses.{AtExit}
use Rattle.verdict.proofs.OneAnswer.{OneAnswer}
use Rattle.verdict.proofs.Answering.{written_own}
use Rattle.word.proofs.bytes.byte_at.Kinds as byte_at
use Rattle.word.proofs.bytes.byte_at.Reads as byte-at-reads
use Rattle.word.proofs.bytes.word_of.Kinds as word_of
use Rattle.word.proofs.bytes.word_of.Reads as word-of-reads
use Rattle.word.proofs.bytes.any_word_of.Kinds as any_word_of
use Rattle.word.proofs.bytes.any_word_of.Reads as any-word-of-reads
use Rattle.word.proofs.bytes.read_at.Kinds as read_at
use Rattle.word.proofs.bytes.read_at.Reads as read-at-reads
use Rattle.word.proofs.many.read_all.Kinds as read_all
use Rattle.word.proofs.many.read_all.Reads as read-all-reads
use Rattle.word.proofs.many.judge.Kinds as judge
use Rattle.word.proofs.many.judge.Reads as judge-reads

pub byte_at_only : OneAnswer byte_at.ps byte_at.r byte-at-reads.Post
byte_at_only κs a x y s t p q = p.0 ∙ sym q.0

pub word_of_only : OneAnswer word_of.ps word_of.r word-of-reads.Post
word_of_only κs a x y s t p q = p ∙ sym q

pub any_word_of_only : OneAnswer any_word_of.ps any_word_of.r any-word-of-reads.Post
any_word_of_only κs a x y s t p q = p ∙ sym q

pub read_at_only : OneAnswer read_at.ps read_at.r read-at-reads.Post
read_at_only κs a x y s t p q = p ∙ sym q

pub read_all_only : OneAnswer read_all.ps read_all.r read-all-reads.Post
read_all_only κs a x y s t p q = written_own x y (p.said ∙ sym q.said)

pub read_all_leaves : (κs : Lfts 2) (a : Dens κs read_all.ps) (x y : (res_t read_all.r κs).Denot) (s t : AtExit (ended_of 2 read_all.ps read_all.r) κs)
    → read-all-reads.Post κs a x s → read-all-reads.Post κs a y t → s.1.1.0.now ≡ t.1.1.0.now
read_all_leaves κs a x y s t p q = p.left ∙ sym q.left

pub judge_only : OneAnswer judge.ps judge.r judge-reads.Post
judge_only κs a x y s t p q = p ∙ sym q
