-- All the words are read at once.
use Rattle.verdict.specs.Answers.{written}
use Rattle.unpack.proofs.Overlay.{words_read, words_over}
use Rattle.unpack.proofs.words.fill_words.Goals as goal

pub unwrap-requires : goal.unwrap-requires
unwrap-requires c =
    let a = c.args in
    words_read a.bytes.now a.out.now a.place a.length a.number c.requires.0 c.requires.1.0 c.requires.1.1 c.read_all.result c.read_all.new.out c.read_all.ensures

pub returns : goal.returns
returns c =
    let a = c.args in
    words_over a.bytes.now a.out.now a.place a.length a.number c.requires.0 c.requires.1.0 c.requires.1.1 (written c.read_all.result) c.read_all.new.out c.read_all.ensures
