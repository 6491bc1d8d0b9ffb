-- All the words are written at once.
use Rattle.verdict.specs.Answers.{written}
use Rattle.matrixwriter.proofs.Putting.{words_put}
use Rattle.matrixwriter.proofs.put.put_words.Goals as goal

pub returns : goal.returns
returns c =
    let a = c.args in
    words_put a.out.now a.place a.length a.words.now c.requires.0 c.requires.1.0 c.requires.1.1 (written c.write_all.result) c.write_all.new.out c.write_all.ensures
