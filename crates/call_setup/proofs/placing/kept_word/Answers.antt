use native.Mathlib.Omega.{arith}
use Rattle.call_setup.proofs.Placed.{past_words, past-endpoints, past-use, in_use}
use Rattle.call_setup.proofs.placing.kept_word.Goals as goal

pub returns-then-k-words : goal.returns-then-k-words
returns-then-k-words c = let a = c.args in past_words a.n a.words.now a.k (omega arith)

pub returns-then-k-n : goal.returns-then-k-n
returns-then-k-n c = let a = c.args in past-endpoints a.n a.words.now a.k (omega arith)

pub returns-then-words-k : goal.returns-then-words-k
returns-then-words-k c = let a = c.args in past-use a.n a.words.now a.k (omega arith)

pub returns : goal.returns
returns c =
    let a = c.args in
    in_use a.n a.words.now a.k (omega arith) (omega arith)
