-- What a sound pool's answer is, in the words that it leaves.
use Rattle.std.specs.Prelude.{ℕ, List, ◌≡◌, length}
use Rattle.rules.specs.Tree.{Entry}
use Rattle.rules.specs.Pool.{Pool, words, capacity}
use Rattle.rules.specs.Request.{Served}

-- the number is the answer's, and the words are those of the pool that is left
pub record Answers (ws after : List ℕ) (number : ℕ) (served : Served Pool Entry) : Type 0 where
  pub number_is : number ≡ served.number
  pub words_are : after ≡ words (capacity (length ws)) served.left
