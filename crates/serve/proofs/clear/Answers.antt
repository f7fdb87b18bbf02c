-- `clear` leaves the words that formatting leaves. Assumes nothing.
use mathlib.Core.Path.{refl}
use Rattle.serve.proofs.clear.Goals as goal

pub returns : goal.returns
returns c p h = record { number_is = refl; words_are = c.format.ensures }
