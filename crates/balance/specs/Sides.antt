-- How the code's side stands for the rules' side.
use Rattle.rules.specs.Balance as rules
use Rattle.balance.specs.declared.Side.{Side}
use Rattle.balance.specs.declared.Side.TheVariants.{Left, Right}

abbrev pub side_of : Side → rules.Side
side_of Left = rules.left
side_of Right = rules.right
