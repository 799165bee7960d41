-- `rates::long_quotient` ends: half of a number that y goes into is less than the number.
-- Assumes nothing.
use Rattle.rates.proofs.+long_quotient.Given as goal

abbrev pub decreases-long_quotient : goal.decreases-long_quotient
decreases-long_quotient l = l.x
