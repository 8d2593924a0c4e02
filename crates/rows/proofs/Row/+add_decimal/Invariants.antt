-- `rows::Row::add_decimal` calls itself at the number's tenth, so the number is its measure. Assumes nothing.
use Rattle.rows.proofs.Row.+add_decimal.Given as goal

abbrev pub decreases-add_decimal : goal.decreases-add_decimal
decreases-add_decimal l = l.n
