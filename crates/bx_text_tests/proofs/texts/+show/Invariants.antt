use Rattle.std.proofs.Common.{◌+◌, ◌*◌}
use Rattle.bx_text_tests.proofs.texts.+show.Given as goal

abbrev pub decreases-show : goal.decreases-show
decreases-show l = 3 * l.levels + 2

abbrev pub decreases-show_all : goal.decreases-show_all
decreases-show_all l = 3 * l.levels + 1

abbrev pub decreases-show_below : goal.decreases-show_below
decreases-show_below l = 3 * l.levels
