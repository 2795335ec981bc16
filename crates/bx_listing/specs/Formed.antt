-- What a form shows: its opcode, and the terms that stand as its operands.
use Rattle.std.specs.Prelude.{List, ◌++◌}
use Rattle.bx_text.specs.Tree.{Tree}
use Rattle.bx_ops.specs.declared.opcode.Op.{Op}
use Rattle.bx_text.specs.View.{elements_seen}
use Rattle.bx_listing.specs.declared.ways.Arguments.{Arguments}
use Rattle.bx_listing.specs.declared.ways.Form.{Form}

abbrev pub terms : Arguments → List Tree
terms a = a.before.now ++ (elements_seen a.list ++ a.behind.now)

abbrev pub formed : Form → Op × List Tree
formed f = (f.op, terms f.arguments)
