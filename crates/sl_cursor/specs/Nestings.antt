-- How many forms are open, as the definitions have it.
use Rattle.def_tree.specs.Limits as lists
use Rattle.sl_cursor.specs.declared.nesting.Nesting.{Nesting}

-- how many forms of each kind are open
abbrev pub nesting_in : Nesting → lists.Nesting
nesting_in nesting =
    record {
      brackets = nesting.brackets;
      blocks = nesting.blocks;
      unary = nesting.unary;
      types = nesting.types;
      statements = nesting.statements;
    }
