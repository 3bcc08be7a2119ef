-- What forms of trees stand for, for the tactics.
use Rattle.sl_tree.proofs.Views.{type_in-Word, type_in-Named}
use Rattle.sl_tree.proofs.Views.{expr_in-Number, expr_in-BooleanLiteral, expr_in-Itself, expr_in-Name, expr_in-FunctionalCast, expr_in-OwnType, expr_in-Group, expr_in-Call, expr_in-Index, expr_in-Member, expr_in-Unary, expr_in-Cast, expr_in-Binary, expr_in-Conditional}
use Rattle.sl_tree.proofs.Views.{stmt_in-Block, stmt_in-Local, stmt_in-Simple, stmt_in-Empty, stmt_in-Return, stmt_in-Break, stmt_in-Continue, stmt_in-If, stmt_in-IfElse, stmt_in-While, stmt_in-For}

-- what types stand for
pub ruleset type_forms = (type_in-Word, type_in-Named)

-- what expressions stand for
pub ruleset expr_forms = (expr_in-Number, expr_in-BooleanLiteral, expr_in-Itself, expr_in-Name, expr_in-FunctionalCast, expr_in-OwnType, expr_in-Group, expr_in-Call, expr_in-Index, expr_in-Member, expr_in-Unary, expr_in-Cast, expr_in-Binary, expr_in-Conditional)

-- what statements stand for
pub ruleset stmt_forms = (stmt_in-Block, stmt_in-Local, stmt_in-Simple, stmt_in-Empty, stmt_in-Return, stmt_in-Break, stmt_in-Continue, stmt_in-If, stmt_in-IfElse, stmt_in-While, stmt_in-For)
