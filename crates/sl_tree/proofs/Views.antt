-- What each form of a tree stands for.
use Rattle.std.proofs.Common.{◌≡◌, ℕ, Bool, List, map, sym, ap, ◌∙◌}
use Rattle.std.specs.Prelude.{Option}
use Rattle.std.specs.Option.{option_map}
use Rattle.def_tree.specs.ExprTree as exprs
use Rattle.def_tree.specs.StmtTree as stmts
use Rattle.def_tree.specs.TypeTree as types
use Rattle.sl_token.specs.View.{token_in}
use Rattle.sl_token.specs.declared.token.Token.{Token}
use Rattle.sl_tree.specs.View.{word_of, operator_of, unary_of, types_of, exprs_of, stmts_of, type_by, type_in, expr_by, expr_in, local_in, simple_in, start_in, stmt_by, stmt_in}
use Rattle.sl_tree.specs.declared.expressions.ExprTree.{ExprTree, fold-roll-ExprTree}
use Rattle.sl_tree.specs.declared.expressions.ExprTree.TheOpen.{ExprTree-F}
use Rattle.sl_tree.specs.declared.expressions.ExprTree.TheVariants as expr
use Rattle.sl_tree.specs.declared.operators.Operator.{Operator}
use Rattle.sl_tree.specs.declared.operators.UnaryOperator.{UnaryOperator}
use Rattle.sl_tree.specs.declared.statements.LocalTree.{LocalTree}
use Rattle.sl_tree.specs.declared.statements.SimpleTree.{SimpleTree}
use Rattle.sl_tree.specs.declared.statements.StartTree.{StartTree}
use Rattle.sl_tree.specs.declared.statements.StmtTree.{StmtTree, fold-roll-StmtTree}
use Rattle.sl_tree.specs.declared.statements.StmtTree.TheOpen.{StmtTree-F}
use Rattle.sl_tree.specs.declared.statements.StmtTree.TheVariants as stmt
use Rattle.sl_tree.specs.declared.types.TypeTree.{TypeTree, fold-roll-TypeTree}
use Rattle.sl_tree.specs.declared.types.TypeTree.TheOpen.{TypeTree-F}
use Rattle.sl_tree.specs.declared.types.TypeTree.TheVariants as type
use Rattle.sl_tree.specs.declared.types.TypeWord.{TypeWord}

pub type_in-Word : (source : List ℕ) (w : TypeWord) (first : Token) (path : List Token)
    → type_in source (type.Word w first path) ≡ types.Word (word_of w) (token_in source first) (map (token_in source) path)
unfolding type_in
type_in-Word source w first path =
    ap (type_in source) (sym (type.rolls-Word w first path)) ∙ fold-roll-TypeTree types.TypeTree (type_by source) (TypeTree-F.Word w first path)

pub type_in-Named : (source : List ℕ) (first : Token) (args : List TypeTree) (path : List Token)
    → type_in source (type.Named first args path) ≡ types.Named (token_in source first) (types_of (map (type_in source) args)) (map (token_in source) path)
unfolding type_in
type_in-Named source first args path =
    ap (type_in source) (sym (type.rolls-Named first args path)) ∙ fold-roll-TypeTree types.TypeTree (type_by source) (TypeTree-F.Named first args path)

pub expr_in-Number : (source : List ℕ) (token : Token)
    → expr_in source (expr.Number token) ≡ exprs.Number (token_in source token)
unfolding expr_in
expr_in-Number source token =
    ap (expr_in source) (sym (expr.rolls-Number token)) ∙ fold-roll-ExprTree exprs.ExprTree (expr_by source) (ExprTree-F.Number token)

pub expr_in-BooleanLiteral : (source : List ℕ) (value : Bool) (token : Token)
    → expr_in source (expr.BooleanLiteral value token) ≡ exprs.BooleanLiteral value (token_in source token)
unfolding expr_in
expr_in-BooleanLiteral source value token =
    ap (expr_in source) (sym (expr.rolls-BooleanLiteral value token)) ∙ fold-roll-ExprTree exprs.ExprTree (expr_by source) (ExprTree-F.BooleanLiteral value token)

pub expr_in-Itself : (source : List ℕ) (token : Token)
    → expr_in source (expr.Itself token) ≡ exprs.Itself (token_in source token)
unfolding expr_in
expr_in-Itself source token =
    ap (expr_in source) (sym (expr.rolls-Itself token)) ∙ fold-roll-ExprTree exprs.ExprTree (expr_by source) (ExprTree-F.Itself token)

pub expr_in-Name : (source : List ℕ) (token : Token) (args : List TypeTree)
    → expr_in source (expr.Name token args) ≡ exprs.Name (token_in source token) (types_of (map (type_in source) args))
unfolding expr_in
expr_in-Name source token args =
    ap (expr_in source) (sym (expr.rolls-Name token args)) ∙ fold-roll-ExprTree exprs.ExprTree (expr_by source) (ExprTree-F.Name token args)

pub expr_in-FunctionalCast : (source : List ℕ) (w : TypeWord) (token : Token) (operand : ExprTree)
    → expr_in source (expr.FunctionalCast w token operand) ≡ exprs.FunctionalCast (word_of w) (token_in source token) (expr_in source operand)
unfolding expr_in
expr_in-FunctionalCast source w token operand =
    ap (expr_in source) (sym (expr.rolls-FunctionalCast w token operand)) ∙ fold-roll-ExprTree exprs.ExprTree (expr_by source) (ExprTree-F.FunctionalCast w token operand)

pub expr_in-OwnType : (source : List ℕ) (token : Token)
    → expr_in source (expr.OwnType token) ≡ exprs.OwnType (token_in source token)
unfolding expr_in
expr_in-OwnType source token =
    ap (expr_in source) (sym (expr.rolls-OwnType token)) ∙ fold-roll-ExprTree exprs.ExprTree (expr_by source) (ExprTree-F.OwnType token)

pub expr_in-Group : (source : List ℕ) (opening : Token) (inner : ExprTree)
    → expr_in source (expr.Group opening inner) ≡ exprs.Group (token_in source opening) (expr_in source inner)
unfolding expr_in
expr_in-Group source opening inner =
    ap (expr_in source) (sym (expr.rolls-Group opening inner)) ∙ fold-roll-ExprTree exprs.ExprTree (expr_by source) (ExprTree-F.Group opening inner)

pub expr_in-Call : (source : List ℕ) (callee : ExprTree) (opening : Token) (args : List ExprTree)
    → expr_in source (expr.Call callee opening args) ≡ exprs.Call (expr_in source callee) (token_in source opening) (exprs_of (map (expr_in source) args))
unfolding expr_in
expr_in-Call source callee opening args =
    ap (expr_in source) (sym (expr.rolls-Call callee opening args)) ∙ fold-roll-ExprTree exprs.ExprTree (expr_by source) (ExprTree-F.Call callee opening args)

pub expr_in-Index : (source : List ℕ) (base : ExprTree) (opening : Token) (index : ExprTree)
    → expr_in source (expr.Index base opening index) ≡ exprs.Index (expr_in source base) (token_in source opening) (expr_in source index)
unfolding expr_in
expr_in-Index source base opening index =
    ap (expr_in source) (sym (expr.rolls-Index base opening index)) ∙ fold-roll-ExprTree exprs.ExprTree (expr_by source) (ExprTree-F.Index base opening index)

pub expr_in-Member : (source : List ℕ) (base : ExprTree) (name : Token)
    → expr_in source (expr.Member base name) ≡ exprs.Member (expr_in source base) (token_in source name)
unfolding expr_in
expr_in-Member source base name =
    ap (expr_in source) (sym (expr.rolls-Member base name)) ∙ fold-roll-ExprTree exprs.ExprTree (expr_by source) (ExprTree-F.Member base name)

pub expr_in-Unary : (source : List ℕ) (o : UnaryOperator) (token : Token) (operand : ExprTree)
    → expr_in source (expr.Unary o token operand) ≡ exprs.Unary (unary_of o) (token_in source token) (expr_in source operand)
unfolding expr_in
expr_in-Unary source o token operand =
    ap (expr_in source) (sym (expr.rolls-Unary o token operand)) ∙ fold-roll-ExprTree exprs.ExprTree (expr_by source) (ExprTree-F.Unary o token operand)

pub expr_in-Cast : (source : List ℕ) (opening : Token) (w : TypeWord) (token : Token) (operand : ExprTree)
    → expr_in source (expr.Cast opening w token operand) ≡ exprs.Cast (token_in source opening) (word_of w) (token_in source token) (expr_in source operand)
unfolding expr_in
expr_in-Cast source opening w token operand =
    ap (expr_in source) (sym (expr.rolls-Cast opening w token operand)) ∙ fold-roll-ExprTree exprs.ExprTree (expr_by source) (ExprTree-F.Cast opening w token operand)

pub expr_in-Binary : (source : List ℕ) (o : Operator) (token : Token) (left : ExprTree) (right : ExprTree)
    → expr_in source (expr.Binary o token left right) ≡ exprs.Binary (operator_of o) (token_in source token) (expr_in source left) (expr_in source right)
unfolding expr_in
expr_in-Binary source o token left right =
    ap (expr_in source) (sym (expr.rolls-Binary o token left right)) ∙ fold-roll-ExprTree exprs.ExprTree (expr_by source) (ExprTree-F.Binary o token left right)

pub expr_in-Conditional : (source : List ℕ) (condition : ExprTree) (question : Token) (yes' : ExprTree) (no' : ExprTree)
    → expr_in source (expr.Conditional condition question yes' no') ≡ exprs.Conditional (expr_in source condition) (token_in source question) (expr_in source yes') (expr_in source no')
unfolding expr_in
expr_in-Conditional source condition question yes' no' =
    ap (expr_in source) (sym (expr.rolls-Conditional condition question yes' no')) ∙ fold-roll-ExprTree exprs.ExprTree (expr_by source) (ExprTree-F.Conditional condition question yes' no')

pub stmt_in-Block : (source : List ℕ) (opening : Token) (inner : List StmtTree)
    → stmt_in source (stmt.Block opening inner) ≡ stmts.Block (token_in source opening) (stmts_of (map (stmt_in source) inner))
unfolding stmt_in
stmt_in-Block source opening inner =
    ap (stmt_in source) (sym (stmt.rolls-Block opening inner)) ∙ fold-roll-StmtTree stmts.StmtTree (stmt_by source) (StmtTree-F.Block opening inner)

pub stmt_in-Local : (source : List ℕ) (l : LocalTree)
    → stmt_in source (stmt.Local l) ≡ stmts.Local (local_in source l)
unfolding stmt_in
stmt_in-Local source l =
    ap (stmt_in source) (sym (stmt.rolls-Local l)) ∙ fold-roll-StmtTree stmts.StmtTree (stmt_by source) (StmtTree-F.Local l)

pub stmt_in-Simple : (source : List ℕ) (s : SimpleTree)
    → stmt_in source (stmt.Simple s) ≡ stmts.Simple (simple_in source s)
unfolding stmt_in
stmt_in-Simple source s =
    ap (stmt_in source) (sym (stmt.rolls-Simple s)) ∙ fold-roll-StmtTree stmts.StmtTree (stmt_by source) (StmtTree-F.Simple s)

pub stmt_in-Empty : (source : List ℕ) (semicolon : Token)
    → stmt_in source (stmt.Empty semicolon) ≡ stmts.Empty (token_in source semicolon)
unfolding stmt_in
stmt_in-Empty source semicolon =
    ap (stmt_in source) (sym (stmt.rolls-Empty semicolon)) ∙ fold-roll-StmtTree stmts.StmtTree (stmt_by source) (StmtTree-F.Empty semicolon)

pub stmt_in-Return : (source : List ℕ) (word : Token) (value : Option ExprTree)
    → stmt_in source (stmt.Return word value) ≡ stmts.Return (token_in source word) (option_map (expr_in source) value)
unfolding stmt_in
stmt_in-Return source word value =
    ap (stmt_in source) (sym (stmt.rolls-Return word value)) ∙ fold-roll-StmtTree stmts.StmtTree (stmt_by source) (StmtTree-F.Return word value)

pub stmt_in-Break : (source : List ℕ) (word : Token)
    → stmt_in source (stmt.Break word) ≡ stmts.Break (token_in source word)
unfolding stmt_in
stmt_in-Break source word =
    ap (stmt_in source) (sym (stmt.rolls-Break word)) ∙ fold-roll-StmtTree stmts.StmtTree (stmt_by source) (StmtTree-F.Break word)

pub stmt_in-Continue : (source : List ℕ) (word : Token)
    → stmt_in source (stmt.Continue word) ≡ stmts.Continue (token_in source word)
unfolding stmt_in
stmt_in-Continue source word =
    ap (stmt_in source) (sym (stmt.rolls-Continue word)) ∙ fold-roll-StmtTree stmts.StmtTree (stmt_by source) (StmtTree-F.Continue word)

pub stmt_in-If : (source : List ℕ) (word : Token) (condition : ExprTree) (yes' : StmtTree)
    → stmt_in source (stmt.If word condition yes') ≡ stmts.If (token_in source word) (expr_in source condition) (stmt_in source yes')
unfolding stmt_in
stmt_in-If source word condition yes' =
    ap (stmt_in source) (sym (stmt.rolls-If word condition yes')) ∙ fold-roll-StmtTree stmts.StmtTree (stmt_by source) (StmtTree-F.If word condition yes')

pub stmt_in-IfElse : (source : List ℕ) (word : Token) (condition : ExprTree) (yes' : StmtTree) (no' : StmtTree)
    → stmt_in source (stmt.IfElse word condition yes' no') ≡ stmts.IfElse (token_in source word) (expr_in source condition) (stmt_in source yes') (stmt_in source no')
unfolding stmt_in
stmt_in-IfElse source word condition yes' no' =
    ap (stmt_in source) (sym (stmt.rolls-IfElse word condition yes' no')) ∙ fold-roll-StmtTree stmts.StmtTree (stmt_by source) (StmtTree-F.IfElse word condition yes' no')

pub stmt_in-While : (source : List ℕ) (word : Token) (condition : ExprTree) (body : StmtTree)
    → stmt_in source (stmt.While word condition body) ≡ stmts.While (token_in source word) (expr_in source condition) (stmt_in source body)
unfolding stmt_in
stmt_in-While source word condition body =
    ap (stmt_in source) (sym (stmt.rolls-While word condition body)) ∙ fold-roll-StmtTree stmts.StmtTree (stmt_by source) (StmtTree-F.While word condition body)

pub stmt_in-For : (source : List ℕ) (word : Token) (start : StartTree) (condition : Option ExprTree) (step : Option SimpleTree) (body : StmtTree)
    → stmt_in source (stmt.For word start condition step body) ≡ stmts.For (token_in source word) (start_in source start) (option_map (expr_in source) condition) (option_map (simple_in source) step) (stmt_in source body)
unfolding stmt_in
stmt_in-For source word start condition step body =
    ap (stmt_in source) (sym (stmt.rolls-For word start condition step body)) ∙ fold-roll-StmtTree stmts.StmtTree (stmt_by source) (StmtTree-F.For word start condition step body)
