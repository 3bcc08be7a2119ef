use Rattle.std.proofs.lemmas.Result.{err_from_is_err_and}
use Rattle.def_module.specs.Syntax.{is_good, of_tokens}
use Rattle.sl_token.specs.View.{token_in, tokens_in}
use Rattle.sl_tree.specs.DeclView.{module_in}
use Rattle.sl_syntax.proofs.Stages.{lexical_told, refused_told, twice_told}
use Rattle.sl_syntax.proofs.front_end.syntax.Goals as goal

-- a lexical fault
pub returns-in_err-tokens-clause-fault : goal.returns-in_err-tokens-clause-fault
returns-in_err-tokens-clause-fault c =
    let passed = err_from_is_err_and c.from_residual.result c.from_residual.ensures.1 in
    rw (passed.1, passed.2) (lexical_told c.args.text.now c.in_err-tokens.field-0.0 c.in_err-tokens.ensures.fault)

-- tokens that are no module
pub returns-in_err-tree-clause-fault : goal.returns-in_err-tree-clause-fault
returns-in_err-tree-clause-fault c =
    let text = c.args.text.now in
    let passed = err_from_is_err_and c.from_residual-in_err-tree.result c.from_residual-in_err-tree.ensures.1 in
    rw (passed.1, passed.2)
    (refused_told text (tokens_in text c.in_ok-tokens.tokens) c.in_ok-tokens.ensures.tokens
    c.in_err-tree.field-0.0 c.in_err-tree.ensures.fault)

-- a module of which nothing is told
pub returns-in-None-clause-tree : goal.returns-in-None-clause-tree
returns-in-None-clause-tree c =
    of_tokens c.in_ok-tokens.ensures.tokens
    (is_good c.in_ok-tree.ensures.tree (rw c.in-None.is at c.in_ok-declared_twice.ensures))

-- a name that is declared twice
pub returns-clause-fault : goal.returns-clause-fault
returns-clause-fault c =
    let text = c.args.text.now in
    twice_told text (tokens_in text c.in_ok-tokens.tokens) c.in_ok-tokens.ensures.tokens
    (module_in text c.in_ok-tree.tree) (token_in text c.in-Some.name) c.in_ok-tree.ensures.tree
    (rw c.in-Some.is at c.in_ok-declared_twice.ensures)
    c.in_ok-twice-in-Some.field-0 c.in_ok-twice-in-Some.ensures
