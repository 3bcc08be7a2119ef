use Rattle.std.proofs.Common.{ap, ◌∙◌}
use Rattle.std.specs.Option.{option_map}
use Rattle.def_tree.specs.Operator.{operators, operator_text}
use Rattle.sl_tree.specs.View.{operator_of}
use Rattle.sl_machine.proofs.Tables.{held_of, rows_written}
use Rattle.sl_machine.proofs.words.operator_among.Goals as goal

pub returns : goal.returns
returns c = ap (held_of operator_of) c.in_ok-row.ensures ∙ rows_written operator_of operator_text c.args.text.now c.args.rows.now operators c.requires

pub returns-in_err-row : goal.returns-in_err-row
returns-in_err-row c =
    ap (option_map operator_of) c.from_residual.ensures ∙ ap (held_of operator_of) c.in_err-row.ensures
    ∙ rows_written operator_of operator_text c.args.text.now c.args.rows.now operators c.requires
