use Rattle.std.proofs.Common.{◌∙◌}
use Rattle.sl_machine.proofs.Joined.{join_prefix, join_casting, join_left, join_chosen}
use Rattle.sl_machine.proofs.frames.Frame.join.Goals as goal

pub returns-in-Prefix : goal.returns-in-Prefix
returns-in-Prefix c =
    λ source. join_prefix source c.args.self c.in-Prefix.operator c.in-Prefix.token c.in_ok-new-in-Prefix.field-0 c.args.last c.in-Prefix.is c.in_ok-new-in-Prefix.ensures

pub returns-in-Casting : goal.returns-in-Casting
returns-in-Casting c =
    λ source. join_casting source c.args.self c.in-Casting.opening c.in-Casting.word c.in-Casting.token c.in_ok-new-in-Casting.field-0 c.args.last c.in-Casting.is c.in_ok-new-in-Casting.ensures

pub returns-in-Left : goal.returns-in-Left
returns-in-Left c =
    λ source. join_left source c.args.self c.in-Left.operator c.in-Left.token c.in-Left.left c.in_ok-left-in-Left.left c.in_ok-new-in-Left.field-0 c.args.last c.in-Left.is
    c.in_ok-left-in-Left.ensures c.in_ok-new-in-Left.ensures

pub returns-in-Chosen : goal.returns-in-Chosen
returns-in-Chosen c =
    λ source. join_chosen source c.args.self c.in-Chosen.question c.in-Chosen.condition c.in-Chosen.first c.condition.inside.inner.value c.in_ok-first-in-Chosen.first
    c.in_ok-new-in-Chosen.field-0 c.args.last c.in-Chosen.is (c.condition.view_is ∙ c.in_ok-condition-in-Chosen.ensures) c.in_ok-first-in-Chosen.ensures c.in_ok-new-in-Chosen.ensures
