use Rattle.std.proofs.Common.{◌++◌, ap, ◌∙◌}
use Rattle.std.specs.Prelude.{codes}
use Rattle.std.specs.Fmt.{decimal}
use Rattle.sl_run.proofs.Lines.{line_of_five}
use Rattle.sl_run.proofs.status.source_fault.Goals as goal

pub returns : goal.returns
returns c =
    c.push-3.ensures.items
    ∙ ap (λ t. t ++ codes ".slang\n") (c.push_name.ensures.items
    ∙ ap (λ t. t ++ c.args.name.now) (c.push-2.ensures.items
    ∙ ap (λ t. t ++ codes " failed on ") (c.push_number.ensures.items
    ∙ ap (λ t. t ++ decimal c.args.root) (c.push.ensures.items
    ∙ ap (λ t. t ++ codes "slangrun: root ") c.new-line.ensures))))
    ∙ line_of_five (codes "slangrun: root ") (decimal c.args.root) (codes " failed on ") c.args.name.now (codes ".slang")
