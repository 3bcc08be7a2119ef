use Rattle.std.proofs.Common.{ap, sym, ◌∙◌}
use Rattle.std.specs.Option.{option_map, option_copied}
use Rattle.sp_words.proofs.Entries.{find-entries, kinds}
use Rattle.sp_words.proofs.table.kinds_in.Goals as goal

pub returns-in_err-entry : goal.returns-in_err-entry
returns-in_err-entry c =
    let found = ap option_copied (sym (c.in_err-entry.was {u = tt})) ∙ c.find_entry.ensures in
    rw c.from_residual.ensures
    (ap (option_map kinds) found ∙ find-entries c.args.op c.args.entries.now)

pub returns : goal.returns
returns c =
    let found = ap option_copied (sym (c.in_ok-entry.was {u = tt})) ∙ c.find_entry.ensures in
    ap (option_map kinds) found ∙ find-entries c.args.op c.args.entries.now
