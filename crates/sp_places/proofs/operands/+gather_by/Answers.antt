use Rattle.std.proofs.Common.{◌∙◌, sym}
use Rattle.sp_places.proofs.Gathering.{rest-kept, rest-passed}
use Rattle.sp_places.proofs.operands.+gather_by.Goals as goal

pub returns-in_ok-extend_from_slice-in-Rest : goal.returns-in_ok-extend_from_slice-in-Rest
returns-in_ok-extend_from_slice-in-Rest t c =
    rest-kept c.args.wanted c.args.kinds.now _ c.in-Rest.role c.args.words.now c.args.found.now.items c.extend_from_slice.new.self.items
    c.in-len1-up.len_at_least c.in-Rest.is (sym c.takes-in-Rest.ensures ∙ c.if-takes-2.true) c.in_ok-extend_from_slice-in-Rest.ensures.items

pub returns-else-takes-2 : goal.returns-else-takes-2
returns-else-takes-2 t c =
    rest-passed c.args.wanted c.args.kinds.now _ c.in-Rest.role c.args.words.now c.args.found.now.items
    c.in-len1-up.len_at_least c.in-Rest.is (sym c.takes-in-Rest.ensures ∙ c.if-takes-2.false)
