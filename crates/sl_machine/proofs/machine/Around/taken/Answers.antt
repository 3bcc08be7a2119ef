use Rattle.std.proofs.Common.{sym, ◌∙◌, codes}
use Rattle.sl_look.proofs.Looking.{in_after}
use Rattle.sl_machine.proofs.Naming.{begins_some, taken_missing, taken_found, taken_apart}
use Rattle.sl_machine.proofs.machine.Around.taken.Goals as goal

pub type_list-requires : goal.type_list-requires
type_list-requires c =
    let some = begins_some c.args.self.now.source.bytes.now (codes "<") c.args.place.now.rest.now c.requires.opening in
    in_after c.args.self.now.source c.args.place.now c.advance.result some.first some.after c.requires.within some.are c.advance.ensures

pub returns-in-Missing : goal.returns-in-Missing
returns-in-Missing c =
    let source = c.args.self.now.source.bytes.now in
    let some = begins_some source (codes "<") c.args.place.now.rest.now c.requires.opening in
    taken_missing source c.args.self.now.open.types c.args.place.now c.advance.result c.in-Missing.behind some.first some.after c.in_ok-behind.field-0 some.are c.advance.ensures
    c.in_ok-behind.ensures c.in-Missing.is

pub returns-then-leads_on : goal.returns-then-leads_on
returns-then-leads_on c =
    let source = c.args.self.now.source.bytes.now in
    let some = begins_some source (codes "<") c.args.place.now.rest.now c.requires.opening in
    taken_found source c.args.self.now.open.types c.args.place.now c.advance.result c.in-Found.behind some.first some.after c.in_ok-behind.field-0 c.in-Found.args some.are c.advance.ensures
    c.in_ok-behind.ensures c.in-Found.is (sym c.leads_on.ensures ∙ c.if-leads_on.true)

pub returns-else-leads_on : goal.returns-else-leads_on
returns-else-leads_on c =
    let source = c.args.self.now.source.bytes.now in
    let some = begins_some source (codes "<") c.args.place.now.rest.now c.requires.opening in
    taken_apart source c.args.self.now.open.types c.args.place.now c.advance.result c.in-Found.behind some.first some.after c.in_ok-behind.field-0 c.in-Found.args some.are c.advance.ensures
    c.in_ok-behind.ensures c.in-Found.is (sym c.leads_on.ensures ∙ c.if-leads_on.false)
