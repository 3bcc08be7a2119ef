use Rattle.std.proofs.Common.{[], ◌∷◌, map, refl, sym, ap, ◌∙◌, arith}
use Rattle.def_tree.specs.Limits.{plain}
use Rattle.def_decl_reading.specs.Form.{reads, Listed, As, Made, name, with_first}
use Rattle.sl_token.specs.View.{token_in}
use Rattle.sl_decl.proofs.Forming.{begun, formed, yes, made}
use Rattle.sl_cursor.proofs.Following.{follows_err}
use Rattle.sl_cursor.proofs.Listed.{listed_none, listed_more, listed_last, listed_stops, fewer_left}
use Rattle.std.proofs.Common.{◌++◌}
use Rattle.def_reading.specs.TypeAhead.{names}
use Rattle.sl_cursor.proofs.Following.{read_as, stops_as, follows_must}
use Rattle.sl_decl.proofs.parser.Parser.more_names.Goals as goal

pub loop-names-init : goal.loop-names-init
loop-names-init c =
    let source = c.args.self.now.source in
    let view = token_in source.bytes.now in
    let part = (reads (name (λ name. Made name))) in
    record {
      more = [];
      are = c.in_ok-push.ensures.ok ∙ ap (λ names. names ++ c.args.first ∷ []) c.new-names.ensures;
      holds = listed_none source view with_first [] part c.args.here.now [] refl c.requires;
    }

pub loop-names-preserved : goal.loop-names-preserved
loop-names-preserved c =
    let source = c.args.self.now.source in
    let view = token_in source.bytes.now in
    let part = (reads (name (λ name. Made name))) in
    let so_far = c.loop-names.invariant in
    record {
      more = so_far.more ++ c.in_ok-name.name ∷ [];
      are = c.in_ok-push-2.ensures.ok ∙ ap (λ names. names ++ c.in_ok-name.name ∷ []) so_far.are;
      holds = listed_more source view with_first [] part c.args.here.now so_far.more
          (so_far.more ++ c.in_ok-name.name ∷ []) c.loop-names.next
          c.in_ok-name.name c.in_ok-name.behind c.in-Some.field-0-0 c.in-Some.after so_far.holds (formed (name (λ name.
          Made name)) (yes begun c.in_ok-name.ensures (λ k. made k c.in_ok-name.ensures.behind (λ p. refl)))) refl
          c.in-Some.ensures;
    }

pub loop-names-smaller : goal.loop-names-smaller
loop-names-smaller c =
    fewer_left c.args.self.now.source c.loop-names.next.place c.in-Some.after.place
    c.loop-names.invariant.holds.stands.stands c.in-Some.ensures.behind.stands
    (omega (arith, c.in_ok-name.ensures.on, c.in-Some.ensures.on))

pub returns-in-None : goal.returns-in-None
returns-in-None c =
    let source = c.args.self.now.source in
    let view = token_in source.bytes.now in
    let part = (reads (name (λ name. Made name))) in
    let so_far = c.loop-names.invariant in
    let names = so_far.more ++ c.in_ok-name.name ∷ [] in
    let make = with_first (view c.args.first) in
    let whole = listed_last source view with_first [] part (λ all. all) refl (λ first others. refl) c.args.here.now
    so_far.more names c.loop-names.next
    c.in_ok-name.name c.in_ok-name.behind so_far.holds (formed (name (λ name. Made name))
    (yes begun c.in_ok-name.ensures (λ k. made k c.in_ok-name.ensures.behind (λ p. refl)))) refl c.in-None.ensures in
    read_as source (λ names. map view names) (λ names. map view names) make (reads (Listed (name (λ name. Made name))))
    c.args.here.now names c.push-in-loop-names.new.self c.in_ok-name.behind whole
    (λ h k. sym (ap (map view) (c.in_ok-push-2.ensures.ok ∙ ap (λ names. names ++ c.in_ok-name.name ∷ []) so_far.are)))

pub returns-in_err-name : goal.returns-in_err-name
returns-in_err-name c =
    let source = c.args.self.now.source in
    let view = token_in source.bytes.now in
    let part = (reads (name (λ name. Made name))) in
    let stop = c.in_err-name.field-0.0 in
    let make = with_first (view c.args.first) in
    follows_err source (λ names. map view names) (reads (As make (Listed (name (λ name. Made name))))) c.args.here.now
    c.from_residual-in_err-name.result stop c.from_residual-in_err-name.ensures.1
    (stops_as source (λ names. map view names) (λ names. map view names) make (reads (Listed (name (λ name. Made name))))
    c.args.here.now stop
    (listed_stops source view with_first [] part (λ names. map view names) c.args.here.now c.loop-names.invariant.more
    c.loop-names.next stop c.loop-names.invariant.holds
    (follows_must source view names plain (λ name. reads (Made name)) c.loop-names.next stop c.in_err-name.ensures)))
