use Rattle.std.proofs.Common.{[], ◌∷◌, map, refl, sym, ap, ◌∙◌, arith}
use Rattle.std.specs.Prelude.{Err}
use Rattle.def_tree.specs.Limits.{in_bracket, opens}
use Rattle.def_decl_reading.specs.Form.{ASign, reads, Many, with_first}
use Rattle.def_decl_reading.specs.DeclReading as decls
use Rattle.sl_token.specs.View.{token_in}
use Rattle.sl_tree.specs.DeclView.{attr_in}
use Rattle.sl_cursor.specs.Nestings.{nesting_in}
use Rattle.sl_decl.specs.Attributes.{more_attrs}
use Rattle.sl_decl.proofs.Forming.{inside_read}
use Rattle.sl_cursor.proofs.Following.{follows_err}
use Rattle.sl_cursor.proofs.Listed.{fewer_left}
use Rattle.sl_decl.proofs.Looping.{many_none, many_more, many_last, many_stops}
use Rattle.std.proofs.Common.{◌++◌, subst}
use Rattle.def_tree.specs.Limits.{Nesting}
use Rattle.sl_cursor.specs.Following.{Follows}
use Rattle.sl_cursor.proofs.Following.{read_as, stops_as}
use Rattle.sl_decl.proofs.parser.Parser.attrs.Goals as goal

pub loop-opening-init : goal.loop-opening-init
loop-opening-init c =
    let source = c.args.self.now.source in
    let view = attr_in source.bytes.now in
    let inside = in_bracket (nesting_in c.args.around.now) in
    let entry = opens inside.brackets in
    let part = decls.attr_form inside in
    record {
      more = [];
      are = c.in_ok-push.ensures.ok ∙ ap (λ attrs. attrs ++ c.args.first ∷ []) c.new-attrs.ensures;
      holds = many_none source view (ASign "[") entry part c.args.here.now [] refl c.requires.at;
    }

pub loop-opening-preserved : goal.loop-opening-preserved
loop-opening-preserved c =
    let source = c.args.self.now.source in
    let view = attr_in source.bytes.now in
    let inside = in_bracket (nesting_in c.args.around.now) in
    let entry = opens inside.brackets in
    let part = decls.attr_form inside in
    let so_far = c.loop-opening.invariant in
    record {
      more = so_far.more ++ c.in_ok-attr.attr ∷ [];
      are = c.in_ok-push-2.ensures.ok ∙ ap (λ attrs. attrs ++ c.in_ok-attr.attr ∷ []) so_far.are;
      holds = many_more source view (ASign "[") entry part c.args.here.now so_far.more
          (so_far.more ++ c.in_ok-attr.attr ∷ []) c.loop-opening.next c.in-Some.opening c.in-Some.behind
          c.in_ok-attr.attr c.in_ok-attr.after so_far.holds c.in-Some.ensures (inside_read (λ n.
          decls.attr_form n (token_in source.bytes.now c.in-Some.opening)) c.in_bracket-inside.ensures
          c.in_ok-attr.ensures) refl;
    }

pub loop-opening-smaller : goal.loop-opening-smaller
loop-opening-smaller c =
    fewer_left c.args.self.now.source c.loop-opening.next.place c.in_ok-attr.after.place
    c.loop-opening.invariant.holds.stands.stands c.in_ok-attr.ensures.behind.stands
    (omega (arith, c.in-Some.ensures.on, c.in_ok-attr.ensures.on))

pub returns-in_default : goal.returns-in_default
returns-in_default c =
    λ tree o.
    let source = c.args.self.now.source in
    let view = attr_in source.bytes.now in
    let inside = in_bracket (nesting_in c.args.around.now) in
    let entry = opens inside.brackets in
    let part = decls.attr_form inside in
    let so_far = c.loop-opening.invariant in
    read_as source (λ attrs. map view attrs) (λ attrs. map view attrs) (with_first tree)
    (reads (Many (ASign "[") entry part)) c.args.here.now so_far.more c.loop-opening.attrs c.loop-opening.next
    (many_last source view (ASign "[") entry part c.args.here.now so_far.more c.loop-opening.next so_far.holds
    c.in_default.ensures)
    (λ h k. ap (λ first. with_first first (map view so_far.more)) (o k) ∙ sym (ap (map view) so_far.are))

pub returns-in_err-attr : goal.returns-in_err-attr
returns-in_err-attr c =
    λ tree o.
    let source = c.args.self.now.source in
    let view = attr_in source.bytes.now in
    let inside = in_bracket (nesting_in c.args.around.now) in
    let entry = opens inside.brackets in
    let part = decls.attr_form inside in
    let stop = c.in_err-attr.field-0.0 in
    let token = token_in source.bytes.now c.in-Some.opening in
    follows_err source (λ attrs. map view attrs) (reads (more_attrs (nesting_in c.args.around.now) tree)) c.args.here.now
    c.from_residual-in_err-attr.result stop c.from_residual-in_err-attr.ensures.1
    (stops_as source (λ attrs. map view attrs) (λ attrs. map view attrs) (with_first tree)
    (reads (Many (ASign "[") entry part)) c.args.here.now stop
    (many_stops source view (ASign "[") entry part (λ attrs. map view attrs) c.args.here.now c.loop-opening.invariant.more
    c.loop-opening.next c.in-Some.opening c.in-Some.behind stop c.loop-opening.invariant.holds c.in-Some.ensures
    (subst (λ (n : Nesting). Follows source view (reads (decls.attr_form n token)) c.in-Some.behind (Err stop))
    c.in_bracket-inside.ensures c.in_err-attr.ensures)))
