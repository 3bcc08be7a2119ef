use Rattle.std.proofs.Common.{true, ◌∷◌, refl}
use Rattle.def_decl_reading.specs.DeclReading as decls
use Rattle.sl_token.specs.View.{token_in}
use Rattle.sl_tree.specs.DeclView.{decl_in}
use Rattle.sl_cursor.specs.Nestings.{nesting_in}
use Rattle.sl_decl.proofs.Forming.{begun, formed, stops, behind, taken, made_of, inside_read, inside_stops, block_stops, first_stops, made_stops}
use Rattle.sl_decl.proofs.Choosing.{behind_as}
use Rattle.sl_decl.proofs.Choosing.{first_stops_as}
use Rattle.sl_decl.proofs.parser.Parser.attributed.Goals as goal

pub returns : goal.returns
returns c =
    let source = c.args.self.now.source in
    let bytes = source.bytes.now in
    formed (decls.attributed_form (nesting_in c.args.around.now) (token_in bytes c.args.first))
    (behind begun (inside_read (λ n. decls.attr_form n (token_in bytes c.args.first)) c.in_bracket.ensures
    c.in_ok-attr.ensures) (λ t1 k1. behind_as k1 (c.in_ok-attrs.ensures t1 (λ h. (k1.holds h).0))
    (λ t2 k2. taken k2 c.access-access.ensures (λ k3. made_of k3
    (c.in_ok-function.ensures (t1 ∷ t2) (λ h. (k3.holds h).0)) (λ p. refl)))))

pub returns-in_err-attr : goal.returns-in_err-attr
returns-in_err-attr c =
    let source = c.args.self.now.source in
    let bytes = source.bytes.now in
    stops true source (decl_in bytes) (decls.attributed_form (nesting_in c.args.around.now) (token_in bytes c.args.first))
    c.args.here.now c.from_residual.result c.in_err-attr.field-0.0 c.from_residual.ensures.1
    (first_stops (inside_stops (λ n. decls.attr_form n (token_in bytes c.args.first)) c.in_bracket.ensures
    c.in_err-attr.ensures))

pub returns-in_err-attrs : goal.returns-in_err-attrs
returns-in_err-attrs c =
    let source = c.args.self.now.source in
    let bytes = source.bytes.now in
    stops true source (decl_in bytes) (decls.attributed_form (nesting_in c.args.around.now) (token_in bytes c.args.first))
    c.args.here.now c.from_residual-in_err-attrs.result c.in_err-attrs.field-0.0 c.from_residual-in_err-attrs.ensures.1
    (behind begun (inside_read (λ n. decls.attr_form n (token_in bytes c.args.first)) c.in_bracket.ensures
    c.in_ok-attr.ensures) (λ t1 k1. first_stops_as _ (c.in_err-attrs.ensures t1 (λ h. (k1.holds h).0))))

pub returns-in_err-function : goal.returns-in_err-function
returns-in_err-function c =
    let source = c.args.self.now.source in
    let bytes = source.bytes.now in
    stops true source (decl_in bytes) (decls.attributed_form (nesting_in c.args.around.now) (token_in bytes c.args.first))
    c.args.here.now c.from_residual-in_err-function.result c.in_err-function.field-0.0
    c.from_residual-in_err-function.ensures.1
    (behind begun (inside_read (λ n. decls.attr_form n (token_in bytes c.args.first)) c.in_bracket.ensures
    c.in_ok-attr.ensures) (λ t1 k1. behind_as k1 (c.in_ok-attrs.ensures t1 (λ h. (k1.holds h).0))
    (λ t2 k2. taken k2 c.access-access.ensures (λ k3. made_stops
    (block_stops (c.in_err-function.ensures (t1 ∷ t2) (λ h. (k3.holds h).0)))))))

pub access-access-requires : goal.access-access-requires
access-access-requires c = (c.in_ok-attrs.ensures c.in_ok-attr.ensures.tried.tree c.in_ok-attr.ensures.tried.same).behind
