use Rattle.std.proofs.Common.{◌≡◌, ◌+◌, ◌*◌, ◌<◌, ◌≤◌, rules, sym, ap, ◌∙◌, subst, map, arith}
use Rattle.std.specs.Prelude.{IfOk}
use Rattle.std.proofs.lemmas.List.Elements.{All-weaker}
use Rattle.def_layout.specs.Shape as shapes
use Rattle.def_layout.specs.Shape.{HasLeaves, leaf_count, most_bytes}
use Rattle.def_layout.proofs.Existing.{some_alignment}
use Rattle.lay_out.proofs.Follows.{IsSoFar, begin_low, ends_low, low_alignment, so_far_all, so_far_more, so_far_none}
use Rattle.lay_out.proofs.Shapes.{shape_in-Int, shape_in-Uint, shape_in-Fields}
use Rattle.lay_out.specs.Takes.{IsPart}
use Rattle.lay_out.specs.View.{leaf_of, shape_in, shapes_in}
use Rattle.lay_out.specs.declared.shape.Shape.{the_lemmas}
use Rattle.lay_out.proofs.std430.+parts.Goals as goal

pub lay-returns-in-Int : goal.lay-returns-in-Int
lay-returns-in-Int t c =
    subst (λ s. IfOk c.lay_scalar.result (λ part. IsPart s part)) (sym (ap shape_in c.in-Int.is ∙ shape_in-Int)) c.lay_scalar.ensures

pub lay-returns-in-Uint : goal.lay-returns-in-Uint
lay-returns-in-Uint t c =
    subst (λ s. IfOk c.lay_scalar-in-Uint.result (λ part. IsPart s part)) (sym (ap shape_in c.in-Uint.is ∙ shape_in-Uint)) c.lay_scalar-in-Uint.ensures

pub lay-lay_fields-requires : goal.lay-lay_fields-requires
lay-lay_fields-requires t c =
    let view : shape_in c.args.shape.now ≡ shapes.Struct (shapes_in c.as_slice.result.now) =
    ap shape_in c.in-Fields.is ∙ shape_in-Fields c.in-Fields.fields ∙ ap (λ l. shapes.Struct (shapes_in l)) (sym c.as_slice.ensures) in
    (search (rules, the_lemmas), ((subst HasLeaves view c.requires.full).1, subst (λ s. leaf_count s ≤ 1024) view c.requires.few))

pub lay-returns-in-Fields : goal.lay-returns-in-Fields
lay-returns-in-Fields t c =
    subst (λ s. IfOk c.lay_fields.result (λ part. IsPart s part))
    (sym (ap shape_in c.in-Fields.is ∙ shape_in-Fields c.in-Fields.fields ∙ ap (λ l. shapes.Struct (shapes_in l)) (sym c.as_slice.ensures))) c.lay_fields.ensures

pub lay_fields-loop-number-init : goal.lay_fields-loop-number-init
lay_fields-loop-number-init t c =
    subst (λ l. IsSoFar c.args.fields.now 0 0 1 (map leaf_of l)) (sym c.new-found.ensures.items) (so_far_none c.args.fields.now c.requires.full)

pub lay_fields-next_multiple-offset-requires-clause-some : goal.lay_fields-next_multiple-offset-requires-clause-some
lay_fields-next_multiple-offset-requires-clause-some t c =
    let made = c.in_ok-inner.ensures in
    let some = some_alignment (shape_in c.index-fields-number.result) in
    let e = made.align in
    omega arith

pub lay_fields-next_multiple-offset-requires-clause-fits : goal.lay_fields-next_multiple-offset-requires-clause-fits
lay_fields-next_multiple-offset-requires-clause-fits t c =
    let made = c.in_ok-inner.ensures in
    let low = low_alignment (shape_in c.index-fields-number.result) in
    let e = made.align in
    let end = ends_low c.args.fields.now c.loop-number.number c.loop-number.end c.loop-number.align (map leaf_of c.loop-number.found.items) c.requires.few c.loop-number.invariant in
    omega arith

pub lay_fields-append-requires : goal.lay_fields-append-requires
lay_fields-append-requires t c =
    let more = so_far_more c.args.fields.now c.loop-number.number c.loop-number.end c.loop-number.align (map leaf_of c.loop-number.found.items)
    c.index-fields-number.result c.in_ok-inner.inner c.next_multiple-offset.result
    c.loop-number-test.true c.index-fields-number.is c.loop-number.invariant c.in_ok-inner.ensures c.next_multiple-offset.ensures in
    let low = ends_low c.args.fields.now _ _ _ _ c.requires.few more in
    All-weaker (λ found. found.offset + c.next_multiple-offset.result ≤ 1024 * most_bytes) (λ found. found.offset + c.next_multiple-offset.result < 4294967296)
    (λ found h. omega arith) c.in_ok-inner.inner.found.items
    (begin_low (shape_in c.index-fields-number.result) c.in_ok-inner.inner c.next_multiple-offset.result (1024 * most_bytes) c.in_ok-inner.ensures low)

pub lay_fields-overflow_add-end : goal.lay_fields-overflow_add-end
lay_fields-overflow_add-end t c =
    let more = so_far_more c.args.fields.now c.loop-number.number c.loop-number.end c.loop-number.align (map leaf_of c.loop-number.found.items)
    c.index-fields-number.result c.in_ok-inner.inner c.next_multiple-offset.result
    c.loop-number-test.true c.index-fields-number.is c.loop-number.invariant c.in_ok-inner.ensures c.next_multiple-offset.ensures in
    let low = ends_low c.args.fields.now _ _ _ _ c.requires.few more in
    search rules

pub lay_fields-loop-number-preserved : goal.lay_fields-loop-number-preserved
lay_fields-loop-number-preserved t c =
    let more = so_far_more c.args.fields.now c.loop-number.number c.loop-number.end c.loop-number.align (map leaf_of c.loop-number.found.items)
    c.index-fields-number.result c.in_ok-inner.inner c.next_multiple-offset.result
    c.loop-number-test.true c.index-fields-number.is c.loop-number.invariant c.in_ok-inner.ensures c.next_multiple-offset.ensures in
    rw (c.max-align.ensures, c.in_ok-append.ensures) more

pub lay_fields-returns : goal.lay_fields-returns
lay_fields-returns t c =
    so_far_all c.args.fields.now c.loop-number.number c.loop-number.end
    (record { size = c.next_multiple.result; align = c.loop-number.align; found = c.loop-number.found }) c.loop-number-test.false c.loop-number.invariant c.next_multiple.ensures
