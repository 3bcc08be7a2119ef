use Rattle.std.proofs.Common.{◌≡◌, ◌∙◌, ap, refl, sym, true, false, Some, None}
use Rattle.std.specs.Option.{option_copied}
use Rattle.std.specs.Prelude.{not, ◌&&◌}
use Rattle.sl_scopes.specs.Names.{declared_in}
use Rattle.sl_scopes.specs.Seen.{clashes_with, seen_in}
use Rattle.sl_scopes.proofs.Clashing.{kept, notes_more}
use Rattle.sl_scopes.proofs.scope.enter.Goals as goal
use Rattle.sl_scopes.proofs.scope.enter.Goals.{then-this+else-overloads, else-this}

pub returns-in-Some-clause-ok : goal.returns-in-Some-clause-ok
returns-in-Some-clause-ok c before notes =
    let this = declared_in c.args.source.now c.args.this in
    let has : seen_in c.args.seen.now this.name.text ≡ Some c.in-Some.overloads.now =
    ap (seen_in c.args.seen.now) (sym c.text_at-text.ensures) ∙ sym c.get.ensures.value ∙ ap option_copied c.in-Some.is in
    let none = notes this ∙ ap (clashes_with this.overloads) has ∙ ap (λ b. not (this.overloads && b)) c.if-overloads.true ∙ ap (λ b. not (b && true)) c.if-this.true in (
      none,
      notes_more before this c.args.seen.now c.args.seen.now notes none
          (kept c.args.seen.now this.name.text this.overloads (has ∙ ap Some (c.if-overloads.true ∙ sym c.if-this.true))),
    )

pub returns-in-Some-2-clause-err : goal.returns-in-Some-2-clause-err
returns-in-Some-2-clause-err c before notes =
    let this = declared_in c.args.source.now c.args.this in
    let has : seen_in c.args.seen.now this.name.text ≡ Some c.in-Some.overloads.now =
    ap (seen_in c.args.seen.now) (sym c.text_at-text.ensures) ∙ sym c.get.ensures.value ∙ ap option_copied c.in-Some.is in
    let tells = notes this ∙ ap (clashes_with this.overloads) has in
    elim c.if-this.branch [
      | then-this+else-overloads w ↦
          (refl, tells ∙ ap (λ b. not (this.overloads && b)) w.if-overloads.false ∙ ap (λ b. not (b && false)) w.if-this.true)
      | else-this w ↦ (refl, tells ∙ ap (λ b. not (b && c.in-Some.overloads.now)) w.if-this.false)
    ]

pub returns-in_ok-put-in-None-clause-ok : goal.returns-in_ok-put-in-None-clause-ok
returns-in_ok-put-in-None-clause-ok c before notes =
    let this = declared_in c.args.source.now c.args.this in
    let lacks : seen_in c.args.seen.now this.name.text ≡ None =
    ap (seen_in c.args.seen.now) (sym c.text_at-text.ensures) ∙ sym c.get.ensures.value ∙ ap option_copied c.in-None.is in
    let none = notes this ∙ ap (clashes_with this.overloads) lacks in
    (none, notes_more before this c.args.seen.now c.put.new.seen notes none (rw (sym c.text_at-text.ensures) c.in_ok-put-in-None.ensures))
