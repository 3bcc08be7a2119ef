use Rattle.std.proofs.Common.{sym, subst, ◌∙◌}
use Rattle.std.proofs.lemmas.Bool.{false≢true}
use Rattle.def_slang.specs.BufferWrite.{IsAllowed}
use Rattle.sl_run.specs.Reading.{write_of}
use Rattle.sl_run.proofs.Found.{IsCutOf, found_module, only_tokens, one_module, small_allowed}
use Rattle.sl_run.proofs.buffer_write.BufferWrite.read.Goals as goal
use Rattle.sl_run.proofs.buffer_write.BufferWrite.read.Goals.{After-deref, in_default-via-in-Some+else-is_allowed, in_default-via-in_default}

cut : (c : After-deref) → IsCutOf c.args.text.now c.without_mark.result.now c.deref.result.now c.in_ok-tokens.tokens.items
cut c = record { mark = c.without_mark.ensures; cuts = c.in_ok-tokens.ensures; same = c.deref.ensures.value }

pub returns-in-Some-clause-found : goal.returns-in-Some-clause-found
returns-in-Some-clause-found c =
    found_module _ _ _ _ (write_of c.in-Some.write) (cut (goal.at.returns-in-Some-clause-found c).After-deref) c.in-Some.ensures.some (c.is_allowed.ensures.0 c.if-is_allowed.true)

pub returns-in-Some-clause-only : goal.returns-in-Some-clause-only
returns-in-Some-clause-only c = λ w is.
    let same = only_tokens _ _ _ _ w (cut (goal.at.returns-in-Some-clause-only c).After-deref) is in
    one_module (write_of c.in-Some.write) w c.in-Some.ensures.small (small_allowed w is.allowed) (sym c.in-Some.ensures.some ∙ same)

pub returns-clause-only : goal.returns-clause-only
returns-clause-only c = λ w is.
    let same = only_tokens _ _ _ _ w (cut (goal.at.returns-clause-only c).After-deref) is in
    elim c.in_default.branch [
      | in_default-via-in-Some+else-is_allowed b ↦
          let found = one_module (write_of b.in-Some.write) w b.in-Some.ensures.small (small_allowed w is.allowed) (sym b.in-Some.ensures.some ∙ same) in
          false≢true (sym b.if-is_allowed.false ∙ b.is_allowed.ensures.1 (subst IsAllowed (sym found) is.allowed))
      | in_default-via-in_default b ↦ b.in_default.ensures.none w (small_allowed w is.allowed) same
    ]
