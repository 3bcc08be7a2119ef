use Rattle.std.proofs.Common.{◌≡◌, ◌∙◌, [], ap, subst, sym}
use Rattle.sl_key.specs.Order.{key_cmp}
use Rattle.sl_key.specs.declared.key.Key.{Key}
use Rattle.def_query.specs.Keys.{IsIn}
use Rattle.def_sources.specs.Sources.{Sources}
use Rattle.def_check.specs.Body.{meaning_of}
use Rattle.def_check.specs.Roots.{roots_of}
use Rattle.qe_rules.specs.Asker.{HasClosure, LiesWithin}
use Rattle.rl_all.proofs.Answering.{answer_in, told_in}
use Rattle.rl_all.proofs.Closure.{closure_of, keys_in, length_keys, lies_none}
use Rattle.rl_all.proofs.worked.reply_alone.Goals as goal

pub returns-clause-queries : goal.returns-clause-queries
returns-clause-queries g c =
    let f = answer_in c.args.rules.now in
    let roots = roots_of c.args.rules.now f c.args.request.now in
    let pairs = c.reply.new.asker.pairs in
    let same : c.reply.new.asker.rules ≡ c.args.rules.now = c.reply.ensures.subject ∙ ap (λ a. a.rules) c.new-asker.ensures in (
      keys_in pairs,
      closure_of c.args.rules.now c.args.request.now f (told_in c.args.rules.now) pairs c.worked-queries.ensures.distinct
          (subst (λ (s : Sources). (key : Key) → IsIn key roots → HasClosure key_cmp (meaning_of s) pairs key) same
          (c.in_ok-made.ensures.has f (told_in c.args.rules.now)))
          (subst (λ (s : Sources). LiesWithin key_cmp (meaning_of s) pairs roots) same
          (c.reply.ensures.within f (told_in c.args.rules.now) []
          (lies_none c.new-asker.result.rules c.new-asker.result.pairs (ap (λ a. a.pairs) c.new-asker.ensures)))),
      length_keys pairs ∙ sym c.worked-queries.ensures.count,
    )
